use Rattle.std.proofs.Common.{◌≡◌, ◌∙◌, ◌++◌, ap, drop, length, map, rules, take}
use Rattle.pon_lists.proofs.Parts.{written}
use Rattle.pon_guar.specs.ReportChecks.{with_report}
use Rattle.pon_guar.specs.Window.{IsPlaceOf, grants_at, words_to_from}
use Rattle.pon_guar.specs.Loads.{after_reported}
use Rattle.pon_guar.specs.Reports.{after_occupancies}
use Rattle.pon_guar.proofs.Books.{counted_after, noted_place, occupancies_length, reported_rise}
use Rattle.pon_guar.proofs.loads.Loads.take_report.Goals as goal

pub count_report-next-requires-clause-there : goal.count_report-next-requires-clause-there
count_report-next-requires-clause-there c =
    let r = c.args.report.now in
    let maps = c.self.inside.window in
    let noted : c.note_report.new.self ≡ map (with_report r.frame r.onu) maps = search rules in
    let there : IsPlaceOf r.frame maps r.map = search rules in
    rw noted (noted_place r.frame r.onu maps r.map there)

-- the accounts after the report, which are written over those before
accounts_after : (c : goal.After-hint_next) → take c.self.inside.accounts.len (c.count_report-next.new.accounts ++ drop (length c.count_report-next.new.accounts) c.self.inside.accounts.items)
    ≡ after_occupancies (λ i. words_to_from c.args.report.now.onu i c.args.report.now.frame c.self.inside.window) c.args.report.now.frame (grants_at c.args.report.now.frame c.args.report.now.onu c.self.inside.window) c.args.occupancies.now c.self.inside.accounts.items
accounts_after c =
    let f = c.args.report.now.frame in
    let u = c.args.report.now.onu in
    let ns = c.args.occupancies.now in
    let maps = c.self.inside.window in
    let book = c.self.inside.accounts.items in
    let noted : c.note_report.new.self ≡ map (with_report f u) maps = search rules in
    let len : c.self.inside.accounts.len ≡ length book = search rules in
    let counted = counted_after f u maps c.note_report.new.self ns c.deref_mut.result.now book c.count_report-next.new.accounts noted c.deref_mut.ensures.value c.count_report-next.ensures in
    written book c.count_report-next.new.accounts c.self.inside.accounts.len len (ap length counted ∙ occupancies_length (λ i. words_to_from u i f maps) f (grants_at f u maps) ns book) ∙ counted

pub invariant_of-self-2 : goal.invariant_of-self-2
invariant_of-self-2 c =
    let maps = c.self.inside.window in
    rw (accounts_after c) (reported_rise (λ i. words_to_from c.args.report.now.onu i c.args.report.now.frame maps) c.args.report.now.frame (grants_at c.args.report.now.frame c.args.report.now.onu maps) c.args.occupancies.now c.self.inside.accounts.items c.self.invariant)

pub returns-clause-ok : goal.returns-clause-ok
returns-clause-ok c =
    let noted : c.note_report.new.self ≡ map (with_report c.args.report.now.frame c.args.report.now.onu) c.self.inside.window = search rules in
    (λ j. record { accounts = accounts_after c j; window = (c.hint_next.ensures ∙ noted) j }) ∙ ap (λ l. after_reported l c.args.report.now.frame c.args.report.now.onu c.args.occupancies.now) c.self.view_is
