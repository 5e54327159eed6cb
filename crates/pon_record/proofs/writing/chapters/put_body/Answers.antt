use Rattle.std.proofs.Common.{◌≤◌, ◌++◌, List, ℕ, length, ap, sym, subst, ◌∙◌}
use Rattle.std.specs.Prelude.{All}
use Rattle.std.specs.Int.{w32, w64, to_be_bytes}
use Rattle.pon_admit.specs.declared.rule.Rule.{Rule}
use Rattle.pon_state.specs.State.{State}
use Rattle.pon_state.specs.declared.checks.TheConstants.{MAX_ENTRIES}
use Rattle.pon_state.specs.Entry.{Entry}
use Rattle.pon_record.specs.Format.{counted, number}
use Rattle.pon_record.specs.declared.version.Version.TheVariants as version
use Rattle.pon_record.specs.Fields.{rule_in}
use Rattle.pon_record.specs.Openings.{opening_in}
use Rattle.pon_record.specs.Chapters.{entry, port}
use Rattle.pon_record.specs.Bodies.{FitsCounts, HoldsFittingCert, recorded_opening}
use Rattle.pon_record.proofs.FitChapters.{certs_fit, few_entries}
use Rattle.pon_record.proofs.FitOpenings.{opening_counts}
use Rattle.pon_record.proofs.Put.{put_after}
use Rattle.pon_record.proofs.writing.chapters.put_body.Goals as goal

pub put_opening-requires : goal.put_opening-requires
put_opening-requires c =
    let o : State = c.args.chapter.now.opening in
    subst FitsCounts (sym c.opening-opening.ensures.opening) (opening_counts c.args.chapter.now.number o c.opening-opening.ensures.lawful c.opening-opening.ensures.in_range)

pub put_entries-requires-clause-few : goal.put_entries-requires-clause-few
put_entries-requires-clause-few c =
    subst (λ (es : List Entry). length es ≤ MAX_ENTRIES) (sym c.entries.ensures.entries) (few_entries c.args.chapter.now c.entries.ensures.lawful)

pub put_entries-requires-clause-certs : goal.put_entries-requires-clause-certs
put_entries-requires-clause-certs c =
    subst (λ (es : List Entry). All (λ (e : Entry). HoldsFittingCert e.reply) es) (sym c.entries.ensures.entries) (certs_fit c.args.chapter.now c.entries.ensures.lawful)

pub returns : goal.returns
returns c =
    let old = c.args.bytes.now.items in
    let h = c.args.chapter.now in
    let r = h.opening.rule in
    let ruled = c.rule.ensures ∙ c.roster.ensures.rule ∙ ap (λ (s : State). s.rule) c.opening-opening.ensures.opening in
    let e0 = c.in_ok-put_rule.ensures ∙ ap (λ (r : Rule). old ++ (rule_in version.Two).write r) ruled in
    let e1 = c.in_ok-put_port.ensures in
    let e2 = c.in_ok-put_u64.ensures ∙ ap (λ (n : ℕ). c.put_port.new.bytes.items ++ to_be_bytes w64 n) c.number.ensures in
    let e3 = c.in_ok-put_opening.ensures ∙ ap (λ (s : State). c.put_u64.new.bytes.items ++ (opening_in version.Two s.rule).write (recorded_opening s)) c.opening-opening.ensures.opening in
    let e4 = c.in_ok-put_entries.ensures ∙ ap (λ (es : List Entry). c.put_opening.new.bytes.items ++ (counted (number w32) MAX_ENTRIES entry).write es) c.entries.ensures.entries in
    let a0 = (rule_in version.Two).write r in
    let a1 = a0 ++ port.write c.args.port in
    let a2 = a1 ++ to_be_bytes w64 h.number in
    let opening = (opening_in version.Two r).write (recorded_opening h.opening) in
    let t1 = put_after old a0 (port.write c.args.port) c.put_rule.new.bytes.items c.put_port.new.bytes.items e0 e1 in
    let t2 = put_after old a1 (to_be_bytes w64 h.number) c.put_port.new.bytes.items c.put_u64.new.bytes.items t1 e2 in
    let t3 = put_after old a2 opening c.put_u64.new.bytes.items c.put_opening.new.bytes.items t2 e3 in
    put_after old (a2 ++ opening) ((counted (number w32) MAX_ENTRIES entry).write h.entries) c.put_opening.new.bytes.items c.put_entries.new.bytes.items t3 e4
