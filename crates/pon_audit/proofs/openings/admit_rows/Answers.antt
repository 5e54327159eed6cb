use Rattle.std.proofs.Common.{◌≡◌, ◌<◌, ◌∙◌, arith, false, length, map, rules, subst, sym, take, true}
use Rattle.std.specs.Prelude.{None}
use Rattle.std.specs.Option.{is_some}
use Rattle.pon_admit.specs.Roster.{IsInMapOrder, IsInRange, refuses_admit, with_row}
use Rattle.pon_audit.specs.Openings.{admitted_row}
use Rattle.pon_audit.proofs.OpenedStates.{none_told, not_admitted, one_more_admitted, row_last, some_told}
use Rattle.pon_audit.proofs.openings.admit_rows.Goals as goal

pub returns-then-is_some : goal.returns-then-is_some
returns-then-is_some c =
    let all = c.args.rows.now in
    let i = c.loop-raw.raw-index in
    let raw = c.raw-item.result in
    let kept = c.loop-raw.invariant.1 in
    let row : c.new-row.result ≡ admitted_row raw = c.new-row.ensures.row in
    let order : IsInMapOrder (map admitted_row all) = c.are_in_map_order.ensures.0 (search rules) in
    let lt : i < length all = omega arith in
    let there : is_some c.admit_refusal.result ≡ true = search rules in
    let some = some_told c.admit_refusal.result there in
    let seen : c.admit_refusal.result ≡ refuses_admit c.args.rule c.args.gap (map admitted_row (take i all)) (admitted_row raw)
    = c.admit_refusal.ensures ∙ (λ j. refuses_admit (kept j).rule (kept j).gap (kept j).rows (row j)) in
    not_admitted c.args.rule c.args.gap all i raw lt c.raw-item.is order some.0 (sym seen ∙ some.1)

pub loop-raw-preserved : goal.loop-raw-preserved
loop-raw-preserved c =
    let all = c.args.rows.now in
    let i = c.loop-raw.raw-index in
    let raw = c.raw-item.result in
    let kept = c.loop-raw.invariant.1 in
    let row : c.new-row.result ≡ admitted_row raw = c.new-row.ensures.row in
    let order : IsInMapOrder (map admitted_row all) = c.are_in_map_order.ensures.0 (search rules) in
    let lt : i < length all = omega arith in
    let absent : is_some c.admit_refusal.result ≡ false = search rules in
    let none : refuses_admit c.args.rule c.args.gap (map admitted_row (take i all)) (admitted_row raw) ≡ None
    = sym (c.admit_refusal.ensures ∙ (λ j. refuses_admit (kept j).rule (kept j).gap (kept j).rows (row j))) ∙ none_told c.admit_refusal.result absent in
    let range : IsInRange (admitted_row raw) = subst IsInRange row c.new-row.ensures.in_range in
    let taken : c.take_row.new.self ≡ record { rule = c.loop-raw.roster.rule; gap = c.loop-raw.roster.gap; rows = with_row c.new-row.result c.loop-raw.roster.rows } = search rules in (
      one_more_admitted c.args.rule c.args.gap all i raw lt c.raw-item.is order range none c.loop-raw.invariant.0,
      taken
          ∙ (λ j. record { rule = (kept j).rule; gap = (kept j).gap; rows = with_row (row j) (kept j).rows })
          ∙ (λ j. record { rule = c.args.rule; gap = c.args.gap; rows = row_last c.args.rule c.args.gap all i raw lt c.raw-item.is order j }),
    )
