use Rattle.std.proofs.Common.{◌≡◌, ◌∙◌, arith, false, rules, sym, true}
use Rattle.std.proofs.lemmas.Bool.{false≢true}
use Rattle.pon_admit.specs.Roster.{comes_before}
use Rattle.pon_guar.proofs.RestoredParts.{found, in_order_done, in_order_more, in_order_one, neighbours, not_found}
use Rattle.pon_record.specs.declared.row.RawRow.{RawRow}
use Rattle.pon_audit.specs.Openings.{admitted_row}
use Rattle.pon_audit.proofs.OpenedStates.{order_trans, roster_in_order, rows_in_order}
use Rattle.pon_audit.proofs.openings.are_in_map_order.Goals as goal

pub loop-place-init : goal.loop-place-init
loop-place-init c = in_order_one (λ (r s : RawRow). comes_before (admitted_row r) (admitted_row s) ≡ true) c.args.rows.now

pub returns-then-not-comes_before : goal.returns-then-not-comes_before
returns-then-not-comes_before c =
    let other : c.comes_before.result ≡ false = search rules in
    not_found (λ h. false≢true (sym other ∙ c.comes_before.ensures ∙ neighbours (λ (r s : RawRow). comes_before (admitted_row r) (admitted_row s) ≡ true) c.args.rows.now c.loop-place.place c.index-rows-place.result c.index-rows-place-in-loop-place.result
    (omega arith) (omega arith) (search rules) (search rules) (rows_in_order c.args.rows.now h)))

pub loop-place-preserved : goal.loop-place-preserved
loop-place-preserved c =
    let is : c.comes_before.result ≡ true = search rules in
    in_order_more (λ (r s : RawRow). comes_before (admitted_row r) (admitted_row s) ≡ true) order_trans c.args.rows.now c.loop-place.place c.index-rows-place.result c.index-rows-place-in-loop-place.result
    (omega arith) (omega arith) (search rules) (search rules) c.loop-place.invariant (sym c.comes_before.ensures ∙ is)

pub returns : goal.returns
returns c = found (roster_in_order c.args.rows.now (in_order_done (λ (r s : RawRow). comes_before (admitted_row r) (admitted_row s) ≡ true) c.args.rows.now c.loop-place.place (omega arith) c.loop-place.invariant))
