use Rattle.std.proofs.Common.{◌≡◌, ◌*◌, List, drop, IfSome, sym, ◌∙◌, subst}
use Rattle.pon_bwmap.specs.Alloc.{Alloc}
use Rattle.pon_bwmap.specs.MapReading.{ReadsStructure}
use Rattle.pon_bwmap.proofs.RowReading.{no_rows, one_more, first_break}
use Rattle.pon_bwmap.proofs.decode.read_rows.Goals as goal

pub loop-k-init : goal.loop-k-init
loop-k-init c = (no_rows c.args.bytes.now, c.requires.room)

pub returns-in-Some-clause-fault : goal.returns-in-Some-clause-fault
returns-in-Some-clause-fault c =
    let n = c.next_place-place.ensures in
    first_break c.args.bytes.now c.args.count c.loop-k.k c.loop-k.corrected c.loop-k.place c.next_place-place.result c.in_ok-row.in_row c.in_ok-row.row c.start-start.result c.in-Some.fault
    c.loop-k.invariant.0 c.loop-k-test.true c.in_ok-row.ensures.ok c.start-start.ensures n.first n.starts n.continues c.in-Some.ensures

pub loop-k-preserved : goal.loop-k-preserved
loop-k-preserved c =
    let n = c.next_place-place.ensures in
    let reads : ReadsStructure (drop (8 * c.loop-k.k) c.args.bytes.now) c.in_ok-row.row c.from-corrected.result = rw c.from-corrected.ensures c.in_ok-row.ensures.ok in
    let more = one_more c.args.bytes.now c.loop-k.k c.loop-k.corrected c.loop-k.place c.next_place-place.result c.from-corrected.result c.in_ok-row.row c.start-start.result
    c.loop-k.invariant.0 reads c.start-start.ensures n.first n.starts n.continues (sym c.start_fault.ensures ∙ c.in_default.is) in
    let pushed = c.push_row-rows.ensures c.loop-k.invariant.0.rows c.loop-k.invariant.1 in
    (more.0, subst (λ (rows : List Alloc). IfSome c.push_row-rows.result (λ v. v.items ≡ rows)) (sym more.1) pushed)
