use Rattle.std.proofs.Common.{◌+◌, ◌≡◌, ◌∙◌, arith, false, length, sym, take, true}
use Rattle.pon_units.specs.Granted.{onus_granted}
use Rattle.pon_port.proofs.InRange.{counted_on}
use Rattle.pon_port.proofs.ranges.onu_count.Goals as goal
use Rattle.pon_port.proofs.ranges.onu_count.Goals.{then-begins_onu, else-begins_onu}

pub loop-place-preserved : goal.loop-place-preserved
loop-place-preserved c =
    let gs = c.args.grants.now in
    let place = c.loop-place.place in
    let count = c.loop-place.count in
    let so_far = c.loop-place.invariant in
    elim c.if-begins_onu.branch [
      | then-begins_onu w ↦
          let more : length (onus_granted (take (place + 1) gs)) ≡ count + 1
          = counted_on gs place count true c.loop-place-test.true so_far.counted (λ g here. sym w.if-begins_onu.true ∙ c.begins_onu.ensures g here) in
          record { counted = omega (arith, w.count-is, more); few = omega (arith, w.count-is, so_far.few) }
      | else-begins_onu w ↦
          let same : length (onus_granted (take (place + 1) gs)) ≡ count + 0
          = counted_on gs place count false c.loop-place-test.true so_far.counted (λ g here. sym w.if-begins_onu.false ∙ c.begins_onu.ensures g here) in
          record { counted = omega (arith, w.count-is, same); few = omega (arith, w.count-is, so_far.few) }
    ]
