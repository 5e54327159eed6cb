use Rattle.std.proofs.Common.{◌≡◌, ◌+◌, ◌-◌, ◌<◌, ◌≤◌, ℕ, length, take, drop, arith, rules, ap}
use Rattle.std.proofs.lemmas.List.{length-take}
use Rattle.pon_link.proofs.Growth.{hold_part, open_further}
use Rattle.pon_link.proofs.held.RecordBuffer.feed.Goals as goal

pub hold_all-requires : goal.hold_all-requires
hold_all-requires g c =
    let k = c.loop-taken.taken in
    let size = c.min-size.result in
    let part = take (k + size - k) (drop k c.args.piece.now) in
    let some : 0 < c.safe_size.result = omega (arith, c.min-size.ensures, c.if-size-eq0.false) in
    let short : length part ≤ c.safe_size.result = omega (arith, c.min-size.ensures, length-take (k + size - k) (drop k c.args.piece.now)) in
    (search rules, (c.safe_size.ensures.some some, c.safe_size.ensures.within part short))

pub loop-taken-preserved : goal.loop-taken-preserved
loop-taken-preserved g c =
    let k = c.loop-taken.taken in
    let size = c.min-size.result in
    let piece = c.args.piece.now in
    let part = take (k + size - k) (drop k piece) in
    let back : k + size - k ≡ size = omega arith in
    let is : part ≡ take size (drop k piece) = ap (λ (n : ℕ). take n (drop k piece)) back in
    record {
      inside = omega (arith, c.min-size.ensures, c.loop-taken.invariant.inside);
      held = hold_part c.args.self.now c.loop-taken.self c.hold_all.new.self piece part k size is c.loop-taken.invariant.held c.hold_all.ensures.held;
      while_open = open_further c.args.self.now c.loop-taken.self piece k size c.loop-taken.invariant.held (λ more lt. c.safe_size.ensures.begins more (omega (arith, c.min-size.ensures, lt))) c.loop-taken.invariant.while_open;
    }
