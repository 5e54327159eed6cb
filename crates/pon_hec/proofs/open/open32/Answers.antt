use Rattle.std.proofs.Common.{◌≡◌, ◌+◌, ◌^◌, refl, arith}
use Rattle.pon_hec.proofs.Unique.{one_reading}
use Rattle.pon_hec.proofs.open.open32.Goals as goal

pub returns-in-Some-clause-ok : goal.returns-in-Some-clause-ok
returns-in-Some-clause-ok c =
    let limit : c.from-2.result + 1 ≡ 2 ^ 32 = omega (arith, c.from-2.ensures) in
    rw limit at (rw c.from.ensures at c.in-Some.ensures.some)

pub returns-in-Some-clause-only : goal.returns-in-Some-clause-only
returns-in-Some-clause-only c = λ m k r.
    let limit : c.from-2.result + 1 ≡ 2 ^ 32 = omega (arith, c.from-2.ensures) in
    one_reading (2 ^ 32) c.args.word m k _ _ (omega arith) (omega (arith, c.ranges.word.fits)) r (rw limit at (rw c.from.ensures at c.in-Some.ensures.some))

pub returns-in-None-clause-fault : goal.returns-in-None-clause-fault
returns-in-None-clause-fault c =
    let limit : c.from-2.result + 1 ≡ 2 ^ 32 = omega (arith, c.from-2.ensures) in
    (λ _. rw limit at (rw c.from.ensures at c.in-None.ensures.none), λ _. refl)
