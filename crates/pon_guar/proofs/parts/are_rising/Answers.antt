use Rattle.std.proofs.Common.{◌<◌, ◌≤◌, ℕ, arith, rules, tests}
use Rattle.pon_guar.proofs.RestoredParts.{found, in_order_done, in_order_more, in_order_one, neighbours, not_found, rising_trans}
use Rattle.pon_guar.proofs.parts.are_rising.Goals as goal

pub loop-place-init : goal.loop-place-init
loop-place-init c = in_order_one (λ (m n : ℕ). m < n) c.args.onus.now

pub returns-then-ge : goal.returns-then-ge
returns-then-ge c =
    let ge : c.index-onus-place-in-loop-place.result ≤ c.index-onus-place.result = search (rules, tests) in
    not_found (λ h. let lt : c.index-onus-place.result < c.index-onus-place-in-loop-place.result = neighbours (λ (m n : ℕ). m < n) c.args.onus.now c.loop-place.place c.index-onus-place.result c.index-onus-place-in-loop-place.result
    (omega arith) (omega arith) (search rules) (search rules) h in
    absurd (omega (arith, ge, lt)))

pub loop-place-preserved : goal.loop-place-preserved
loop-place-preserved c =
    let lt : c.index-onus-place.result < c.index-onus-place-in-loop-place.result = search (rules, tests) in
    in_order_more (λ (m n : ℕ). m < n) rising_trans c.args.onus.now c.loop-place.place c.index-onus-place.result c.index-onus-place-in-loop-place.result
    (omega arith) (omega arith) (search rules) (search rules) c.loop-place.invariant lt

pub returns : goal.returns
returns c = found (in_order_done (λ (m n : ℕ). m < n) c.args.onus.now c.loop-place.place (omega arith) c.loop-place.invariant)
