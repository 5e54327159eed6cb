use Rattle.std.proofs.Common.{◌∙◌, ap, arith, sym}
use Rattle.std.specs.Option.{option_or}
use Rattle.pon_guar.specs.Sums.{sum_now}
use Rattle.pon_guar.proofs.RunningSums.{now_last}
use Rattle.pon_guar.proofs.sums.+search_sum.Goals as goal

pub returns-in-Some : goal.returns-in-Some
returns-in-Some t c =
    let maps = c.in_ok-map.ensures.cases in
    let sums = c.in_ok-last.ensures.cases in
    sym (now_last c.args.onu c.args.alloc_id c.args.maps.now c.in_ok-map.earlier.now c.in_ok-map.map.now c.args.sums.now c.in_ok-last.others.now c.in_ok-last.last.now maps.0 sums.0 (omega (arith, maps.1, sums.1, c.requires.as_many))
    ∙ ap (λ r. option_or r (sum_now c.args.onu c.args.alloc_id c.in_ok-map.earlier.now c.in_ok-last.others.now)) (sym c.sum_after.ensures ∙ c.in-Some.is))

pub returns-in-None : goal.returns-in-None
returns-in-None t c =
    let maps = c.in_ok-map.ensures.cases in
    let sums = c.in_ok-last.ensures.cases in
    c.search_sum.ensures
    ∙ sym (now_last c.args.onu c.args.alloc_id c.args.maps.now c.in_ok-map.earlier.now c.in_ok-map.map.now c.args.sums.now c.in_ok-last.others.now c.in_ok-last.last.now maps.0 sums.0 (omega (arith, maps.1, sums.1, c.requires.as_many))
    ∙ ap (λ r. option_or r (sum_now c.args.onu c.args.alloc_id c.in_ok-map.earlier.now c.in_ok-last.others.now)) (sym c.sum_after.ensures ∙ c.in-None.is))
