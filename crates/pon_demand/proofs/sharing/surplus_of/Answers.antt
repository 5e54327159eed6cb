use Rattle.std.proofs.Common.{◌≡◌, ap, arith, length, rules}
use Rattle.std.proofs.lemmas.List.{length-map}
use Rattle.pon_admit.specs.Roster.{capacity}
use Rattle.pon_admit.proofs.Rules.{few_allowed}
use Rattle.pon_demand.specs.Demands.{demand_of}
use Rattle.pon_demand.proofs.ClassItems.{guaranteed_demanded}
use Rattle.pon_demand.proofs.RosterMaps.{guaranteed_fits}
use Rattle.pon_demand.proofs.sharing.surplus_of.Goals as goal

pub sum_of_guaranteed-requires : goal.sum_of_guaranteed-requires
sum_of_guaranteed-requires c =
    omega (arith, ap length c.requires.demands, length-map c.args.input.now.roster (demand_of c.args.input.now), c.requires.admitted.few_allocs, few_allowed c.args.input.now.rule)

pub overflow_sub-result : goal.overflow_sub-result
overflow_sub-result c =
    let capacity_is : c.capacity.result ≡ capacity c.args.input.now.rule c.args.input.now.gap c.args.input.now.roster = search rules in
    let sum = guaranteed_demanded c.args.input.now c.args.demands.now c.requires.demands in
    let fits = guaranteed_fits c.args.input.now c.requires.admitted in
    omega (arith, c.sum_of_guaranteed.ensures, sum, fits, capacity_is, c.get.ensures.value, c.from.ensures)

pub returns : goal.returns
returns c =
    let capacity_is : c.capacity.result ≡ capacity c.args.input.now.rule c.args.input.now.gap c.args.input.now.roster = search rules in
    let sum = guaranteed_demanded c.args.input.now c.args.demands.now c.requires.demands in
    omega (arith, c.sum_of_guaranteed.ensures, sum, capacity_is, c.get.ensures.value, c.from.ensures)
