use Rattle.pon_burst.proofs.MapRules.{is_map_of_rising}
use Rattle.pon_demand.proofs.packing.structures.Goals as goal

pub returns-clause-map : goal.returns-clause-map
returns-clause-map c =
    rw (c.lay_bursts.ensures.structures, c.in_ok-structures.ensures.items)
    (is_map_of_rising c.args.gap c.args.profile c.args.grants.now c.requires.in_map_order c.requires.short_series c.requires.few c.requires.fitting)
