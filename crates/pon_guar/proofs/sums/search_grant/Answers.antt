use Rattle.std.proofs.Common.{rules}
use Rattle.pon_guar.proofs.RunningSums.{none_from, stands_from}
use Rattle.pon_guar.proofs.sums.search_grant.Goals as goal

pub returns-in-None : goal.returns-in-None
returns-in-None c =
    none_from c.args.onu c.args.alloc_id c.args.grants.now c.series_of-own.result.grants.now c.place_in.result
    c.series_of-own.ensures.grants (search rules) c.in-None.is

pub returns-in-Some : goal.returns-in-Some
returns-in-Some c =
    stands_from c.args.onu c.args.alloc_id c.args.grants.now c.series_of-own.result.grants.now c.series_of-own.result.first c.in-Some.place c.place_in.result
    c.requires c.series_of-own.ensures.placed (search rules) c.in-Some.is
