use Rattle.std.proofs.Common.{rules}
use Rattle.std.specs.Prelude.{nat_lt}
use Rattle.std.proofs.lemmas.Fn.{always_returns_same}
use Rattle.std.proofs.lemmas.List.Sorted.{IsPartitionedBy-ltb}
use Rattle.pon_lists.proofs.Parts.{parts_at}
use Rattle.pon_guar.proofs.Series.{by_onu}
use Rattle.pon_guar.proofs.map.count_below.Goals as goal

pub returns-clause-others : goal.returns-clause-others
returns-clause-others c =
    let gs = c.args.grants.now in
    let u = c.args.onu in
    let facts = c.partition_point.ensures in
    (parts_at (λ g. nat_lt g.onu u) gs c.partition_point.result facts.bound
    (facts.partitioned (λ g. nat_lt g.onu u) (always_returns_same _ _ _ (λ a r f k. search rules)) (IsPartitionedBy-ltb (λ g. g.onu) gs u (by_onu gs c.requires)))).1
