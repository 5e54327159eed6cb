use Rattle.std.proofs.Common.{◌∙◌, rules, sym}
use Rattle.std.specs.Prelude.{nat_lt}
use Rattle.std.proofs.lemmas.Fn.{always_returns_same}
use Rattle.std.proofs.lemmas.List.Sorted.{IsPartitionedBy-ltb}
use Rattle.pon_lists.proofs.Parts.{parts_at}
use Rattle.pon_guar.proofs.Series.{by_onu}
use Rattle.pon_guar.proofs.RestoredParts.{polled_first, polled_none}
use Rattle.pon_guar.proofs.parts.is_polled.Goals as goal

pub returns-in-Some : goal.returns-in-Some
returns-in-Some c =
    let gs = c.args.grants.now in
    let facts = c.partition_point-below.ensures in
    let parted = facts.partitioned (λ g. nat_lt g.onu c.args.onu) (always_returns_same _ _ _ (λ a r f k. search rules)) (IsPartitionedBy-ltb (λ g. g.onu) gs c.args.onu (by_onu gs c.requires)) in
    c.eq.ensures ∙ polled_first c.args.onu gs _ _ c.requires
    (sym c.in-Some.ensures.cases.0 ∙ c.split_at.ensures.back ∙ (parts_at (λ g. nat_lt g.onu c.args.onu) gs c.partition_point-below.result facts.bound parted).1)

pub returns-in-None : goal.returns-in-None
returns-in-None c =
    let gs = c.args.grants.now in
    let facts = c.partition_point-below.ensures in
    let parted = facts.partitioned (λ g. nat_lt g.onu c.args.onu) (always_returns_same _ _ _ (λ a r f k. search rules)) (IsPartitionedBy-ltb (λ g. g.onu) gs c.args.onu (by_onu gs c.requires)) in
    polled_none c.args.onu gs _
    (c.split_at.ensures.back ∙ (parts_at (λ g. nat_lt g.onu c.args.onu) gs c.partition_point-below.result facts.bound parted).1) c.in-None.ensures.cases
