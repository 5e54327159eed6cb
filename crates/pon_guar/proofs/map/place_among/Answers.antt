use Rattle.std.proofs.Common.{◌∙◌, rules}
use Rattle.std.specs.Prelude.{nat_lt}
use Rattle.std.proofs.lemmas.Fn.{always_returns_same}
use Rattle.std.proofs.Math.Seq.{take-length, drop-length}
use Rattle.pon_lists.proofs.Parts.{parts_at}
use Rattle.pon_guar.proofs.Polls.{below_kept, below_left_out, parted}
use Rattle.pon_guar.proofs.map.place_among.Goals as goal

pub returns-then-are_below-clause-below : goal.returns-then-are_below-clause-below
returns-then-are_below-clause-below c = take-length c.args.onus.now ∙ below_kept c.args.onu c.args.onus.now (c.are_below.ensures c.if-are_below.true)

pub returns-then-are_below-clause-others : goal.returns-then-are_below-clause-others
returns-then-are_below-clause-others c = drop-length c.args.onus.now ∙ below_left_out c.args.onu c.args.onus.now (c.are_below.ensures c.if-are_below.true)

pub returns-clause-below : goal.returns-clause-below
returns-clause-below c =
    let facts = c.partition_point.ensures in
    let parted = facts.partitioned (λ v. nat_lt v c.args.onu) (always_returns_same _ _ _ (λ a r f k. search rules)) (parted c.args.onu c.args.onus.now c.requires) in
    (parts_at (λ v. nat_lt v c.args.onu) c.args.onus.now c.partition_point.result facts.bound parted).0

pub returns-clause-others : goal.returns-clause-others
returns-clause-others c =
    let facts = c.partition_point.ensures in
    let parted = facts.partitioned (λ v. nat_lt v c.args.onu) (always_returns_same _ _ _ (λ a r f k. search rules)) (parted c.args.onu c.args.onus.now c.requires) in
    (parts_at (λ v. nat_lt v c.args.onu) c.args.onus.now c.partition_point.result facts.bound parted).1
