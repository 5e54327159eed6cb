use Rattle.std.proofs.Common.{rules}
use Rattle.std.specs.Prelude.{nat_lt}
use Rattle.std.proofs.lemmas.Fn.{always_returns_same}
use Rattle.pon_lists.proofs.Parts.{parts_at}
use Rattle.pon_guar.proofs.Accounts.{rising_parted}
use Rattle.pon_guar.proofs.account.place_of.Goals as goal

pub returns-clause-below : goal.returns-clause-below
returns-clause-below c =
    let facts = c.partition_point.ensures in
    let parted = facts.partitioned (λ a. nat_lt a.alloc_id c.args.alloc_id) (always_returns_same _ _ _ (λ a r f k. search rules)) (rising_parted c.args.alloc_id c.args.accounts.now c.requires) in
    (parts_at (λ a. nat_lt a.alloc_id c.args.alloc_id) c.args.accounts.now c.partition_point.result facts.bound parted).0

pub returns-clause-others : goal.returns-clause-others
returns-clause-others c =
    let facts = c.partition_point.ensures in
    let parted = facts.partitioned (λ a. nat_lt a.alloc_id c.args.alloc_id) (always_returns_same _ _ _ (λ a r f k. search rules)) (rising_parted c.args.alloc_id c.args.accounts.now c.requires) in
    (parts_at (λ a. nat_lt a.alloc_id c.args.alloc_id) c.args.accounts.now c.partition_point.result facts.bound parted).1
