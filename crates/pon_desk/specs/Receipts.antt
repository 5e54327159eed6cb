-- The receipt of a post.
use Rattle.std.specs.Prelude.{ℕ}
use Rattle.pon_desk.specs.declared.receipt.Placed.{Placed}

-- a receipt: the port, the entry that it kept with its place, the number of the seat, and the number of posts of that
-- seat at the port before
pub record Receipt : Type 0 where
  pub port : ℕ
  pub placed : Placed
  pub seat : ℕ
  pub nth : ℕ
