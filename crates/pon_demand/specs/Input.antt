-- The input from which the rates of a map are computed.
use Rattle.std.specs.Prelude.{ℕ, List}
use Rattle.pon_admit.specs.declared.row.Row.{Row}
use Rattle.pon_admit.specs.declared.rule.Rule.{Rule}
use Rattle.pon_guar.specs.declared.account.Account.{Account}

-- the rule of the port, the gap before each burst, the admitted Alloc-IDs, and their accounts in the report book
pub record Input : Type 0 where
  pub rule : Rule
  pub gap : ℕ
  pub roster : List Row
  pub book : List Account
