-- The settlement of the ports of a run.
use Rattle.std.specs.Prelude.{ℕ, ◌≡◌, ◌==◌, ◌&&◌, suc, Bool, true, List, [], ◌∷◌, ◌++◌, codes, decimal, is_ok, length, MatchResult, Some, Result, Ok, Err}
use Rattle.pon_desk.specs.Counts.{ClosedPorts}
use Rattle.pon_desk.specs.Settling.{IsSettled, PortHistory, history_at}
use Rattle.pon_desk.specs.declared.unsettled.Unsettled.{Unsettled}
use Rattle.pon_desk.specs.declared.unsettled.Unsettled.TheVariants as fault
use Rattle.pon_run.specs.declared.settling.Account.{Account}
use Rattle.pon_run.specs.declared.settling.Settlement.{Settlement}

-- the port is settled with the chapters and receipts of the account, and this is the number of the receipts
pub record IsSettledBy (closed : ClosedPorts) (account : Account) (receipts : ℕ) : Type 0 where
  pub history : PortHistory
  pub of_port : history_at closed account.port account.chapters.items ≡ Some history
  pub settled : IsSettled history account.port account.receipts.items
  pub count : length account.receipts.items ≡ receipts

-- the settlement is that of the account's port; if it has a number of receipts, the port is settled with them
pub record IsOf (closed : ClosedPorts) (account : Account) (s : Settlement) : Type 0 where
  pub port : s.port ≡ account.port
  pub result : MatchResult s.result (IsSettledBy closed account) (λ why. Unit {0})

-- these are the settlements of the accounts, in their order
abbrev pub AreOf : ClosedPorts → List Account → List Settlement → Type 0
AreOf closed [] ss = ss ≡ []
AreOf closed (a ∷ rest) [] = ⊥
AreOf closed (a ∷ rest) (s ∷ ss) = IsOf closed a s × AreOf closed rest ss

-- the ports are settled, and numbered in order from this number on
abbrev pub settled_from : ℕ → List Settlement → Bool
settled_from port [] = true
settled_from port (s ∷ ss) = (s.port == port) && (is_ok s.result && settled_from (suc port) ss)

-- what is not right
abbrev pub fault_text : Unsettled → List ℕ
fault_text (fault.Chapter k) = codes " chapter " ++ decimal k
fault_text (fault.Receipt k) = codes " receipt " ++ decimal k
fault_text fault.Count = codes " count"

-- settled port P receipts N, or unsettled port P and what is not right, and a line feed
abbrev pub result_line : ℕ → Result ℕ Unsettled → List ℕ
result_line port (Ok receipts) = codes "settled port " ++ (decimal port ++ (codes " receipts " ++ (decimal receipts ++ 10 ∷ [])))
result_line port (Err why) = codes "unsettled port " ++ (decimal port ++ (fault_text why ++ 10 ∷ []))

abbrev pub settlement_line : Settlement → List ℕ
settlement_line s = result_line s.port s.result

-- a line for each, in order
abbrev pub settlement_lines : List Settlement → List ℕ
settlement_lines [] = []
settlement_lines (s ∷ ss) = settlement_line s ++ settlement_lines ss
