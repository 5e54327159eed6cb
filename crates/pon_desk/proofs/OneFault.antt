-- A port that is not settled has one fault.
use Rattle.std.proofs.Common.{◌≡◌, ℕ, List, inl, inr, refl, ap}
use Rattle.std.proofs.lemmas.Bool.{cases_order}
use Rattle.pon_desk.specs.Receipts.{Receipt}
use Rattle.pon_desk.specs.Settling.{IsFirstWithout, IsRightAt, IsRightChapter, PortHistory, TellsUnsettled, all_placed}
use Rattle.pon_desk.specs.declared.unsettled.Unsettled.{Unsettled}
use Rattle.pon_desk.specs.declared.unsettled.Unsettled.TheVariants as fault

one_first : (P : ℕ → Type 0) (j k : ℕ) → IsFirstWithout P j → IsFirstWithout P k → j ≡ k
one_first P j k f g = elim (cases_order j k) [
  | inl e ↦ e
  | inr other ↦ elim other [ inl below ↦ absurd (f.wrong (g.earlier j below)) | inr above ↦ absurd (g.wrong (f.earlier k above)) ]
]

pub one_fault : (h : PortHistory) (port : ℕ) (rs : List Receipt) (why other : Unsettled) → TellsUnsettled h port rs why → TellsUnsettled h port rs other → why ≡ other
one_fault h port rs (fault.Chapter j) (fault.Chapter k) t u = ap fault.Chapter (one_first (IsRightChapter h) j k t u)
one_fault h port rs (fault.Chapter j) (fault.Receipt k) t u = absurd (t.wrong (u.chapters j))
one_fault h port rs (fault.Chapter j) fault.Count t u = absurd (t.wrong (u.chapters j))
one_fault h port rs (fault.Receipt j) (fault.Chapter k) t u = absurd (u.wrong (t.chapters k))
one_fault h port rs (fault.Receipt j) (fault.Receipt k) t u = ap fault.Receipt (one_first (IsRightAt (all_placed h) port rs) j k t.first u.first)
one_fault h port rs (fault.Receipt j) fault.Count t u = absurd (t.first.wrong (u.each j))
one_fault h port rs fault.Count (fault.Chapter k) t u = absurd (u.wrong (t.chapters k))
one_fault h port rs fault.Count (fault.Receipt k) t u = absurd (u.first.wrong (t.each k))
one_fault h port rs fault.Count fault.Count t u = refl
