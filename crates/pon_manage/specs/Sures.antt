-- The line of what is sure for an Alloc-ID.
use Rattle.std.specs.Prelude.{ℕ, List, [], ◌∷◌, ◌++◌, codes, Option, Some, None}
use Rattle.pon_descr.specs.declared.refusal.Refusal.TheVariants as refusal
use Rattle.pon_line.specs.Faults.{line_fault_text}
use Rattle.pon_line.specs.declared.fault.LineFault.TheVariants as fault
use Rattle.pon_state.specs.State.{State}
use Rattle.pon_sure.specs.Sure.{sure_of}
use Rattle.pon_sure.specs.declared.sure.Sure.{Sure}
use Rattle.pon_manage.specs.Rows.{named, number_or_dash}

-- what is sure for an Alloc-ID by the admitted set of a state
abbrev pub sure_in : State → ℕ → Option Sure
sure_in s i = sure_of (record { rule = s.rule; gap = s.gap; rows = s.roster }) i

-- its guaranteed rate and its sure part of the surplus in kbit/s, and its longest wait in maps, `-` if its guaranteed rate is 0
abbrev pub sure_text : ℕ → Sure → List ℕ
sure_text alloc s =
    named (codes "sure alloc ") alloc (
    named (codes " guaranteed ") s.guaranteed (
    named (codes " surplus ") s.surplus (
    codes " wait " ++ (number_or_dash s.wait ++ 10 ∷ []))))

-- the refusal if the Alloc-ID is not admitted
abbrev pub sure_line : ℕ → Option Sure → List ℕ
sure_line alloc None = codes "err " ++ line_fault_text (fault.Port refusal.NoSuchAlloc) ++ 10 ∷ []
sure_line alloc (Some s) = sure_text alloc s
