-- Why a row is refused: the fault of its descriptor, and the refusal of a roster.
use Rattle.std.proofs.Common.{◌≡◌, Bool, true, false, [], ◌∷◌, refl, ap, ◌∙◌, subst, sym}
use Rattle.std.specs.Prelude.{Option, Some, None}
use Rattle.toml.specs.Data.{Data}
use Rattle.pon_descr.specs.Checks.{when, or_else, first_refusal_of, IsTold}
use Rattle.pon_descr.specs.Descriptor.{Descriptor, descriptor_refusal}
use Rattle.pon_descr.specs.Tables.{IsDescrFault}
use Rattle.pon_descr.specs.declared.refusal.Refusal.{Refusal}
use Rattle.pon_descr.specs.declared.refusal.Refusal.TheVariants.{AllocTaken, TooManyAllocs, TooManyOnus, SeriesFull, Capacity, OutOfMemory}
use Rattle.pon_descr.specs.declared.table.DescrFault.{DescrFault}
use Rattle.pon_admit.specs.Roster.{Roster, refuses_admit}
use Rattle.pon_settings.specs.declared.row.Numbers.{Numbers}
use Rattle.pon_settings.specs.declared.row.RowFault.{RowFault}
use Rattle.pon_settings.specs.declared.row.RowFault.TheVariants.{Refused}
use Rattle.pon_settings.specs.Rows.{SettingsRow, row_at, row_from, number_refusal, id_refusal, descriptor_fault, admission_fault, IsRowFault, IsToldAs, IsAdmissionFault}

-- a row whose identifiers are in range has the fault of its descriptor
pub faulty_row : (n : Numbers) (o : Option Descriptor) (fault : DescrFault) → id_refusal n.alloc_id n.onu ≡ None → IsDescrFault o fault → IsRowFault (row_from (Some n) o) (descriptor_fault fault)
faulty_row n None fault ids is = ap descriptor_fault is
faulty_row n (Some d) fault ids (why, refused, is) = (why, ap (λ o. or_else o (descriptor_refusal d)) ids ∙ refused, ap descriptor_fault is)

pub other_refusal : (why : Refusal) → (why ≡ OutOfMemory → ⊥) → Refused why ≡ admission_fault why
other_refusal OutOfMemory h = absurd (h refl)
other_refusal why h = refl

-- a roster's checks are not about memory
not_memory : (a b c d e : Bool) → first_refusal_of (when a AllocTaken ∷ when b TooManyAllocs ∷ when c TooManyOnus ∷ when d SeriesFull ∷ when e Capacity ∷ []) ≡ Some OutOfMemory → ⊥
not_memory true b c d e h = cc
not_memory false true c d e h = cc
not_memory false false true d e h = cc
not_memory false false false true e h = cc
not_memory false false false false true h = cc
not_memory false false false false false h = cc

told_as : (o : Option Refusal) (told : Refusal) → (o ≡ Some OutOfMemory → ⊥) → IsTold o told → IsToldAs o (admission_fault told)
told_as None told h is = ap admission_fault is
told_as (Some why) told h is = ap admission_fault is ∙ sym (other_refusal why (λ e. h (ap Some e)))

-- the refusal by a roster of a row whose numbers are in range
pub refused_row : (roster : Roster) (d : Data) (r : SettingsRow) (told : Refusal) → row_at d ≡ Some r → number_refusal r.row ≡ None
    → IsTold (refuses_admit roster.rule roster.gap roster.rows r.row) told → IsAdmissionFault roster (row_at d) (admission_fault told)
refused_row roster d r told spelled numbers is =
    rw (spelled, numbers) (told_as (refuses_admit roster.rule roster.gap roster.rows r.row) told (not_memory _ _ _ _ _) is)

-- a table that spells no row, or one whose numbers are refused, is not admitted
pub faulty_numbers : (roster : Roster) (o : Option SettingsRow) (fault : RowFault) → IsRowFault o fault → IsAdmissionFault roster o fault
faulty_numbers roster None fault is = is
faulty_numbers roster (Some r) fault (why, refused, is) =
    subst (λ q. IsToldAs (or_else q (refuses_admit roster.rule roster.gap roster.rows r.row)) fault) (sym refused) is
