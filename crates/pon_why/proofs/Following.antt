-- The map of one Alloc-ID, found row by row.
use Rattle.std.proofs.Common.{◌≡◌, ℕ, zero, suc, ◌<◌, false, List, [], ◌∷◌, drop, length, get_or, refl, ap, sym, ◌∙◌, arith}
use Rattle.std.specs.Prelude.{◌==◌, if◌then◌else◌, None, Some}
use Rattle.pon_bwmap.specs.Alloc.{Alloc}
use Rattle.pon_why.specs.Followings.{map_of}
use Rattle.pon_why.specs.Sums.{amounts_of}
use Rattle.pon_why.specs.declared.rates.RowRates.{RowRates}

no_structures : (i frame : ℕ) (xs : List RowRates) → map_of i frame xs [] ≡ None
no_structures i frame [] = refl
no_structures i frame (x ∷ xs) = refl

-- a row of another Alloc-ID is passed over
pub passed_over : (i frame k : ℕ) (xs : List RowRates) (more : List Alloc) (x : RowRates) → k < length xs → x ≡ get_or xs k x → (x.alloc_id == i) ≡ false →
    map_of i frame (drop (suc k) xs) (drop (suc k) more) ≡ map_of i frame (drop k xs) (drop k more)
passed_over i frame k [] more x lt is other = absurd (omega (arith, lt))
passed_over i frame zero (y ∷ xs) [] x lt is other = no_structures i frame xs
passed_over i frame (suc k) (y ∷ xs) [] x lt is other = no_structures i frame (drop (suc k) xs) ∙ sym (no_structures i frame (drop k xs))
passed_over i frame zero (y ∷ xs) (a ∷ more) x lt is other =
    sym (ap (λ b. if b then Some (record { frame = frame; sums = amounts_of y a }) else map_of i frame xs more) (ap (λ z. z.alloc_id == i) (sym is) ∙ other))
passed_over i frame (suc k) (y ∷ xs) (a ∷ more) x lt is other = passed_over i frame k xs more x (omega (arith, lt)) is other
