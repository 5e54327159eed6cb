-- The carries by the place of a row: of an Alloc-ID, after an admission, after a removal.
use Rattle.std.proofs.Common.{◌≡◌, ℕ, zero, suc, ◌<◌, ◌≤◌, true, false, not, List, [], ◌∷◌, length, get_or, refl, ap, sym, ◌∙◌, arith}
use Rattle.std.specs.Prelude.{◌==◌, if◌then◌else◌, count_by, position, Some, None}
use Rattle.std.specs.List.{remove}
use Rattle.std.proofs.lemmas.List.Quantifiers.{position-Some}
use Rattle.std.proofs.lemmas.List.Sums.{count_by-le-length}
use Rattle.pon_descr.specs.Checks.{when}
use Rattle.pon_descr.specs.declared.refusal.Refusal.TheVariants.{NoSuchAlloc}
use Rattle.pon_admit.specs.declared.row.Row.{Row}
use Rattle.pon_admit.specs.Roster.{IsDistinct, comes_before, refuses_remove, without}
use Rattle.pon_admit.proofs.OneRow.{has_alloc-none, stands}
use Rattle.pon_demand.specs.Carries.{carries_of, number_of}
use Rattle.pon_demand.proofs.Carries.{carries_removed}

pub place_within : (r : Row) (rows : List Row) (carries : List ℕ) (k : ℕ) → length carries ≡ length rows → k ≡ count_by (λ s. comes_before s r) rows → k ≤ length carries
place_within r rows carries k same is = omega (arith, same, is, count_by-le-length (λ s. comes_before s r) rows)

-- the first element that is asked for at an index within a list is there
own_element : {X : Type 0} (xs : List X) (k : ℕ) → k < length xs → (x : X) × (x ≡ get_or xs k x)
own_element [] k lt = absurd (omega (arith, lt))
own_element (x ∷ xs) zero lt = (x, refl)
own_element (x ∷ xs) (suc k) lt = own_element xs k (omega (arith, lt))

pub found_within : (i k : ℕ) (rows : List Row) (carries : List ℕ) → length carries ≡ length rows → position (λ r. r.alloc_id == i) rows ≡ Some k → k < length carries
found_within i k [] carries same found = grind (arith, found)
found_within i k (r ∷ rows) carries same found = omega (arith, same, (position-Some (λ r. r.alloc_id == i) (r ∷ rows) k r found).0)

pub removed_at : (i k : ℕ) (rows : List Row) (carries : List ℕ) → IsDistinct rows → length carries ≡ length rows → position (λ r. r.alloc_id == i) rows ≡ Some k →
    remove carries k ≡ carries_of (number_of rows carries) (without i rows)
removed_at i k rows carries apart same found =
    let own : (x : Row) × (x ≡ get_or rows k x) = own_element rows k (omega (arith, same, found_within i k rows carries same found)) in
    carries_removed i k own.0 rows carries (stands i k own.0 rows apart found own.1) same

-- the carry at the index of the first row of an Alloc-ID is its carry
number_at : (i k n : ℕ) (d : Row) (rows : List Row) (carries : List ℕ) → length carries ≡ length rows → k < length rows → ((get_or rows k d).alloc_id == i) ≡ true →
    ((j : ℕ) → j < k → ((get_or rows j d).alloc_id == i) ≡ false) → get_or carries k n ≡ number_of rows carries i
number_at i k n d [] carries same lt here first = absurd (omega (arith, lt))
number_at i k n d (r ∷ rows) [] same lt here first = absurd (omega (arith, same))
number_at i zero n d (r ∷ rows) (c ∷ carries) same lt here first = sym (ap (λ b. if b then c else number_of rows carries i) here)
number_at i (suc k) n d (r ∷ rows) (c ∷ carries) same lt here first =
    number_at i k n d rows carries (omega (arith, same)) (omega (arith, lt)) here (λ j less. first (suc j) (omega (arith, less)))
    ∙ sym (ap (λ b. if b then c else number_of rows carries i) (first zero (omega arith)))

pub carry_found : (i k n : ℕ) (rows : List Row) (carries : List ℕ) → length carries ≡ length rows → position (λ r. r.alloc_id == i) rows ≡ Some k →
    get_or carries k n ≡ number_of rows carries i
carry_found i k n [] carries same found = grind (arith, found)
carry_found i k n (r ∷ rows) carries same found =
    let at : (k < length (r ∷ rows)) × (((get_or (r ∷ rows) k r).alloc_id == i) ≡ true) × ((j : ℕ) → j < k → ((get_or (r ∷ rows) j r).alloc_id == i) ≡ false) = position-Some (λ r. r.alloc_id == i) (r ∷ rows) k r found in
    number_at i k n r (r ∷ rows) carries same at.0 at.1 at.2

-- an Alloc-ID that no check refuses to remove has a row
pub not_absent : (i : ℕ) (rows : List Row) → position (λ r. r.alloc_id == i) rows ≡ None → refuses_remove rows i ≡ None → ⊥
not_absent i rows none h = let t : Some NoSuchAlloc ≡ None = ap (λ b. when (not b) NoSuchAlloc) (sym (has_alloc-none i rows none)) ∙ h in cc
