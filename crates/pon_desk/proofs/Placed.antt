-- The entries of a chapter with their places.
use Rattle.std.proofs.Common.{◌≡◌, ℕ, zero, suc, ◌+◌, ◌≤◌, List, [], ◌∷◌, length, drop, Some, refl, ap, ◌∙◌, arith}
use Rattle.std.specs.Prelude.{slice_get}
use Rattle.std.proofs.lemmas.List.{drop_all}
use Rattle.std.proofs.lemmas.Option.{none-some, same_Some}
use Rattle.pon_state.specs.Entry.{Entry}
use Rattle.pon_desk.specs.Settling.{placed_from}
use Rattle.pon_desk.specs.declared.receipt.Placed.{Placed}

abbrev pub at : ℕ → ℕ → Entry → Placed
at chapter index e = record { chapter = chapter; index = index; entry = e }

pub length-placed : (c s : ℕ) (es : List Entry) → length (placed_from c s es) ≡ length es
length-placed c s [] = refl
length-placed c s (e ∷ es) = ap suc (length-placed c (suc s) es)

-- the next entry, and those after it
pub next_placed : (c s : ℕ) (es : List Entry) (i : ℕ) (e : Entry) → slice_get es i ≡ Some e → drop i (placed_from c s es) ≡ at c (s + i) e ∷ drop (suc i) (placed_from c s es)
next_placed c s [] i e h = absurd (none-some e h)
next_placed c s (x ∷ xs) zero e h =
    let index : s ≡ s + 0 = omega arith in
    ap (λ (p : Placed). p ∷ placed_from c (suc s) xs) ((λ j. at c (index j) (same_Some x e h j)))
next_placed c s (x ∷ xs) (suc i) e h =
    let index : suc s + i ≡ s + suc i = omega arith in
    next_placed c (suc s) xs i e h ∙ ap (λ (k : ℕ). at c k e ∷ drop (suc i) (placed_from c (suc s) xs)) index

-- after the last entry there is none
pub past_placed : (c s : ℕ) (es : List Entry) (i : ℕ) → length es ≤ i → drop i (placed_from c s es) ≡ []
past_placed c s es i past = drop_all i (placed_from c s es) (omega (arith, past, length-placed c s es))
