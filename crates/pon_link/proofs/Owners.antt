-- The unit that is found for a series.
use Rattle.std.proofs.Common.{◌≡◌, ℕ, Bool, true, false, List, slice_get, position, All, Option, Some, None, IfSome, IfNone, refl, ap, sym, ◌∙◌, arith}
use Rattle.std.proofs.lemmas.List.Quantifiers.{position-Some}
use Rattle.std.proofs.lemmas.List.Sums.{fails_before_first}
use Rattle.std.proofs.lemmas.Option.{get_or_from_slice_get}
use Rattle.pon_lists.proofs.Lists.{position-None_or_len}

-- the element at the found position passes the test
pub passes_there : {X : Type 0} (p : X → Bool) (xs : List X) (found : Option ℕ) → found ≡ position p xs → IfSome found (λ i. IfSome (slice_get xs i) (λ x. p x ≡ true))
passes_there p xs None e = tt
passes_there {X = X} p xs (Some i) e = at (slice_get xs i) refl
  where
    at : (o : Option X) → slice_get xs i ≡ o → IfSome o (λ x. p x ≡ true)
    at None none = tt
    at (Some x) is = ap p (sym (get_or_from_slice_get xs i x x is)) ∙ (position-Some p xs i x (sym e)).1

-- if no position is found, no element passes the test
pub none_passes : {X : Type 0} (p : X → Bool) (xs : List X) (found : Option ℕ) → found ≡ position p xs → IfNone found (All (λ x. p x ≡ false) xs)
none_passes p xs (Some i) e = tt
none_passes p xs None e =
    let all = position-None_or_len p xs None e refl in
    λ k d lt. fails_before_first p xs k d (omega (arith, lt, all))
