-- A text that is split at its first line feed.
use Rattle.std.proofs.Common.{◌≡◌, ℕ, suc, ◌+◌, ◌<◌, Bool, true, false, cond, not, List, [], ◌∷◌, ◌++◌, length, take, drop, refl, ap, sym, ◌∙◌, arith, Some, None}
use Rattle.std.specs.Prelude.{◌==◌, nat_lt, option_map, Option}
use Rattle.std.specs.List.{list_any, position_or_len}
use Rattle.std.proofs.lemmas.Bool.{ltb-true, ltb-false, eqb-true}
use Rattle.std.proofs.lemmas.List.{take_all}
use Rattle.std.proofs.lemmas.List.Sums.{passes_at_first, split_at_first}
use Rattle.pon_text.specs.Cuts.{cut_at}

abbrev has : ℕ → List ℕ → Bool
has c t = list_any (λ b. b == c) t

abbrev place : ℕ → List ℕ → ℕ
place c t = position_or_len (λ b. b == c) t

same_value : {A : Type 0} (x y : A) → Some x ≡ Some y → x ≡ y
same_value x y e = cc

before : (c : ℕ) (t : List ℕ) → has c (take (place c t) t) ≡ false
before c [] = refl
before c (b ∷ t) = (elim (b == c) as (λ v. (b == c) ≡ v → has c (take (cond (not v) (1 + place c t) 0) (b ∷ t)) ≡ false) [
  | true ↦ λ e. refl
  | false ↦ λ e.
      let more : 1 + place c t ≡ suc (place c t) = omega arith in
      rw (more, e) (before c t)
]) refl

abbrev cut_if : ℕ → List ℕ → Bool → Option (List ℕ × List ℕ)
cut_if c t v = option_map {U = List ℕ × List ℕ} (λ i. (take i t, drop (i + 1) t)) (cond v (Some (place c t)) None)

-- the parts before and after the separator
pub cut_parts : (c : ℕ) (t a b : List ℕ) → cut_at c t ≡ Some (a, b) → (t ≡ a ++ c ∷ b) × (has c a ≡ false)
cut_parts c t a b e = go (nat_lt (place c t) (length t)) refl e
  where
    go : (v : Bool) → nat_lt (place c t) (length t) ≡ v → cut_if c t v ≡ Some (a, b) → (t ≡ a ++ c ∷ b) × (has c a ≡ false)
    go true k h =
        let both : ◌≡◌ {A = List ℕ × List ℕ} (take (place c t) t, drop (place c t + 1) t) (a, b) = same_value _ _ h in
        let within : place c t < length t = ltb-true (place c t) (length t) k in
        let at = eqb-true _ c (passes_at_first (λ x. x == c) t 0 within) in
        (split_at_first (λ x. x == c) t 0 within ∙ (λ i. (both i).0 ++ at i ∷ (both i).1), ap (λ p. has c p.0) (sym both) ∙ before c t)
    go false k h = absurd (cc)

-- a text without the separator
pub cut_nowhere : (c : ℕ) (t : List ℕ) → cut_at c t ≡ None → has c t ≡ false
cut_nowhere c t e = go (nat_lt (place c t) (length t)) refl e
  where
    go : (v : Bool) → nat_lt (place c t) (length t) ≡ v → cut_if c t v ≡ None → has c t ≡ false
    go true k h = absurd (cc)
    go false k h = ap (has c) (sym (take_all (place c t) t (ltb-false (place c t) (length t) k))) ∙ before c t
