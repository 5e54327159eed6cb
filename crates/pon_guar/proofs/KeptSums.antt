-- The sums of the kept maps, which a window may be without.
use Rattle.std.proofs.Common.{◌≡◌, ℕ, ◌≤◌, List, [], ◌∷◌, drop, length, refl, subst, sym, arith, inl, inr}
use Rattle.std.specs.Prelude.{◌≢◌, All}
use Rattle.std.proofs.lemmas.Bool.Decides.{eqb_tells}
use Rattle.pon_guar.specs.Window.{IsLawfulMap, WindowMap}
use Rattle.pon_guar.specs.Sums.{AreSummed, IsKeptWindow}

no_sums : (ms : List WindowMap) → AreSummed ms []
no_sums [] = tt
no_sums (m ∷ ms) = tt

module _ (past : ℕ) (maps : List WindowMap) (sums : List (List ℕ)) (k : IsKeptWindow past maps sums) where
  pub within_sums : past ≤ length sums
  within_sums = elim (eqb_tells (length sums) (length maps)) [
    | inl e ↦ omega (arith, k.within, e.1)
    | inr e ↦ omega (arith, k.without e.1)
  ]

  pub lawful_all : length sums ≢ length maps → All IsLawfulMap maps
  lawful_all other = subst (λ n. All IsLawfulMap (drop n maps)) (k.without other) k.window.maps

  -- after the sums are filled
  pub summed_filled : (new : List (List ℕ)) → (length sums ≡ length maps → new ≡ sums) → (length sums ≢ length maps → AreSummed maps new) → AreSummed (drop past maps) (drop past new)
  summed_filled new same summed = elim (eqb_tells (length sums) (length maps)) [
    | inl e ↦ subst (λ (s : List (List ℕ)). AreSummed (drop past maps) (drop past s)) (sym (same e.1)) (k.summed e.1)
    | inr e ↦ subst (λ (n : ℕ). AreSummed (drop n maps) (drop n new)) (sym (k.without e.1)) (summed e.1)
  ]

  pub kept_filled : (new : List (List ℕ)) → length new ≡ length maps → AreSummed (drop past maps) (drop past new) → IsKeptWindow past maps new
  kept_filled new beside summed = record {
    within = k.within;
    window = k.window;
    summed = λ e. summed;
    without = λ other. absurd (other beside);
  }

  pub kept_copy : IsKeptWindow 0 (drop past maps) []
  kept_copy = record {
    within = omega arith;
    window = k.window;
    summed = λ e. no_sums (drop past maps);
    without = λ other. refl;
  }
