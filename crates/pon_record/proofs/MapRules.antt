-- The test of the rules of maps agrees with the rules.
use Rattle.std.proofs.Common.{◌≡◌, ℕ, zero, suc, Bool, true, false, cond, leb, List, length, Option, Some, None, refl, subst, arith, inl, inr}
use Rattle.std.specs.Prelude.{is_none}
use Rattle.std.proofs.lemmas.Bool.{and_parts, cases_lt, le-leb, leb-true}
use Rattle.pon_units.specs.declared.limits.TheConstants.{MAX_STRUCTURES}
use Rattle.pon_bwmap.specs.declared.fault.MapFault.{MapFault}
use Rattle.pon_bwmap.specs.MapRules.{FirstKeepRules, IsMap, row_fault}
use Rattle.pon_bwmap.specs.Alloc.{Alloc}
use Rattle.pon_record.specs.Format.{passing}
use Rattle.pon_record.specs.MadeMaps.{is_map, keeps_rules}

none_is : (fault : Option MapFault) → is_none fault ≡ true → fault ≡ None
none_is None e = refl
none_is (Some fault) e = absurd cc

pub kept : (rows : List Alloc) (n : ℕ) → keeps_rules rows n ≡ true → FirstKeepRules rows n
kept rows zero e k lt = absurd (omega arith)
kept rows (suc n) e k lt =
    let both = and_parts (keeps_rules rows n) (is_none (row_fault rows n)) e in
    elim (cases_lt k n) [
      | inl less ↦ kept rows n both.0 k less
      | inr ge ↦ let same : n ≡ k = omega arith in subst (λ (j : ℕ). row_fault rows j ≡ None) same (none_is (row_fault rows n) both.1)
    ]

pub keep : (rows : List Alloc) (n : ℕ) → FirstKeepRules rows n → keeps_rules rows n ≡ true
keep rows zero h = refl
keep rows (suc n) h = rw (keep rows n (λ k lt. h k (omega arith)), h n (omega arith)) refl

-- structures pass the test exactly when they make a map
pub passes : (rows : List Alloc) → IsMap rows → passing is_map rows ≡ Some rows
passes rows map = rw (le-leb (length rows) MAX_STRUCTURES map.count, keep rows (length rows) map.keep_rules) refl

pub are_map : (rows : List Alloc) → is_map rows ≡ true → IsMap rows
are_map rows e =
    let both = and_parts (leb (length rows) MAX_STRUCTURES) (keeps_rules rows (length rows)) e in
    record { count = leb-true _ _ both.0; keep_rules = kept rows (length rows) both.1 }

fails_if : (rows : List Alloc) (b : Bool) → is_map rows ≡ b → (IsMap rows → ⊥) → cond b (Some rows) None ≡ None
fails_if rows true e none = absurd (none (are_map rows e))
fails_if rows false e none = refl

pub fails : (rows : List Alloc) → (IsMap rows → ⊥) → passing is_map rows ≡ None
fails rows none = fails_if rows (is_map rows) refl none
