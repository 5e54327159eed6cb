-- One allocation structure of a bandwidth map (ITU-T G.987.3).
use Rattle.std.specs.Prelude.{ℕ, ◌≤◌, ◌==◌, Bool, Option}
use Rattle.std.specs.Option.{option_eq}
use Rattle.std.specs.Ordering.{on, eq_of_both}
use Rattle.std.specs.Cmp.{IsEquivalence, and_equiv, on_equiv, nat_eq_equiv, bool_eq_equiv}
use Rattle.std.specs.Cmp.Lexicographic.{options_equiv}
use Rattle.std.proofs.Math.Bool.{beq}
use Rattle.pon_units.specs.declared.limits.TheConstants.{MAX_ALLOC_ID, MAX_PROFILE}

-- the fields of an allocation structure; one without a start continues the series before it
pub record Alloc : Type 0 where
  pub id : ℕ
  pub dbru : Bool
  pub ploam : Bool
  pub start : Option ℕ
  pub grant : ℕ
  pub fwi : Bool
  pub profile : ℕ

-- the ranges of the fields of a structure, except its start
pub record FitsFields (a : Alloc) : Type 0 where
  pub id : a.id ≤ MAX_ALLOC_ID
  pub grant : a.grant ≤ 65535
  pub profile : a.profile ≤ MAX_PROFILE

-- whether two structures are equal, field by field
abbrev pub structure_eq : Alloc → Alloc → Bool
structure_eq = eq_of_both (on (λ a. a.id) ◌==◌) (eq_of_both (on (λ a. a.dbru) beq) (eq_of_both (on (λ a. a.ploam) beq) (eq_of_both (on (λ a. a.start) (option_eq ◌==◌)) (eq_of_both (on (λ a. a.grant) ◌==◌) (eq_of_both (on (λ a. a.fwi) beq) (on (λ a. a.profile) ◌==◌))))))

pub structure_equiv : IsEquivalence structure_eq
structure_equiv =
    and_equiv (on_equiv (λ a. a.id) nat_eq_equiv)
    (and_equiv (on_equiv (λ a. a.dbru) bool_eq_equiv)
    (and_equiv (on_equiv (λ a. a.ploam) bool_eq_equiv)
    (and_equiv (on_equiv (λ a. a.start) (options_equiv nat_eq_equiv))
    (and_equiv (on_equiv (λ a. a.grant) nat_eq_equiv)
    (and_equiv (on_equiv (λ a. a.fwi) bool_eq_equiv)
    (on_equiv (λ a. a.profile) nat_eq_equiv))))))
