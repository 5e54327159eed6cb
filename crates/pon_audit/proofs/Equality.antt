-- Parts of openings that compare as equal are equal.
use Rattle.std.proofs.Common.{◌≡◌, ℕ, List, Option, refl, ap}
use Rattle.std.specs.Prelude.{◌==◌}
use Rattle.std.specs.Bool.{Decides}
use Rattle.std.specs.Cmp.{unsigned_Decides}
use Rattle.std.specs.Cmp.Lexicographic.{pointwise}
use Rattle.std.specs.Option.{option_eq}
use Rattle.std.proofs.lemmas.Bool.Decides.{Decides-and}
use Rattle.std.proofs.lemmas.Slice.Eq.{slice_eq-Decides}
use Rattle.pon_units.specs.contracts.granted.GrantedPartialEq.TheImpl as granted_eq
use Rattle.pon_units.specs.declared.granted.Granted.{Granted}
use Rattle.pon_admit.proofs.Equality.{options_decide}
use Rattle.pon_guar.specs.contracts.account.CountedPartialEq.TheImpl as counted_eq
use Rattle.pon_guar.specs.declared.account.Counted.{Counted}

counted_decides : (a b : Counted) → Decides ((counted_eq.ghosts).eq a b) (a ≡ b)
counted_decides a b =
    let parts = Decides-and _ _ (unsigned_Decides a.frame b.frame) (unsigned_Decides a.words b.words) in (
      λ e. let p = parts.0 e in (λ i. record { frame = p.0 i; words = p.1 i }),
      λ e. parts.1 (ap (λ c. c.frame) e, ap (λ c. c.words) e),
    )

pub reports_decide : (a b : Option Counted) → Decides (option_eq ((counted_eq.ghosts).eq) a b) (a ≡ b)
reports_decide = options_decide ((counted_eq.ghosts).eq) counted_decides

grant_decides : (a b : Granted) → Decides ((granted_eq.ghosts).eq a b) (a ≡ b)
grant_decides a b =
    let parts = Decides-and _ _ (unsigned_Decides a.onu b.onu) (Decides-and _ _ (unsigned_Decides a.alloc_id b.alloc_id) (unsigned_Decides a.words b.words)) in (
      λ e. let p = parts.0 e in (λ i. record { onu = p.0 i; alloc_id = p.1.0 i; words = p.1.1 i }),
      λ e. parts.1 (ap (λ g. g.onu) e, (ap (λ g. g.alloc_id) e, ap (λ g. g.words) e)),
    )

pub grants_decide : (xs ys : List Granted) → Decides (pointwise ((granted_eq.ghosts).eq) xs ys) (xs ≡ ys)
grants_decide xs ys = slice_eq-Decides grant_decides xs ys _ refl

pub onus_decide : (xs ys : List ℕ) → Decides (pointwise ◌==◌ xs ys) (xs ≡ ys)
onus_decide xs ys = slice_eq-Decides unsigned_Decides xs ys _ refl
