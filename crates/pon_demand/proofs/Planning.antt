-- The grants of a map and what they leave, row by row.
use Rattle.std.proofs.Common.{◌≡◌, ℕ, zero, suc, ◌+◌, ◌/◌, ◌<◌, List, [], ◌∷◌, ◌++◌, map, length, take, get_or, refl, ap, sym, ◌∙◌, arith}
use Rattle.std.specs.Prelude.{slice_get, slice_index, slice_index_or, Some}
use Rattle.std.proofs.lemmas.List.{get_or-map, length-map, map_more}
use Rattle.std.proofs.lemmas.Option.{get_or_from_slice_get, slice_get_within}
use Rattle.pon_admit.specs.Roster.{IsDistinct}
use Rattle.pon_admit.specs.declared.row.Row.{Row}
use Rattle.pon_cert.specs.declared.cert.MapCert.{MapCert}
use Rattle.pon_demand.specs.Carries.{number_of}
use Rattle.pon_demand.specs.Demands.{demand_of, demands_of}
use Rattle.pon_demand.specs.Input.{Input}
use Rattle.pon_demand.specs.Rates.{owed}
use Rattle.pon_demand.specs.Sharing.{surplus_rate}
use Rattle.pon_demand.specs.declared.demand.Demand.{Demand}
use Rattle.pon_demand.proofs.Carries.{carry_at_row}

element_at : {X : Type 0} (xs : List X) (i : ℕ) → i < length xs → (x : X) × (slice_get xs i ≡ Some x)
element_at [] i lt = absurd (omega (arith, lt))
element_at (x ∷ xs) zero lt = (x, refl)
element_at (x ∷ xs) (suc i) lt = element_at xs i (omega (arith, lt))

-- one more element of a list that is mapped
pub one_more : {X Y : Type 0} (f : X → Y) (xs : List X) (ys : List Y) (i : ℕ) (x : X) (y : Y) → slice_get xs i ≡ Some x → y ≡ f x → ys ≡ map f (take i xs) → ys ++ y ∷ [] ≡ map f (take (i + 1) xs)
one_more f xs ys i x y here is so_far =
    (λ j. so_far j ++ (is ∙ ap f (sym (get_or_from_slice_get xs i x x here))) j ∷ []) ∙ sym (map_more f xs i x (slice_get_within xs i x here))

-- the row of a demand
pub record RowOf (s : Input) (d : Demand) (i : ℕ) : Type 0 where
  pub row : Row
  pub here : slice_get s.roster i ≡ Some row
  pub is : d ≡ demand_of s row

pub row_of : (s : Input) (ds : List Demand) (d : Demand) (i : ℕ) → ds ≡ demands_of s → i < length ds → d ≡ slice_index_or ds i d → RowOf s d i
row_of s ds d i e lt is =
    let within : i < length s.roster = omega (arith, lt, ap length e, length-map s.roster (demand_of s)) in
    let at = element_at s.roster i within in
    record {
      row = at.0;
      here = at.1;
      is = is ∙ ap (λ ds. get_or ds i d) e ∙ get_or-map (demand_of s) s.roster i at.0 d within ∙ ap (demand_of s) (get_or_from_slice_get s.roster i at.0 at.0 at.1);
    }

-- what a map under a certificate owes to a row
abbrev pub owed_to : Input → MapCert → List ℕ → Row → ℕ
owed_to s cert carries r = owed s (surplus_rate s cert) (λ q. number_of s.roster carries q.alloc_id) r

-- it is what is owed to its demand with the carry at its index and its share
pub owed_here : (s : Input) (cert : MapCert) (carries : List ℕ) → IsDistinct s.roster → length carries ≡ length s.roster → (d : Demand) (i : ℕ) (o : RowOf s d i) (share : ℕ) →
    share ≡ (surplus_rate s cert o.row).num / (surplus_rate s cert o.row).den → slice_index carries i + (d.guaranteed + share) ≡ owed_to s cert carries o.row
owed_here s cert carries apart same d i o share e =
    (λ j. carry_at_row s.roster carries o.row i 0 apart same (slice_get_within s.roster i o.row o.here) (get_or_from_slice_get s.roster i o.row o.row o.here) j + ((o.is j).guaranteed + e j))
