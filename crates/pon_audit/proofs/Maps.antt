-- The comparison of maps: structures, their Alloc-IDs and their grants.
use Rattle.std.proofs.Common.{◌≡◌, ℕ, ◌+◌, ◌<◌, Bool, true, false, not, List, ◌∷◌, [], ◌++◌, map, length, take, get_or, refl, ap, sym, ◌∙◌}
use Rattle.std.specs.Prelude.{◌↔◌}
use Rattle.std.proofs.lemmas.List.{get_or-map, length-map, map_more}
use Rattle.pon_lists.proofs.Lists.{map-map}
use Rattle.pon_units.specs.Frac.{Frac}
use Rattle.pon_bwmap.specs.Alloc.{Alloc}
use Rattle.pon_burst.specs.Maps.{structure_of}
use Rattle.pon_admit.specs.declared.row.Row.{Row}
use Rattle.pon_demand.specs.Input.{Input}
use Rattle.pon_demand.specs.Maps.{map_of}
use Rattle.pon_demand.specs.Rates.{planned_grants}
use Rattle.pon_demand.specs.Sharing.{surplus_rate}
use Rattle.pon_demand.proofs.RosterMaps.{granted_to_row}
use Rattle.pon_state.specs.State.{State, carry_at, input_of}
use Rattle.pon_state.specs.declared.reply.MadeMap.{MadeMap}
use Rattle.pon_audit.specs.Faults.{GrantsWords, ListsAllocs}

-- Fields of structures.

module _ (f : Alloc → ℕ) (xs ys : List Alloc) where
  -- one more structure
  pub more_same : (i : ℕ) (x y : Alloc) → i < length xs → i < length ys → x ≡ get_or xs i x → y ≡ get_or ys i y → f x ≡ f y →
      map f (take i xs) ≡ map f (take i ys) → map f (take (i + 1) xs) ≡ map f (take (i + 1) ys)
  more_same i x y lx ly hx hy same so_far =
      map_more f xs i x lx ∙ (λ j. so_far j ++ (ap f (sym hx) ∙ same ∙ ap f hy) j ∷ []) ∙ sym (map_more f ys i y ly)

  -- different fields at an index
  pub not_same : (i : ℕ) (x y : Alloc) → i < length xs → i < length ys → x ≡ get_or xs i x → y ≡ get_or ys i y → (f x ≡ f y → ⊥) → map f xs ≡ map f ys → ⊥
  not_same i x y lx ly hx hy other e =
      other (ap f hx ∙ sym (get_or-map f xs i x 0 lx) ∙ ap (λ (l : List ℕ). get_or l i 0) e ∙ get_or-map f ys i y 0 ly ∙ ap f (sym hy))

  pub not_long : (length xs ≡ length ys → ⊥) → map f xs ≡ map f ys → ⊥
  not_long other e = other (sym (length-map xs f) ∙ ap (λ (l : List ℕ). length l) e ∙ length-map ys f)

-- The map of an input.

module _ (profile : ℕ) (s : Input) (surplus : Row → Frac) (carry : Row → ℕ) where
  -- the Alloc-IDs of the map are those of the rows
  pub ids_of_map : map (λ a. a.id) (map_of profile s surplus carry) ≡ map (λ r. r.alloc_id) s.roster
  ids_of_map = map-map (λ a. a.id) (structure_of s.gap profile (planned_grants s surplus carry)) (planned_grants s surplus carry) ∙ map-map (λ g. g.alloc_id) (granted_to_row s surplus carry) s.roster

  -- the grants of the map are one more than the payload words
  pub grants_of_map : map (λ a. a.grant) (map_of profile s surplus carry) ≡ map (λ g. 1 + g.words) (planned_grants s surplus carry)
  grants_of_map = map-map (λ a. a.grant) (structure_of s.gap profile (planned_grants s surplus carry)) (planned_grants s surplus carry)

-- The structures of a map compared with those that the state makes.

module _ (s : State) (m : MadeMap) (rows others : List Alloc) (of_made : rows ≡ m.map) (of_state : others ≡ map_of s.profile (input_of s) (surplus_rate (input_of s) m.cert) (carry_at s)) where
  pub lists_allocs : (map (λ a. a.id) rows ≡ map (λ a. a.id) others) ↔ ListsAllocs s m
  lists_allocs =
      let wanted : map (λ a. a.id) others ≡ map (λ r. r.alloc_id) s.roster = ap (map (λ a. a.id)) of_state ∙ ids_of_map s.profile (input_of s) (surplus_rate (input_of s) m.cert) (carry_at s) in
      (λ e. ap (map (λ a. a.id)) (sym of_made) ∙ e ∙ wanted, λ e. ap (map (λ a. a.id)) of_made ∙ e ∙ sym wanted)

  pub grants_words : (map (λ a. a.grant) rows ≡ map (λ a. a.grant) others) ↔ GrantsWords s m
  grants_words =
      let surplus : Row → Frac = surplus_rate (input_of s) m.cert in
      let wanted : map (λ a. a.grant) others ≡ map (λ g. 1 + g.words) (planned_grants (input_of s) surplus (carry_at s)) = ap (map (λ a. a.grant)) of_state ∙ grants_of_map s.profile (input_of s) surplus (carry_at s) in
      (λ e. ap (map (λ a. a.grant)) (sym of_made) ∙ e ∙ wanted, λ e. ap (map (λ a. a.grant)) of_made ∙ e ∙ sym wanted)

pub other_than : (r : Bool) (P : Type 0) → (r ≡ true) ↔ P → (not r ≡ true) ↔ (P → ⊥)
other_than true P h = (λ e. absurd (let w : false ≡ true = e in cc), λ n. absurd (n (h.0 refl)))
other_than false P h = (λ e p. absurd (let w : false ≡ true = h.1 p in cc), λ n. refl)
