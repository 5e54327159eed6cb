-- What the window keeps of a map.
use Rattle.std.proofs.Common.{◌≡◌, ℕ, ◌+◌, ◌-◌, List, [], ◌∷◌, map, refl, ap, sym, ◌∙◌, arith}
use Rattle.pon_units.specs.Frac.{Frac}
use Rattle.pon_units.specs.declared.granted.Granted.{Granted}
use Rattle.pon_bwmap.specs.Alloc.{Alloc}
use Rattle.pon_burst.specs.Maps.{structure_of}
use Rattle.pon_admit.specs.declared.row.Row.{Row}
use Rattle.pon_demand.specs.Input.{Input}
use Rattle.pon_demand.specs.Maps.{map_of}
use Rattle.pon_demand.specs.Rates.{planned_grants, payload}
use Rattle.pon_demand.proofs.RosterMaps.{granted_to_row}
use Rattle.pon_state.specs.Maps.{grants_in_map}
use Rattle.pon_state.specs.State.{State, carry_at, input_of}
use Rattle.pon_state.specs.Legal.{IsMade}
use Rattle.pon_demand.specs.Sharing.{surplus_rate}
use Rattle.pon_state.specs.declared.reply.MadeMap.{MadeMap}

module _ (profile : ℕ) (s : Input) (surplus : Row → Frac) (carry : Row → ℕ) where
  -- the grants of the structures of rows are those of the rows
  grants_back : (f : Granted → Alloc) → ((g : Granted) → (f g).grant ≡ 1 + g.words) → (rows : List Row) → grants_in_map rows (map f (map (granted_to_row s surplus carry) rows)) ≡ map (granted_to_row s surplus carry) rows
  grants_back f one [] = refl
  grants_back f one (r ∷ rows) =
      let words : (f (granted_to_row s surplus carry r)).grant - 1 ≡ payload s surplus carry r = omega (arith, one (granted_to_row s surplus carry r)) in
      (λ i. record { onu = r.onu; alloc_id = r.alloc_id; words = words i } ∷ grants_back f one rows i)

  -- the window keeps the map of these grants with the same grants
  pub window_grants : grants_in_map s.roster (map_of profile s surplus carry) ≡ planned_grants s surplus carry
  window_grants = grants_back (structure_of s.gap profile (planned_grants s surplus carry)) (λ g. refl) s.roster

  pub kept_of_map : (told : List Alloc) (gs : List Granted) → told ≡ map_of profile s surplus carry → gs ≡ planned_grants s surplus carry → gs ≡ grants_in_map s.roster told
  kept_of_map told gs same grants = grants ∙ sym window_grants ∙ ap (grants_in_map s.roster) (sym same)

-- the grants of the map of a state are those that it plans
pub planned : (s : State) (made : MadeMap) → IsMade s made → planned_grants (input_of s) (surplus_rate (input_of s) made.cert) (carry_at s) ≡ grants_in_map s.roster made.map
planned s made m = sym (ap (grants_in_map s.roster) m.map ∙ window_grants s.profile (input_of s) (surplus_rate (input_of s) made.cert) (carry_at s))
