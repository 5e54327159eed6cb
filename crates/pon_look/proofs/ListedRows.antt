-- The Alloc-IDs of rows, and those of a map.
use Rattle.std.proofs.Common.{◌≡◌, ℕ, ◌<◌, List, map, length, get_or, ap, sym, ◌∙◌}
use Rattle.std.proofs.lemmas.List.{get_or-map}
use Rattle.pon_bwmap.specs.Alloc.{Alloc}
use Rattle.pon_lists.proofs.Lists.{map-map}
use Rattle.pon_demand.specs.Sharing.{surplus_rate}
use Rattle.pon_state.specs.State.{State, carry_at, input_of}
use Rattle.pon_state.specs.Legal.{IsMade}
use Rattle.pon_state.specs.declared.reply.MadeMap.{MadeMap}
use Rattle.pon_audit.proofs.Maps.{ids_of_map}
use Rattle.pon_why.specs.Rates.{rates_of, row_rates}
use Rattle.pon_why.specs.declared.rates.RowRates.{RowRates}

-- Alloc-IDs that differ at an index
pub differ_at : (xs : List RowRates) (more : List Alloc) (k : ℕ) (x : RowRates) (a : Alloc) → k < length xs → k < length more → x ≡ get_or xs k x → a ≡ get_or more k a → (x.alloc_id ≡ a.id → ⊥) →
    map (λ x. x.alloc_id) xs ≡ map (λ a. a.id) more → ⊥
differ_at xs more k x a lx la hx ha other e =
    other (ap (λ (x : RowRates). x.alloc_id) hx ∙ sym (get_or-map (λ (x : RowRates). x.alloc_id) xs k x 0 lx) ∙ ap (λ (l : List ℕ). get_or l k 0) e ∙ get_or-map (λ (a : Alloc). a.id) more k a 0 la ∙ ap (λ (a : Alloc). a.id) (sym ha))

-- the map that a state makes has the Alloc-IDs of its rows
pub made_lists : (s : State) (m : MadeMap) (rows : List RowRates) → rows ≡ rates_of s m.cert → IsMade s m → map (λ x. x.alloc_id) rows ≡ map (λ a. a.id) m.map
made_lists s m rows e k =
    ap (map (λ (x : RowRates). x.alloc_id)) e
    ∙ map-map (λ (x : RowRates). x.alloc_id) (row_rates s m.cert) s.roster
    ∙ sym (ap (map (λ (a : Alloc). a.id)) k.map ∙ ids_of_map s.profile (input_of s) (surplus_rate (input_of s) m.cert) (carry_at s))
