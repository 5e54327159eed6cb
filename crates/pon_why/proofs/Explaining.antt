-- The explanations of the rows of a state, row by row.
use Rattle.std.proofs.Common.{◌≡◌, ℕ, ◌+◌, ◌<◌, List, [], ◌∷◌, ◌++◌, map, length, take, get_or, ap, subst, sym, ◌∙◌}
use Rattle.std.specs.Prelude.{slice_index, Option}
use Rattle.std.proofs.lemmas.List.{get_or-map, length-map, map_more}
use Rattle.pon_admit.specs.declared.row.Row.{Row}
use Rattle.pon_admit.specs.Roster.{IsDistinct}
use Rattle.pon_guar.specs.declared.account.Counted.{Counted}
use Rattle.pon_guar.specs.Book.{account_of, known_report}
use Rattle.pon_cert.specs.declared.cert.MapCert.{MapCert}
use Rattle.pon_demand.specs.Demands.{demand_of, demands_of}
use Rattle.pon_demand.specs.declared.demand.Demand.{Demand}
use Rattle.pon_demand.proofs.Carries.{carry_at_row}
use Rattle.pon_state.specs.State.{State, carry_at, input_of}
use Rattle.pon_why.specs.Explanations.{explanation_of, numbers_of}
use Rattle.pon_why.specs.Rates.{rates_of, row_rates}
use Rattle.pon_why.specs.declared.numbers.Explanation.{Explanation}
use Rattle.pon_why.specs.declared.rates.RowRates.{RowRates}

-- an index of a row is one of what each row gives
pub within_mapped : {X Y : Type 0} (f : X → Y) (xs : List X) (ys : List Y) (i : ℕ) → i < length xs → ys ≡ map f xs → i < length ys
within_mapped f xs ys i lt same = subst (λ n. i < n) (sym (ap length same ∙ length-map xs f)) lt

-- one more row is explained: by its demand, its counted report, its rates and its carry
pub row_explained : (s : State) (cert : MapCert) → IsDistinct s.roster → length s.carries ≡ length s.roster → (i : ℕ) (r : Row) (d e : Demand) (o : Option Counted) (x : RowRates) (n : ℕ) (xs : List Explanation) → i < length s.roster → r ≡ get_or s.roster i r →
    d ≡ get_or (demands_of (input_of s)) i e → o ≡ known_report (account_of s.book r.alloc_id) → x ≡ get_or (rates_of s cert) i x → n ≡ slice_index s.carries i → xs ≡ map (explanation_of s cert) (take i s.roster) →
    xs ++ numbers_of r d.item o x n ∷ [] ≡ map (explanation_of s cert) (take (i + 1) s.roster)
row_explained s cert apart same i r d e o x n xs lt here demand report rates carry so_far =
    let own : d ≡ demand_of (input_of s) r = demand ∙ get_or-map (demand_of (input_of s)) s.roster i r e lt ∙ ap (demand_of (input_of s)) (sym here) in
    let given : x ≡ row_rates s cert r = rates ∙ get_or-map (row_rates s cert) s.roster i r x lt ∙ ap (row_rates s cert) (sym here) in
    let left : n ≡ carry_at s r = carry ∙ carry_at_row s.roster s.carries r i 0 apart same lt (sym here) in
    let told : numbers_of r d.item o x n ≡ explanation_of s cert r = (λ j. numbers_of r (own j).item (report j) (given j) (left j)) in
    (λ j. so_far j ++ (told ∙ ap (explanation_of s cert) here) j ∷ []) ∙ sym (map_more (explanation_of s cert) s.roster i r lt)
