use Rattle.std.proofs.Common.{◌≡◌, ◌<◌, ◌∙◌, ◌++◌, ◌∷◌, [], ap, get_or, length, rules, subst, sym, ℕ}
use Rattle.std.specs.Prelude.{slice_index}
use Rattle.std.proofs.lemmas.List.Elements.{All-get_or}
use Rattle.pon_guar.specs.Book.{account_of, known_report}
use Rattle.pon_demand.specs.Demands.{demand_of}
use Rattle.pon_demand.specs.declared.demand.Demand.{Demand}
use Rattle.pon_state.specs.State.{input_of}
use Rattle.pon_why.specs.declared.rates.RowRates.{RowRates}
use Rattle.pon_why.specs.Rates.{IsWithinLine, row_rates}
use Rattle.pon_why.proofs.Explaining.{row_explained, within_mapped}
use Rattle.pon_why.proofs.numbers.explain.Goals as goal

pub loop-place-preserved : goal.loop-place-preserved
loop-place-preserved c =
    let s = c.args.state.now in
    let i : ℕ = c.loop-place.place in
    let r = c.row-item.result in
    let d : Demand = get_or c.args.demands.now i c.index-demands-place.result in
    let o = c.counted-counted.result in
    let x : RowRates = c.index.result.now in
    let n : ℕ = slice_index c.carries-carries.result.now i in
    let rows : c.rows-row-items.result.now ≡ s.roster = c.rows-row-items.ensures.value ∙ c.roster.ensures.rows in
    let explained = row_explained s c.args.cert.now c.requires.admitted.apart c.requires.carries.count i r d c.index-demands-place.result o x n c.loop-place.found.items (subst (λ l. i < length l) rows c.loop-place-test.true)
    (c.row-item.is ∙ ap (λ l. get_or l i r) rows)
    (ap (λ l. get_or l i c.index-demands-place.result) c.requires.demands)
    (c.counted-counted.ensures ∙ ap (λ b. known_report (account_of b r.alloc_id)) c.loads.ensures.accounts)
    (c.index.ensures ∙ ap (λ l. get_or l i x) c.in_ok-rates.ensures.rates)
    (ap (λ l. slice_index l i) c.carries-carries.ensures)
    c.loop-place.invariant.explained in
    record {
      explained = c.push_reserved.ensures.items ∙ ap (λ y. c.loop-place.found.items ++ y ∷ []) c.explain_row.ensures ∙ explained;
      count = search rules;
      room = search rules;
    }

pub bounds-demands-place : goal.bounds-demands-place
bounds-demands-place c =
    let s = c.args.state.now in
    within_mapped (demand_of (input_of s)) s.roster c.args.demands.now c.loop-place.place
    (subst (λ l. c.loop-place.place < length l) (c.rows-row-items.ensures.value ∙ c.roster.ensures.rows) c.loop-place-test.true)
    c.requires.demands

pub index-requires : goal.index-requires
index-requires c =
    let s = c.args.state.now in
    let lt : c.loop-place.place < length c.in_ok-rates.rates.items = within_mapped (row_rates s c.args.cert.now) s.roster c.in_ok-rates.rates.items c.loop-place.place
    (subst (λ l. c.loop-place.place < length l) (c.rows-row-items.ensures.value ∙ c.roster.ensures.rows) c.loop-place-test.true)
    c.in_ok-rates.ensures.rates in
    subst (λ n. c.loop-place.place < n) (sym c.in_ok-rates.rates.ok.0) lt

pub bounds-carries-place : goal.bounds-carries-place
bounds-carries-place c =
    subst (λ n. c.loop-place.place < n) (sym (ap length c.carries-carries.ensures ∙ c.requires.carries.count))
    (subst (λ l. c.loop-place.place < length l) (c.rows-row-items.ensures.value ∙ c.roster.ensures.rows) c.loop-place-test.true)

pub explain_row-requires : goal.explain_row-requires
explain_row-requires c =
    let s = c.args.state.now in
    let x = c.index.result.now in
    let lt : c.loop-place.place < length c.in_ok-rates.rates.items = within_mapped (row_rates s c.args.cert.now) s.roster c.in_ok-rates.rates.items c.loop-place.place
    (subst (λ l. c.loop-place.place < length l) (c.rows-row-items.ensures.value ∙ c.roster.ensures.rows) c.loop-place-test.true)
    c.in_ok-rates.ensures.rates in
    subst IsWithinLine (sym c.index.ensures) (All-get_or IsWithinLine c.in_ok-rates.rates.items c.loop-place.place x lt c.in_ok-rates.ensures.within)
