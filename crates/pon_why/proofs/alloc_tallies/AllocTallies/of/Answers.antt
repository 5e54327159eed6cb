use Rattle.std.proofs.Common.{◌≡◌, ◌∙◌, ◌<◌, ℕ, List, ap, arith, get_or, length, rules, sym}
use Rattle.std.specs.Prelude.{slice_index}
use Rattle.std.proofs.lemmas.Bool.{eqb-false, eqb-true}
use Rattle.std.proofs.lemmas.Grind.{get_or_default_zero}
use Rattle.std.proofs.lemmas.List.{length-map}
use Rattle.pon_why.specs.declared.alloc_tallies.AllocTally.{AllocTally}
use Rattle.pon_why.proofs.Placing.{absent_sums, lacks_at, placed_sums}
use Rattle.pon_why.proofs.alloc_tallies.AllocTallies.of.Goals as goal

-- a place that is read at the number of an Alloc-ID
place_is : (places : List ℕ) (i k x p : ℕ) → k ≡ i → k < length places → x ≡ get_or places k x → p ≡ x → p ≡ slice_index places i
place_is places i k x p number within read same = same ∙ read ∙ get_or_default_zero places k x within ∙ ap (slice_index places) number

pub returns-then-eq : goal.returns-then-eq
returns-then-eq c =
    sym (placed_sums c.args.self.now.tallies.items c.args.self.now.places.items c.args.alloc_id c.from-place.result (place_is c.args.self.now.places.items c.args.alloc_id c.from.result c.index.result.now c.from-place.result (c.from.ensures ∙ c.get.ensures.value) (search (rules, c.args.self.now.each_place)) c.index.ensures c.from-place.ensures) c.args.self.now.placed c.index-tally.result.now (search rules) c.index-tally.ensures
    (eqb-true c.index-tally.result.now.alloc_id c.args.alloc_id (sym c.if-eq.ensures)))

pub returns-else-eq : goal.returns-else-eq
returns-else-eq c =
    sym (absent_sums c.args.self.now.tallies.items c.args.self.now.places.items c.args.alloc_id c.from-place.result (place_is c.args.self.now.places.items c.args.alloc_id c.from.result c.index.result.now c.from-place.result (c.from.ensures ∙ c.get.ensures.value) (search (rules, c.args.self.now.each_place)) c.index.ensures c.from-place.ensures) c.args.self.now.placed
    (lacks_at c.args.self.now.tallies.items c.from-place.result c.args.alloc_id c.index-tally.result.now c.index-tally.ensures (eqb-false c.index-tally.result.now.alloc_id c.args.alloc_id (sym c.if-eq.ensures))))

pub returns-else-place-len : goal.returns-else-place-len
returns-else-place-len c =
    sym (absent_sums c.args.self.now.tallies.items c.args.self.now.places.items c.args.alloc_id c.from-place.result (place_is c.args.self.now.places.items c.args.alloc_id c.from.result c.index.result.now c.from-place.result (c.from.ensures ∙ c.get.ensures.value) (search (rules, c.args.self.now.each_place)) c.index.ensures c.from-place.ensures) c.args.self.now.placed
    (λ lt is. absurd (omega (arith, lt, length-map c.args.self.now.tallies.items (λ (t : AllocTally). t.alloc_id), c.if-place-len.false, c.len.ensures, c.args.self.now.tallies.ok.0))))
