use Rattle.std.proofs.Common.{◌≡◌, ◌<◌, ◌∙◌, ◌++◌, ◌∷◌, [], ap, length, rules, subst, sym, ℕ}
use Rattle.std.proofs.lemmas.Grind.{get_or_default_zero}
use Rattle.std.specs.Prelude.{if◌then◌else◌, slice_index, slice_set}
use Rattle.pon_why.specs.Places.{ArePlaced, LacksAt, ids_of}
use Rattle.pon_why.specs.Sums.{no_sums, plus, sums_if, sums_in}
use Rattle.pon_why.specs.declared.alloc_tallies.AllocTallies.{AllocTallies}
use Rattle.pon_why.proofs.Placing.{placed_pushed}
use Rattle.pon_why.proofs.SumLaws.{plus_none, sums_pushed}
use Rattle.pon_why.proofs.alloc_tallies.AllocTallies.add_by_table.Goals as goal

pub returns : goal.returns
returns c = λ i.
    let before = c.args.self.now.tallies.items in
    let middle = c.add_at.new.self.tallies.items in
    let others = c.args.others.now in
    let pushed : c.push.new.self.items ≡ middle ++ others ∷ [] = c.in_ok-push.ensures.items in
    let found : sums_in i middle ≡ plus (sums_in i before) (if c.in_ok-add_at.field-0 then sums_if i others else no_sums) = c.in_ok-add_at.ensures.sums i in
    let same : sums_in i middle ≡ sums_in i before = found ∙ ap (λ b. plus (sums_in i before) (if b then sums_if i others else no_sums)) c.if-branch.false ∙ plus_none (sums_in i before) in
    ap (sums_in i) pushed ∙ sums_pushed i middle others ∙ ap (λ s. plus s (sums_if i others)) same

pub invariant_of-self-2 : goal.invariant_of-self-2
invariant_of-self-2 c =
    let old = c.args.self.now in
    let before = c.add_at.new.self in
    let others = c.args.others.now in
    let number : ℕ = c.from-number.result in
    let place : ℕ = c.from-place.result in
    let lacks = c.in_ok-add_at.ensures.lacks c.if-branch.false in
    let within : number < length old.places.items = search (rules, old.each_place) in
    let at : place ≡ slice_index before.places.items number =
    c.from-place.ensures ∙ c.index.ensures ∙ get_or_default_zero old.places.items number c.index.result.now within ∙ ap (λ (s : AllocTallies). slice_index s.places.items number) (sym lacks.0) in
    let own : number ≡ others.alloc_id = c.from-number.ensures ∙ c.get.ensures.value in
    let next : c.in-Ok.next ≡ length before.tallies.items = c.in-Ok.ensures.1 ∙ c.len.ensures ∙ before.tallies.ok.0 in
    record {
      each_place = search rules;
      placed = subst (λ ts. ArePlaced (ids_of ts) (slice_set before.places.items number c.in-Ok.next)) (sym c.in_ok-push.ensures.items)
          (placed_pushed before.tallies.items before.places.items number place c.in-Ok.next others
          (subst (λ (s : AllocTallies). number < length s.places.items) (sym lacks.0) within) at own next
          (subst (λ (s : AllocTallies). LacksAt place others.alloc_id (ids_of s.tallies.items)) (sym lacks.0) lacks.1) before.placed);
    }
