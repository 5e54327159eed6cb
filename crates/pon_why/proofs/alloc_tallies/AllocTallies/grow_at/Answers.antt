use Rattle.std.proofs.Common.{◌≡◌, ◌∙◌, ◌<◌, ap, length, nat_eq, rules, sym, true}
use Rattle.std.specs.Prelude.{slice_index_or}
use Rattle.std.proofs.lemmas.Bool.{eqb-true, not-false}
use Rattle.pon_why.specs.declared.alloc_tallies.AllocTally.{AllocTally}
use Rattle.pon_why.proofs.Placing.{placed_set}
use Rattle.pon_why.proofs.SumLaws.{row_added, same_at}
use Rattle.pon_why.proofs.alloc_tallies.AllocTallies.grow_at.Goals as goal

pub returns : goal.returns
returns c = λ i.
    let tallies = c.args.self.now.tallies.items in
    let row = c.args.row.now in
    let seen = c.index.result.now in
    let held = c.index_mut.result.now in
    let within : c.args.place < length tallies = search (rules, c.len.ensures, c.args.self.now.tallies.ok.0) in
    let here : seen ≡ slice_index_or tallies c.args.place seen = search rules in
    let there : held ≡ slice_index_or tallies c.args.place held = c.index_mut.ensures.value in
    let same : nat_eq seen.alloc_id row.alloc_id ≡ true = not-false (nat_eq seen.alloc_id row.alloc_id) (sym c.if-ne.ensures) in
    let theirs : row.alloc_id ≡ held.alloc_id = sym (eqb-true seen.alloc_id row.alloc_id same) ∙ ap (λ (t : AllocTally). t.alloc_id) (same_at tallies c.args.place seen held within here there) in
    row_added i tallies c.args.place held c.add_map.new.self row c.args.structure.now within there c.if-not-add_map.ensures.alloc_id theirs (search rules)

pub invariant_of-self : goal.invariant_of-self
invariant_of-self c = record { each_place = search rules; placed = placed_set c.args.self.now.tallies.items c.args.self.now.places.items c.args.place c.index_mut.result.now c.add_map.new.self c.index_mut.ensures.value c.add_map.ensures.alloc_id c.args.self.now.placed }
