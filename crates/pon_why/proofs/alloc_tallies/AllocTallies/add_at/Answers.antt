use Rattle.std.proofs.Common.{◌≡◌, ◌<◌, length, nat_eq, rules, sym, true}
use Rattle.std.specs.Prelude.{slice_index_or}
use Rattle.std.proofs.lemmas.Bool.{eqb-true, not-false}
use Rattle.pon_why.proofs.Placing.{placed_set}
use Rattle.pon_why.proofs.SumLaws.{sums_grown}
use Rattle.pon_why.proofs.alloc_tallies.AllocTallies.add_at.Goals as goal

pub returns-clause-sums : goal.returns-clause-sums
returns-clause-sums c = λ i.
    let tallies = c.args.self.now.tallies.items in
    let others = c.args.others.now in
    let old = c.index.result.now in
    let new = c.add.new.self in
    let within : c.args.place < length tallies = search (rules, c.len.ensures, c.args.self.now.tallies.ok.0) in
    let here : old ≡ slice_index_or tallies c.args.place old = search rules in
    let same : nat_eq old.alloc_id others.alloc_id ≡ true = not-false (nat_eq old.alloc_id others.alloc_id) (sym c.if-ne.ensures) in
    sums_grown i tallies c.args.place old new others within here c.if-not-add.ensures.alloc_id (sym (eqb-true old.alloc_id others.alloc_id same)) (search rules)

pub invariant_of-self : goal.invariant_of-self
invariant_of-self c = record { each_place = search rules; placed = placed_set c.args.self.now.tallies.items c.args.self.now.places.items c.args.place c.index.result.now c.add.new.self (search rules) c.add.ensures.alloc_id c.args.self.now.placed }
