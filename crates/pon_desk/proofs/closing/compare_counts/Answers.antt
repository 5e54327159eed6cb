use Rattle.std.proofs.Common.{◌≡◌, length, vec_len, sym, ap, ◌∙◌, arith, rules}
use Rattle.std.specs.Prelude.{sum, sum_by}
use Rattle.std.proofs.lemmas.List.{length-replicate}
use Rattle.pon_desk.specs.Counts.{taken_of}
use Rattle.pon_lists.proofs.Parts.{written}
use Rattle.pon_desk.proofs.Balance.{is_even, is_uneven}
use Rattle.pon_desk.proofs.closing.compare_counts.Goals as goal

pub returns-in-None-clause-all : goal.returns-in-None-clause-all
returns-in-None-clause-all g c = omega (arith, c.join_seats.ensures.most, c.requires.seats)

pub returns-clause-all : goal.returns-clause-all
returns-clause-all g c = omega (arith, c.join_seats.ensures.most, c.requires.seats)

pub returns-in-None-clause-even : goal.returns-in-None-clause-even
returns-in-None-clause-even g c =
    let sums = c.join_seats.ensures.sums in
    let long : c.args.counts.len ≡ g.L.Ledger.parts = c.args.counts.ok.0 ∙ ap length c.requires.zero ∙ length-replicate g.L.Ledger.parts 0 in
    let whole = written c.args.counts.items c.join_seats.new.sums c.args.counts.len c.args.counts.ok.0 (sums.one_each ∙ sym long ∙ c.args.counts.ok.0) in
    let ports : length c.join_ports-ports.result.items ≡ g.L.Ledger.parts = search (rules, c.join_ports-ports.ensures.ports, c.requires.ports) in
    let same = rw (c.as_slice.ensures.value, c.as_slice-2.ensures.value, whole) at c.in-None.ensures in
    (c.join_ports-ports.ensures.ports, is_even _ c.join_seats.new.sums _ _ sums ports same)

pub returns-clause-uneven : goal.returns-clause-uneven
returns-clause-uneven g c =
    let sums = c.join_seats.ensures.sums in
    let long : c.args.counts.len ≡ g.L.Ledger.parts = c.args.counts.ok.0 ∙ ap length c.requires.zero ∙ length-replicate g.L.Ledger.parts 0 in
    let whole = written c.args.counts.items c.join_seats.new.sums c.args.counts.len c.args.counts.ok.0 (sums.one_each ∙ sym long ∙ c.args.counts.ok.0) in
    let ports : length c.join_ports-ports.result.items ≡ g.L.Ledger.parts = search (rules, c.join_ports-ports.ensures.ports, c.requires.ports) in
    let differ = rw (c.as_slice.ensures.value, c.as_slice-2.ensures.value, whole) at c.in-Some.ensures in
    let all : vec_len c.args.seats ≡ g.M.Ledger.parts = omega (arith, c.join_seats.ensures.most, c.requires.seats) in
    let at_ports = c.audit.ensures.whole (c.join_ports-ports.ensures.parts ∙ c.requires.ports) in
    let at_seats = c.audit-2.ensures.whole (c.join_seats.ensures.parts ∙ all) in
    let balanced : sum_by taken_of c.join_ports-ports.result.items ≡ sum c.join_seats.new.sums = omega (arith, at_ports, at_seats, c.join_ports-ports.ensures.amount, c.join_seats.ensures.amount, c.join_seats.ensures.total, c.args.books.equal) in
    (c.join_ports-ports.ensures.ports, rw (whole, c.requires.ports) sums, rw whole (is_uneven _ _ _ _ sums ports balanced _ differ.0 differ.1))
