use Rattle.std.proofs.Common.{arith}
use Rattle.pon_hec.proofs.Opening.{only_parity, no_pair, entry_small, pair_found_leaves, three_places}
use Rattle.pon_hec.proofs.open.wrong_places.Goals as goal

pub returns-then-rest-eq0-clause-some : goal.returns-then-rest-eq0-clause-some
returns-then-rest-eq0-clause-some c = rw c.if-rest-eq0.true (only_parity c.args.odd c.requires.odd)

pub returns-then-pair-eq0-clause-none : goal.returns-then-pair-eq0-clause-none
returns-then-pair-eq0-clause-none c = λ d h.
    no_pair d c.args.rest c.args.odd c.pair_of-pair.result c.requires.rest c.if-rest-eq0.false c.pair_of-pair.ensures c.if-pair-eq0.true h

pub overflow_shl-wrong : goal.overflow_shl-wrong
overflow_shl-wrong c = omega (arith, entry_small c.args.rest c.pair_of-pair.result c.requires.rest c.pair_of-pair.ensures)

pub returns-then-wrong-le2-clause-some : goal.returns-then-wrong-le2-clause-some
returns-then-wrong-le2-clause-some c =
    pair_found_leaves c.args.rest c.args.odd c.pair_of-pair.result c.requires.rest c.requires.odd c.pair_of-pair.ensures c.if-pair-eq0.false c.if-wrong-le2.true

pub returns-else-wrong-le2-clause-none : goal.returns-else-wrong-le2-clause-none
returns-else-wrong-le2-clause-none c = λ d h.
    three_places d c.args.rest c.args.odd c.pair_of-pair.result c.requires.rest c.if-rest-eq0.false c.pair_of-pair.ensures c.if-wrong-le2.false h
