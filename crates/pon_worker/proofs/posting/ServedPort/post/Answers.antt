use Rattle.std.proofs.Common.{◌+◌, ◌<◌, ap, length, slice_index, arith, length-set, lt_of_not-le}
use Rattle.pon_desk.specs.Counts.{SeatState}
use Rattle.pon_worker.proofs.Passed.{passes_then, turns_at_post}
use Rattle.pon_worker.proofs.Posted.{raised_one}
use Rattle.pon_worker.proofs.posting.ServedPort.post.Goals as goal

pub turn_at_cut-requires : goal.turn_at_cut-requires
turn_at_cut-requires g c = lt_of_not-le c.in_ok-receipt.ensures.no_such.1

pub returns-clause-counted : goal.returns-clause-counted
returns-clause-counted g c =
    let old = c.args.seat.now.counts in
    let port = c.args.self.now.port in
    let more = c.in_ok-receipt.ensures.counted in
    let size = ap (λ (s : SeatState). length s.counts) more in
    let there : port < c.args.self.now.desk.now.ports = lt_of_not-le c.in_ok-receipt.ensures.no_such.1 in
    let inside : port < length old = omega (arith, size, length-set old port (slice_index old port + 1), c.posts_of-posts.ensures.size, there) in
    raised_one port c.args.seat.now c.post_or_turn.new.seat more inside

pub returns-clause-turns : goal.returns-clause-turns
returns-clause-turns g c =
    turns_at_post c.args.sink.now c.post_or_turn.new.sink c.turn_at_cut.new.sink c.in_ok-receipt.receipt.placed.index c.index.result c.index.ensures c.in_ok-receipt.ensures.turned c.in_ok-receipt.ensures.cut c.turn_at_cut.ensures.at_cut c.turn_at_cut.ensures.below_cut

pub returns-clause-sink : goal.returns-clause-sink
returns-clause-sink g c = passes_then c.args.sink.now c.post_or_turn.new.sink c.turn_at_cut.new.sink c.in_ok-receipt.ensures.sink c.turn_at_cut.ensures.sink

pub returns-clause-posted : goal.returns-clause-posted
returns-clause-posted g c = record { at_port = c.in_ok-receipt.ensures.names.at_port; accepted = c.in_ok-receipt.ensures.posted }

pub returns-clause-receipts : goal.returns-clause-receipts
returns-clause-receipts g c = ap (λ (s : SeatState). s.receipts) c.in_ok-receipt.ensures.counted
