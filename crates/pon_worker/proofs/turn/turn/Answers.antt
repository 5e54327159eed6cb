use Rattle.std.proofs.Common.{List, ℕ, [], inl, length, lt_of_not-le, refl, ap, sym, subst, arith, rules}
use Rattle.std.proofs.lemmas.Result.{MatchResult-at_err, err_from_is_err_and}
use Rattle.pon_desk.specs.Counts.{SeatState}
use Rattle.pon_link.specs.Reading.{ReaderState}
use Rattle.pon_worker.specs.declared.counts.StopReason.{StopReason}
use Rattle.pon_worker.specs.Records.{HasRead}
use Rattle.pon_worker.specs.Turns.{CutsReading, EndsAs, IsTurn, StopsReading, Turn, Turned, map_record}
use Rattle.pon_worker.proofs.Bursts.{counted_kept, counted_on, read_none}
use Rattle.pon_worker.proofs.Passed.{passes_then}
use Rattle.pon_worker.proofs.Posted.{posts_made, posts_one, raised_kept, with_map}
use Rattle.pon_worker.proofs.Receipts.{keeps_first, keeps_none}
use Rattle.pon_worker.proofs.Works.{if_err, on_ok, reading_ends, sending_ends, turned_none, turned_one, worked_one}
use Rattle.pon_worker.proofs.turn.turn.Goals as goal

pub returns-in-Err-clause-ended : goal.returns-in-Err-clause-ended
returns-in-Err-clause-ended g c = inl (
  record { refused = c.in-Err.ensures.refused; no_such = c.in-Err.ensures.no_such },
  subst (λ (s : SeatState). Turned c.args.served.now.port c.args.work.now.counts c.args.work.now.counts c.args.seat.now s (g.W.DevWrite.contents c.args.writer.now) (g.W.DevWrite.contents c.args.writer.now) (g.R.DevRead.remaining c.args.reader.now) (g.R.DevRead.remaining c.args.reader.now)) (sym c.in-Err.ensures.err)
      (turned_none c.args.served.now.port c.args.work.now.counts c.args.seat.now (g.W.DevWrite.contents c.args.writer.now) (g.R.DevRead.remaining c.args.reader.now) c.prove_in_range.ensures.garbled c.prove_in_range.ensures.unowned c.prove_in_range.ensures.refused),
)

pub returns-in_err-sent-clause-ended : goal.returns-in_err-sent-clause-ended
returns-in_err-sent-clause-ended g c =
    let left = g.R.DevRead.remaining c.args.reader.now in
    let begun = MatchResult-at_err _ _ c.in_err-sent.field-0.0 c.in_err-sent.was c.send_at_gate-sent.ensures.cut in
    let told = err_from_is_err_and c.from_residual.result c.from_residual.ensures.1 in
    let t : Turn = record { made = c.made_map.result.now; receipt = c.in-Ok.receipt; sent = begun.0; records = []; reports = []; refusals = [] } in
    let is : IsTurn c.args.served.now.port t = record { is_post = c.in-Ok.ensures.made; reply = c.made_map.ensures; takes = (refl, refl) } in
    let kept = keeps_first c.args.seat.now.receipts c.make_map.new.seat.receipts c.keep.new.self.receipts c.keep.new.self.receipts c.in-Ok.receipt [] c.in-Ok.ensures.receipts c.keep.ensures.kept (keeps_none c.keep.new.self.receipts) in
    let worked = worked_one c.args.served.now.port t [] c.args.work.now.counts (with_map c.args.work.now.counts) c.args.seat.now c.keep.new.self (g.W.DevWrite.contents c.args.writer.now) (g.W.DevWrite.contents c.send_at_gate-sent.new.writer) left left is refl begun.1
    (counted_kept c.args.work.now.counts (with_map c.args.work.now.counts) refl refl refl refl c.prove_in_range.ensures.garbled c.prove_in_range.ensures.unowned c.prove_in_range.ensures.refused) (read_none left) kept in
    let all = sending_ends c.args.served.now.port c.args.served.now.desk.now.ports c.in_err-sent.field-0.0 t c.args.work.now.counts (with_map c.args.work.now.counts) c.args.seat.now c.keep.new.self (g.W.DevWrite.contents c.args.writer.now) (g.W.DevWrite.contents c.send_at_gate-sent.new.writer) left left worked begun.2 refl in
    rw told.1 (subst (λ (w : StopReason). EndsAs c.args.served.now.port c.args.served.now.desk.now.ports w c.args.work.now.counts (with_map c.args.work.now.counts) c.args.seat.now c.keep.new.self (g.W.DevWrite.contents c.args.writer.now) (g.W.DevWrite.contents c.send_at_gate-sent.new.writer) left left) (sym told.2) all)

pub returns-in_err-sent-clause-posts : goal.returns-in_err-sent-clause-posts
returns-in_err-sent-clause-posts g c =
    posts_one c.args.served.now.port 0 c.args.seat.now c.keep.new.self c.args.work.now.counts (with_map c.args.work.now.counts)
    (raised_kept c.args.served.now.port 1 c.args.seat.now c.make_map.new.seat c.keep.new.self c.in-Ok.ensures.counted c.keep.ensures.counts) (omega arith)

pub read_bursts-requires-clause-port : goal.read_bursts-requires-clause-port
read_bursts-requires-clause-port g c = lt_of_not-le c.in-Ok.ensures.no_such.1

pub returns-clause-turned : goal.returns-clause-turned
returns-clause-turned g c =
    let left = g.R.DevRead.remaining c.args.reader.now in
    let now = g.R.DevRead.remaining c.read_bursts.new.reader in
    let read = c.read_bursts.ensures.read in
    let made = c.made_map.result.now in
    let t : Turn = record { made = made; receipt = c.in-Ok.receipt; sent = map_record made; records = read.records; reports = read.reports; refusals = read.refusals } in
    let is : IsTurn c.args.served.now.port t = record { is_post = c.in-Ok.ensures.made; reply = c.made_map.ensures; takes = read.takes } in
    let kept = keeps_first c.args.seat.now.receipts c.make_map.new.seat.receipts c.keep.new.self.receipts c.read_bursts.new.seat.receipts c.in-Ok.receipt read.reports c.in-Ok.ensures.receipts c.keep.ensures.kept read.kept in
    on_ok _ _ c.read_bursts.result read.ends c.read_bursts.ensures.all (λ u whole empty.
    turned_one c.args.served.now.port t c.args.work.now.counts c.read_bursts.new.work.counts c.args.seat.now c.read_bursts.new.seat (g.W.DevWrite.contents c.args.writer.now) (g.W.DevWrite.contents c.send_at_gate-sent.new.writer) left now
    (worked_one c.args.served.now.port t [] c.args.work.now.counts c.read_bursts.new.work.counts c.args.seat.now c.read_bursts.new.seat (g.W.DevWrite.contents c.args.writer.now) (g.W.DevWrite.contents c.send_at_gate-sent.new.writer) left now is
    c.read_bursts.ensures.maps (search rules) (counted_on c.args.work.now.counts read.records (length read.reports) c.read_bursts.new.work.counts read.counted) (subst (λ (t : List ℕ). HasRead read.records t left now) (ap (λ (s : ReaderState). s.held) empty) read.read) kept)
    (record { wrote = refl; read = search (rules, whole.0); memory = whole.1 }))

pub returns-clause-ended : goal.returns-clause-ended
returns-clause-ended g c =
    let left = g.R.DevRead.remaining c.args.reader.now in
    let now = g.R.DevRead.remaining c.read_bursts.new.reader in
    let read = c.read_bursts.ensures.read in
    let made = c.made_map.result.now in
    let up = c.read_bursts.new.work.up in
    let t : Turn = record { made = made; receipt = c.in-Ok.receipt; sent = map_record made; records = read.records; reports = read.reports; refusals = read.refusals } in
    let is : IsTurn c.args.served.now.port t = record { is_post = c.in-Ok.ensures.made; reply = c.made_map.ensures; takes = read.takes } in
    let kept = keeps_first c.args.seat.now.receipts c.make_map.new.seat.receipts c.keep.new.self.receipts c.read_bursts.new.seat.receipts c.in-Ok.receipt read.reports c.in-Ok.ensures.receipts c.keep.ensures.kept read.kept in
    let worked = worked_one c.args.served.now.port t up.held c.args.work.now.counts c.read_bursts.new.work.counts c.args.seat.now c.read_bursts.new.seat (g.W.DevWrite.contents c.args.writer.now) (g.W.DevWrite.contents c.send_at_gate-sent.new.writer) left now is
    c.read_bursts.ensures.maps (search rules) (counted_on c.args.work.now.counts read.records (length read.reports) c.read_bursts.new.work.counts read.counted) read.read kept in
    if_err _ _ _ c.read_bursts.result read.ends (λ why stops.
    let cut : CutsReading c.args.served.now.port why t up.held now = record {
      wrote = refl;
      reader = up;
      holds = refl;
      stops = subst (λ (n : ℕ). StopsReading c.args.served.now.port n why read.records read.reports read.refusals up now) (search rules) stops;
    } in
    reading_ends c.args.served.now.port c.args.served.now.desk.now.ports why t up.held c.args.work.now.counts c.read_bursts.new.work.counts c.args.seat.now c.read_bursts.new.seat (g.W.DevWrite.contents c.args.writer.now) (g.W.DevWrite.contents c.send_at_gate-sent.new.writer) left now worked cut)

pub returns-clause-posts : goal.returns-clause-posts
returns-clause-posts g c =
    let raised = raised_kept c.args.served.now.port 1 c.args.seat.now c.make_map.new.seat c.keep.new.self c.in-Ok.ensures.counted c.keep.ensures.counts in
    posts_made c.args.served.now.port c.args.seat.now c.keep.new.self c.read_bursts.new.seat c.args.work.now.counts c.read_bursts.new.work.counts raised c.read_bursts.ensures.posts

pub returns-clause-sink : goal.returns-clause-sink
returns-clause-sink g c =
    passes_then c.args.sink.now c.make_map.new.sink c.read_bursts.new.sink c.make_map.ensures.sink c.read_bursts.ensures.sink
