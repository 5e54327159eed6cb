use Rattle.std.proofs.Common.{◌+◌, ◌%◌, ◌^◌, arith, inl, length, ◌≢◌, [], ap, subst, sym, ◌∙◌, take}
use Rattle.std.specs.Prelude.{vec_len}
use Rattle.pon_device.specs.Streams.{TellsWrite}
use Rattle.std.proofs.lemmas.Bool.{eqb-false, eqb-true}
use Rattle.std.proofs.lemmas.List.{nil_from_length}
use Rattle.pon_device.proofs.DeviceBytes.{keeps_itself}
use Rattle.pon_device.proofs.ReadCounts.{read_more}
use Rattle.pon_text.proofs.Streaming.{last_line, line_tells_read, no_more_lines, piece_tells_read, print_failed, printed_piece, stopped}
use Rattle.pon_text.proofs.session.answer_reads.Goals as goal

pub returns-in_default-clause-text : goal.returns-in_default-clause-text
returns-in_default-clause-text g c = stopped c.loop-turn.invariant.progress (g.R.DevRead.remaining c.read.new.self) c.in_default.ensures.bytes

pub returns-in_default-clause-read : goal.returns-in_default-clause-read
returns-in_default-clause-read g c = inl (c.in_default.ensures.failures ∙ ap (λ n. (n + 1) % 2 ^ 64) c.loop-turn.invariant.none_failed)

pub returns-then-is_empty-clause-text : goal.returns-then-is_empty-clause-text
returns-then-is_empty-clause-text g c =
    no_more_lines c.loop-turn.invariant.progress (g.R.DevRead.remaining c.read.new.self) (rw c.if-len-eq0.true at c.in-Ok.ensures.bytes.0)
    (nil_from_length c.loop-turn.line.items (sym c.loop-turn.line.ok.0 ∙ eqb-true (vec_len c.loop-turn.line) 0 (sym c.if-is_empty.ensures)))

pub returns-then-is_empty-clause-read : goal.returns-then-is_empty-clause-read
returns-then-is_empty-clause-read g c = c.in-Ok.ensures.failures ∙ c.loop-turn.invariant.none_failed

pub returns-then-len-eq0-clause-read : goal.returns-then-len-eq0-clause-read
returns-then-len-eq0-clause-read g c =
    line_tells_read g.A.Answers.gives c.loop-turn.state c.print_line.new.state c.as_slice.result.now (g.W.DevWrite.contents c.loop-turn.writer) (g.W.DevWrite.contents c.print_line.new.writer)
    (g.R.DevRead.calls c.args.reader.now) (g.R.DevRead.calls c.read.new.self) (g.R.DevRead.failures c.args.reader.now) (g.R.DevRead.failures c.read.new.self)
    (c.in-Ok.ensures.failures ∙ c.loop-turn.invariant.none_failed) c.print_line.result c.print_line.ensures.text

pub returns-then-len-eq0-clause-write : goal.returns-then-len-eq0-clause-write
returns-then-len-eq0-clause-write g c = subst (λ n. TellsWrite n (g.W.DevWrite.failures c.print_line.new.writer) c.print_line.result) c.loop-turn.invariant.all_written c.print_line.ensures.failures

pub returns-in-Err-clause-read : goal.returns-in-Err-clause-read
returns-in-Err-clause-read g c =
    piece_tells_read g.A.Answers.gives c.loop-turn.state c.print_piece.new.state c.loop-turn.line.items (g.W.DevWrite.contents c.loop-turn.writer) (g.W.DevWrite.contents c.print_piece.new.writer)
    (g.R.DevRead.calls c.args.reader.now) (g.R.DevRead.calls c.read.new.self) (g.R.DevRead.failures c.args.reader.now) (g.R.DevRead.failures c.read.new.self)
    (c.in-Ok.ensures.failures ∙ c.loop-turn.invariant.none_failed) c.print_piece.new.line.items (take c.in-Ok.len c.read.new.buf) c.in-Err.fault c.in-Err.ensures.text

pub returns-clause-text : goal.returns-clause-text
returns-clause-text g c = stopped c.loop-turn.invariant.progress (g.R.DevRead.remaining c.loop-turn.reader) (keeps_itself (g.R.DevRead.remaining c.loop-turn.reader))

pub returns-then-len-eq0-clause-text : goal.returns-then-len-eq0-clause-text
returns-then-len-eq0-clause-text g c =
    let full : c.loop-turn.line.items ≢ []
    = λ q. eqb-false (vec_len c.loop-turn.line) 0 (sym c.is_empty.ensures ∙ c.if-is_empty.false) (omega (arith, ap length q, c.loop-turn.line.ok.0)) in
    last_line c.loop-turn.invariant.progress g.met.A.Answers.reads_first (g.R.DevRead.remaining c.read.new.self) (g.W.DevWrite.contents c.print_line.new.writer) c.print_line.new.state c.print_line.result
    (rw c.if-len-eq0.true at c.in-Ok.ensures.bytes.0) full (rw c.as_slice.ensures.value at c.print_line.ensures.text)

pub returns-in-Err-clause-text : goal.returns-in-Err-clause-text
returns-in-Err-clause-text g c =
    print_failed c.loop-turn.invariant.progress (g.R.DevRead.remaining c.read.new.self) (g.W.DevWrite.contents c.print_piece.new.writer) c.print_piece.new.state c.print_piece.new.state c.print_piece.new.line.items
    (take c.in-Ok.len c.read.new.buf) c.in-Err.fault c.in-Ok.ensures.bytes.0 c.in-Err.ensures.text

pub loop-turn-preserved : goal.loop-turn-preserved
loop-turn-preserved g c = record {
  progress = printed_piece c.loop-turn.invariant.progress (g.R.DevRead.remaining c.read.new.self) (g.W.DevWrite.contents c.print_piece.new.writer) c.print_piece.new.state c.print_piece.new.line.items
      (take c.in-Ok.len c.read.new.buf) c.in-Ok-print_piece.ensures.text.0 c.in-Ok.ensures.bytes.0 c.in-Ok-print_piece.ensures.text.1 c.in-Ok-print_piece.ensures.text.2;
  reads = read_more c.loop-turn._turn (g.R.DevRead.calls c.args.reader.now) (g.R.DevRead.calls c.loop-turn.reader) (g.R.DevRead.calls c.read.new.self) c.loop-turn.invariant.reads c.read.ensures.calls;
  path = g.met.A.Answers.is_path.joined _ _ _ c.loop-turn.invariant.path c.print_piece.ensures.path;
  none_gathered = c.in-Ok-print_piece.ensures.empty;
  none_failed = c.in-Ok.ensures.failures ∙ c.loop-turn.invariant.none_failed;
  all_written = c.in-Ok-print_piece.ensures.failures ∙ c.loop-turn.invariant.all_written;
}
