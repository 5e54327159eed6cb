use Rattle.std.proofs.Common.{◌∙◌, ◌∷◌, [], arith}
use Rattle.pon_device.specs.Device.{Consumes, IsAtEnd}
use Rattle.pon_device.proofs.ReadCounts.{read_more}
use Rattle.pon_check_file.specs.Stages.{Grows}
use Rattle.pon_check_file.proofs.OpenLines.{byte_read, ended_file, one_more, unfit_file}
use Rattle.pon_check_file.proofs.reading.read_file.Goals as goal

pub returns-in-Ok-clause-text : goal.returns-in-Ok-clause-text
returns-in-Ok-clause-text g c =
    let none : Consumes (g.R.DevRead.remaining c.loop-turn.reader) (g.R.DevRead.remaining c.next_byte.new.reader) [] × IsAtEnd (g.R.DevRead.remaining c.next_byte.new.reader)
    = rw c.in-Ok-None.field-0-is at c.in-Ok-None.ensures.byte in
    ended_file _ _ _ c.loop-turn.open c.in-Ok.parsed c.loop-turn.invariant.progress none c.in-Ok.ensures

pub returns-in-Ok-Syntax-clause-text : goal.returns-in-Ok-Syntax-clause-text
returns-in-Ok-Syntax-clause-text g c =
    let byte : Consumes (g.R.DevRead.remaining c.loop-turn.reader) (g.R.DevRead.remaining c.next_byte.new.reader) (c.in-Ok-Some.byte ∷ [])
    = rw c.in-Ok-Some.field-0-is at c.in-Ok-Some.ensures.byte in
    unfit_file _ _ _ c.loop-turn.open c.in-Ok-Some.byte c.in-Ok-Syntax.line c.loop-turn.invariant.progress byte (rw c.in-Ok-Syntax.field-0-is at c.in-Ok-Syntax.ensures)

pub returns-in-Err-take-clause-text : goal.returns-in-Err-take-clause-text
returns-in-Err-take-clause-text g c =
    let byte : Consumes (g.R.DevRead.remaining c.loop-turn.reader) (g.R.DevRead.remaining c.next_byte.new.reader) (c.in-Ok-Some.byte ∷ [])
    = rw c.in-Ok-Some.field-0-is at c.in-Ok-Some.ensures.byte in
    byte_read _ _ _ c.loop-turn.open c.in-Ok-Some.byte c.loop-turn.invariant.progress byte

pub loop-turn-preserved : goal.loop-turn-preserved
loop-turn-preserved g c =
    let byte : Consumes (g.R.DevRead.remaining c.loop-turn.reader) (g.R.DevRead.remaining c.next_byte.new.reader) (c.in-Ok-Some.byte ∷ [])
    = rw c.in-Ok-Some.field-0-is at c.in-Ok-Some.ensures.byte in
    let more : Grows c.loop-turn.open c.in-Ok-Open.next c.in-Ok-Some.byte = rw c.in-Ok-Open.field-0-is at c.in-Ok-Open.ensures in
    record {
      progress = one_more _ _ _ c.loop-turn.open c.in-Ok-Open.next c.in-Ok-Some.byte c.loop-turn.invariant.progress byte more;
      is_open = more.is_open;
      small = omega (arith, more.small, c.loop-turn.invariant.small);
      reads = read_more c.loop-turn._turn (g.R.DevRead.calls c.args.reader.now) (g.R.DevRead.calls c.loop-turn.reader) (g.R.DevRead.calls c.next_byte.new.reader) c.loop-turn.invariant.reads c.next_byte.ensures.calls;
      none_failed = c.in-Ok-Some.ensures.failures ∙ c.loop-turn.invariant.none_failed;
    }
