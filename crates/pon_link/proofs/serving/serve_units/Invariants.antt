use Rattle.std.proofs.Common.{◌≡◌, ◌+◌, ◌%◌, ◌^◌, ◌<◌}
use Rattle.pon_lists.specs.Bytes.{AreBytes}
use Rattle.pon_link.specs.Reading.{IsOpen}
use Rattle.pon_link.specs.declared.direction.Direction.TheVariants.{Down}
use Rattle.pon_link.specs.Serving.{HasServed}
use Rattle.pon_link.proofs.serving.serve_units.Given as goal

-- the maps so far are answered; each round made one read, and no call failed
abbrev pub invariant-loop-turn : goal.invariant-loop-turn
invariant-loop-turn g l = record {
  is_open : IsOpen l.down;
  direction : l.down.direction ≡ Down;
  small : AreBytes l.down.held;
  served : HasServed (g.R.DevRead.remaining l.initial.reader) (g.R.DevRead.remaining l.reader) (g.W.DevWrite.contents l.initial.writer) (g.W.DevWrite.contents l.writer) l.initial.units l.units l.down.held;
  failed_reads : g.R.DevRead.failures l.reader ≡ g.R.DevRead.failures l.initial.reader;
  failed_writes : g.W.DevWrite.failures l.writer ≡ g.W.DevWrite.failures l.initial.writer;
  reads : g.R.DevRead.calls l.reader % 2 ^ 64 ≡ (g.R.DevRead.calls l.initial.reader + l._turn) % 2 ^ 64;
  round : 0 < l._turn → g.R.DevRead.calls l.reader < 2 ^ 64;
}
