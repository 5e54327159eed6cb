use Rattle.std.proofs.Common.{◌≡◌, length}
use Rattle.pon_link.proofs.Left.{Sends}
use Rattle.pon_record.proofs.pending.Pending.push.Given as goal

-- the bytes written so far, followed by those that are left
abbrev pub invariant-loop-writer : goal.invariant-loop-writer
invariant-loop-writer g l = record {
  sent : Sends (g.W.DevWrite.contents l.initial.writer) (g.W.DevWrite.contents l.writer) l.initial.self l.self;
  well : g.W.DevWrite.failures l.writer ≡ g.W.DevWrite.failures l.initial.writer;
}

abbrev pub decreases-loop-writer : goal.decreases-loop-writer
decreases-loop-writer g l = length l.self
