use Rattle.std.proofs.Common.{◌≡◌, ◌*◌, ◌+◌, ◌-◌, length}
use Rattle.pon_worker.specs.Turns.{map_record}
use Rattle.pon_worker.proofs.Tries.{Tried}
use Rattle.pon_worker.proofs.sending.send.Given as goal

-- the bytes written so far, followed by those that are left; each attempt so far failed
abbrev pub invariant-tries : goal.invariant-tries
invariant-tries g l = record {
  tried : Tried (g.W.DevWrite.contents l.initial.writer) (g.W.DevWrite.contents l.writer) (map_record l.made) l.down l.failed (g.W.DevWrite.failures l.initial.writer) (g.W.DevWrite.failures l.writer);
  left_is : l.left ≡ length l.down;
}

abbrev pub decreases-tries : goal.decreases-tries
decreases-tries g l = 4 * length l.down + (3 - l.failed)
