use Rattle.std.proofs.Common.{◌≡◌, ◌++◌, length}
use Rattle.std.specs.List.{range_with_len}
use Rattle.pon_recorder.specs.Whole.{RecordsAll, kept_bodies}
use Rattle.pon_recorder.proofs.kept.append_kept.Given as goal

-- the ports so far, and those to come; the chapters of those so far are recorded
abbrev pub invariant-loop-port : goal.invariant-loop-port
invariant-loop-port g l = record {
  all : l.yielded ++ l.port-iterator.rest.items ≡ l.fn.ports.items;
  place : l.place ≡ length l.yielded;
  kept : RecordsAll l.initial.recorder l.recorder (g.W.DevWrite.contents l.initial.recorder.file.device) (g.W.DevWrite.contents l.recorder.file.device)
      (kept_bodies (range_with_len 0 (length l.fn.ports.items)) l.yielded);
}
