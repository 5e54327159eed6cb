use Rattle.std.proofs.Common.{◌≡◌, map}
use Rattle.pon_recorder.proofs.recording_thread.Recording.taken_chapters.Given as goal

abbrev pub invariant-loop-inlet : goal.invariant-loop-inlet
invariant-loop-inlet g l = map (λ taken. taken.port) l.all.items ≡ map (λ i. i.now.port) l.yielded
