-- A chapter that a recorder takes, in the next device or in the present one.
use Rattle.std.proofs.Common.{◌≡◌, ℕ, List, inl, refl}
use Rattle.std.specs.Prelude.{Option, Some, None}
use Rattle.pon_history.specs.Chapters.{Chapter}
use Rattle.pon_recorder.specs.Going.{TakesOn}
use Rattle.pon_recorder.specs.declared.recorder.Recorder.{Recorder}
use Rattle.pon_recorder.proofs.Recordings.{takes_none}

-- there is no chapter
pub takes_on_none : {W : Type 0} (contents : W → Option (List ℕ)) (r : Recorder W) (dropped port : ℕ) (o : Option Chapter) → o ≡ None → TakesOn contents r r dropped dropped port o 0
takes_on_none contents r dropped port None e = record {
  mid = r;
  goes = inl refl;
  takes = takes_none (contents r.file.device) r.file.left dropped;
  counts = refl;
}
takes_on_none contents r dropped port (Some x) e = absurd cc
