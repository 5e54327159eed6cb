-- The audit of a recording that is read from a device.
use Rattle.std.specs.Prelude.{ℕ, ◌≡◌, ◌%◌, ◌+◌, ◌^◌, ◌++◌, List, MatchOption, Option, Some, None, Result, Ok, Err, sum_by}
use Rattle.pon_device.specs.declared.fault.DeviceFault.{DeviceFault}
use Rattle.pon_device.specs.declared.fault.DeviceFault.TheVariants.{Read, Write, Memory}
use Rattle.pon_record.specs.Chapters.{PlacedChapter}
use Rattle.pon_record.specs.Recordings.{IsBadFormat, IsRecording, IsTruncated}
use Rattle.pon_record.specs.Streams.{Position, StandsAfter}
use Rattle.pon_audit.specs.Judging.{AreJudged, TellsBad}
use Rattle.pon_audit.specs.Verdicts.{IsVerdict, maps_in}
use Rattle.pon_audit.specs.declared.progress.Audit.{Audit}
use Rattle.pon_audit.specs.declared.reading.Batch.{Batch}
use Rattle.pon_audit.specs.declared.reading.BatchEnd.{BatchEnd}
use Rattle.pon_audit.specs.declared.reading.BatchEnd.TheVariants.{More, Whole, Cut, Malformed}
use Rattle.pon_audit.specs.declared.verdict.Verdict.{Verdict}

-- what the device has after these chapters of the bytes, or how the recording ends
abbrev pub EndsBatch : List ℕ → List PlacedChapter → Position → Option (List ℕ) → BatchEnd → Type 0
EndsBatch bytes all p left More = StandsAfter bytes all p left
EndsBatch bytes all p left Whole = IsRecording bytes all
EndsBatch bytes all p left (Cut at) = IsTruncated bytes at all
EndsBatch bytes all p left (Malformed at) = IsBadFormat bytes at

-- the batch has the chapters after these chapters of the bytes
abbrev pub ReadsBatch : List ℕ → List PlacedChapter → Position → Option (List ℕ) → Batch → Type 0
ReadsBatch bytes whole p left b = EndsBatch bytes (whole ++ b.chapters.items) p left b.end

-- the chapters are audited: all are good, with their number of maps, or the verdict gives the first that fails
abbrev pub AreAudited : List PlacedChapter → Audit → Type 0
AreAudited chapters a = MatchOption a.found (AreJudged chapters a.ends × (a.maps ≡ sum_by maps_in chapters)) (TellsBad chapters)

-- after a batch that follows earlier chapters: the audit has its chapters too if there are more, or this is the verdict
abbrev pub EndsAudit : List PlacedChapter → Batch → Audit → Option Verdict → Type 0
EndsAudit earlier b a None = (b.end ≡ More) × AreAudited (earlier ++ b.chapters.items) a
EndsAudit earlier b a (Some v) = (bytes : List ℕ) (p : Position) (left : Option (List ℕ)) → ReadsBatch bytes earlier p left b → IsVerdict bytes v

-- the verdict on the bytes of a device, if it states them
abbrev pub IsVerdictOf : Option (List ℕ) → Verdict → Type 0
IsVerdictOf None v = Unit {0}
IsVerdictOf (Some bytes) v = IsVerdict bytes v

-- `Read` exactly when a read failed; nothing is written
abbrev pub TellsFailure : {T : Type 0} → ℕ → ℕ → Result T DeviceFault → Type 0
TellsFailure old new (Ok x) = new ≡ old
TellsFailure old new (Err Read) = new ≡ (old + 1) % 2 ^ 64
TellsFailure old new (Err Memory) = new ≡ old
TellsFailure old new (Err Write) = ⊥
