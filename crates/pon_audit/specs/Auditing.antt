-- An audit that goes on batch by batch. `start` are the bytes that the device had at the start, if it states them.
use Rattle.std.specs.Prelude.{ℕ, ◌≡◌, List, Option, Some, None, Result, Ok, Err}
use Rattle.pon_record.specs.Chapters.{PlacedChapter}
use Rattle.pon_record.specs.Streams.{StandsAfter}
use Rattle.pon_audit.specs.Streams.{AreAudited, IsVerdictOf, ReadsBatch}
use Rattle.pon_audit.specs.declared.auditing.Auditing.{Auditing}
use Rattle.pon_audit.specs.declared.reading.Batch.{Batch}
use Rattle.pon_audit.specs.declared.verdict.Verdict.{Verdict}

-- the chapters so far are audited, and the device has what follows them
pub record IsAuditing (start : Option (List ℕ)) (a : Auditing) (left : Option (List ℕ)) : Type 0 where
  pub whole : List PlacedChapter
  pub audited : AreAudited whole a.audit
  pub stands : (bytes : List ℕ) → start ≡ Some bytes → StandsAfter bytes whole a.source left

-- a batch was read after the chapters that are audited
pub record HasRead (start : Option (List ℕ)) (a : Auditing) (b : Batch) (left : Option (List ℕ)) : Type 0 where
  pub whole : List PlacedChapter
  pub audited : AreAudited whole a.audit
  pub reads : (bytes : List ℕ) → start ≡ Some bytes → ReadsBatch bytes whole a.source left b

-- it was read from some device
abbrev pub WasRead : Auditing → Batch → Type 0
WasRead a b = (start left : Option (List ℕ)) × HasRead start a b left

-- the audit begins, or this is the verdict
abbrev pub BeginsAudit : Option (List ℕ) → Option (List ℕ) → Result Auditing Verdict → Type 0
BeginsAudit start left (Ok a) = IsAuditing start a left
BeginsAudit start left (Err v) = IsVerdictOf start v

-- there are more chapters, or this is the verdict
abbrev pub GoesOn : Option (List ℕ) → Auditing → Option (List ℕ) → Option Verdict → Type 0
GoesOn start a left None = IsAuditing start a left
GoesOn start a left (Some v) = IsVerdictOf start v
