-- A version one recording as a version two recording.
use Rattle.std.specs.Prelude.{◌≡◌, List, ℕ, map}
use Rattle.pon_record.specs.declared.fault.ReadFault.{ReadFault}
use Rattle.pon_record.specs.declared.fault.ReadFault.TheVariants.{Memory}
use Rattle.pon_record.specs.declared.version.Version.TheVariants as version
use Rattle.pon_record.specs.Chapters.{PlacedChapter}
use Rattle.pon_record.specs.Recordings.{Holds, IsReadFaultOf, IsRecordingIn, version_one}

-- the new bytes are the version two recording of the chapters of a version one recording; only their places differ
pub record IsMigrated (old new : List ℕ) : Type 0 where
  pub chapters : List PlacedChapter
  pub moved : List PlacedChapter
  pub was : IsRecordingIn version.One old chapters
  pub is : IsRecordingIn version.Two new moved
  pub same : map (λ c. c.body) moved ≡ map (λ c. c.body) chapters

-- this is the first fault of the bytes as a version one recording; memory may be refused at any chapter before it, and
-- after the last
abbrev pub IsMigrationFault : List ℕ → ReadFault → Type 0
IsMigrationFault bytes Memory = (whole : List PlacedChapter) × (rest : List ℕ) × Holds version.One bytes whole rest
IsMigrationFault bytes fault = IsReadFaultOf version_one bytes fault
