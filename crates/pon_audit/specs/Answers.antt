-- The line of a verdict, and what is written for a recording.
use Rattle.std.specs.Prelude.{◌≡◌, ℕ, Bool, true, false, List, [], ◌∷◌, ◌++◌, Option, Result, Ok, Err}
use Rattle.pon_device.specs.Device.{Appends}
use Rattle.pon_device.specs.Streams.{FailedOnce, IsBeginning}
use Rattle.pon_device.specs.declared.fault.DeviceFault.{DeviceFault}
use Rattle.pon_device.specs.declared.fault.DeviceFault.TheVariants.{Read, Write, Memory}
use Rattle.pon_audit.specs.Texts.{verdict_text}
use Rattle.pon_audit.specs.Streams.{IsVerdictOf}
use Rattle.pon_audit.specs.declared.verdict.Verdict.{Verdict}
use Rattle.pon_audit.specs.declared.verdict.Verdict.TheVariants.{Good, Bad, BadFormat, Truncated}

-- whether a recording with this verdict is accepted
abbrev pub is_good : Verdict → Bool
is_good (Good maps) = true
is_good (Bad port chapter index why) = false
is_good (BadFormat at) = false
is_good (Truncated at) = false

-- the text of a verdict, and a line feed
abbrev pub verdict_line : Verdict → List ℕ
verdict_line v = verdict_text v ++ 10 ∷ []

-- the bytes written for a recording, by the result
abbrev pub IsAudited : Option (List ℕ) → List ℕ → Result Bool DeviceFault → Type 0
IsAudited bytes written (Ok accepted) = (v : Verdict) × IsVerdictOf bytes v × (accepted ≡ is_good v) × (written ≡ verdict_line v)
IsAudited bytes written (Err Write) = (v : Verdict) × IsVerdictOf bytes v × IsBeginning written (verdict_line v)
IsAudited bytes written (Err Memory) = written ≡ []
IsAudited bytes written (Err Read) = written ≡ []

-- `Read` exactly when a read failed
abbrev pub TellsAudit : ℕ → ℕ → Result Bool DeviceFault → Type 0
TellsAudit old new (Err Read) = FailedOnce old new
TellsAudit old new (Err Write) = new ≡ old
TellsAudit old new (Err Memory) = new ≡ old
TellsAudit old new (Ok accepted) = new ≡ old

-- the line of the verdict of a recording was written; its bytes count if the device states them
pub record Audited (bytes : Option (List ℕ)) (held_old held_new : Option (List ℕ)) (result : Result Bool DeviceFault) : Type 0 where
  pub written : List ℕ
  pub wrote : Appends held_old held_new written
  pub text : IsAudited bytes written result
