-- What the host learns of a recording.
use Rattle.std.specs.Prelude.{ℕ, ◌≡◌, Bool, true, false, List}
use Rattle.pon_audit.specs.Answers.{is_good, verdict_line}
use Rattle.pon_audit.specs.Verdicts.{IsVerdict}
use Rattle.pon_audit.specs.declared.verdict.Verdict.{Verdict}
use Rattle.pon_web.specs.Handing.{HandsOut}
use Rattle.pon_web.specs.declared.status.TheConstants.{GOOD, BAD}

-- the status of a recording that is good, or of a certificate that is accepted
abbrev pub status_of : Bool → ℕ
status_of true = GOOD
status_of false = BAD

-- the line of a verdict that the recording has, and whether that is good
pub record TellsVerdict (recording : List ℕ) (status : ℕ) (before after : List ℕ) (told : ℕ) : Type 0 where
  pub verdict : Verdict
  pub is : IsVerdict recording verdict
  pub status_is : status ≡ status_of (is_good verdict)
  pub line : HandsOut (verdict_line verdict) before after told
