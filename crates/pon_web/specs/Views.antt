-- What the host learns of a view of a recording.
use Rattle.std.specs.Prelude.{ℕ, ◌≡◌, ◌⊎◌, List}
use Rattle.pon_audit.specs.Answers.{is_good}
use Rattle.pon_audit.specs.Verdicts.{IsVerdict}
use Rattle.pon_audit.specs.declared.verdict.Verdict.{Verdict}
use Rattle.pon_web.specs.Handing.{HandsOut}
use Rattle.pon_web.specs.Judging.{status_of}
use Rattle.pon_web.specs.declared.status.TheConstants.{MISSING}

-- a text, and the verdict that the recording has, or that it has not what is asked for
pub record TellsView (recording : List ℕ) (status : ℕ) (before after : List ℕ) (told : ℕ) : Type 0 where
  pub verdict : Verdict
  pub is : IsVerdict recording verdict
  pub status_is : (status ≡ status_of (is_good verdict)) ⊎ (status ≡ MISSING)
  pub text : List ℕ
  pub answer : HandsOut text before after told
