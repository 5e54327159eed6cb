-- The verdict on a recording, in the numbers that C gets.
use Rattle.std.specs.Prelude.{ℕ, ◌≡◌, List}
use Rattle.pon_audit.specs.Verdicts.{IsVerdict}
use Rattle.pon_audit.specs.declared.verdict.AuditReason.{AuditReason}
use Rattle.pon_audit.specs.declared.verdict.AuditReason.TheVariants as why
use Rattle.pon_audit.specs.declared.verdict.Verdict.{Verdict}
use Rattle.pon_audit.specs.declared.verdict.Verdict.TheVariants.{Good, Bad, BadFormat, Truncated}
use Rattle.pon_c.specs.declared.auditing.VerdictInfo.{VerdictInfo}

abbrev pub reason_number : AuditReason → ℕ
reason_number why.Opening = 1
reason_number why.Chain = 2
reason_number why.Number = 3
reason_number why.Event = 4
reason_number why.Certificate = 5
reason_number why.Words = 6
reason_number why.Bursts = 7

abbrev pub verdict_info : Verdict → VerdictInfo
verdict_info (Good maps) = record { maps = maps; chapter = 0; place = 0; verdict = 0; port = 0; why = 0 }
verdict_info (Bad port chapter index reason) = record { maps = 0; chapter = chapter; place = index; verdict = 1; port = port; why = reason_number reason }
verdict_info (BadFormat at) = record { maps = 0; chapter = 0; place = at; verdict = 2; port = 0; why = 0 }
verdict_info (Truncated at) = record { maps = 0; chapter = 0; place = at; verdict = 3; port = 0; why = 0 }

-- the verdict on these bytes
abbrev pub TellsVerdict : List ℕ → VerdictInfo → Type 0
TellsVerdict bytes info = (verdict : Verdict) × IsVerdict bytes verdict × (info ≡ verdict_info verdict)
