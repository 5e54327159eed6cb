-- The text of a verdict.
use Rattle.std.specs.Prelude.{ℕ, List, ◌++◌, codes, decimal}
use Rattle.pon_audit.specs.declared.verdict.AuditReason.{AuditReason}
use Rattle.pon_audit.specs.declared.verdict.AuditReason.TheVariants.{Opening, Chain, Number, Event, Certificate, Words, Bursts}
use Rattle.pon_audit.specs.declared.verdict.Verdict.{Verdict}
use Rattle.pon_audit.specs.declared.verdict.Verdict.TheVariants.{Good, Bad, BadFormat, Truncated}

abbrev pub why_text : AuditReason → List ℕ
why_text Opening = codes "Opening"
why_text Chain = codes "Chain"
why_text Number = codes "Number"
why_text Event = codes "Event"
why_text Certificate = codes "Certificate"
why_text Words = codes "Words"
why_text Bursts = codes "Bursts"

abbrev pub verdict_text : Verdict → List ℕ
verdict_text (Good maps) = codes "good maps " ++ decimal maps
verdict_text (Bad port chapter index why) =
    codes "bad port " ++ decimal port ++ codes " chapter " ++ decimal chapter ++ codes " entry " ++ decimal index ++ codes " " ++ why_text why
verdict_text (BadFormat at) = codes "badformat " ++ decimal at
verdict_text (Truncated at) = codes "truncated " ++ decimal at
