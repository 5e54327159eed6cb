-- The fields of a recording.
use Rattle.std.specs.Prelude.{ℕ, ◌&&◌, ◌==◌, nat_le, if◌then◌else◌, Option, Some, None}
use Rattle.std.specs.Int.{w8, w16, w32, w64}
use Rattle.pon_units.specs.declared.limits.TheConstants.{FRAME_WORDS, MAX_ALLOC_ID, MAX_OCCUPANCY, MAX_ONU_ID, MAX_PROFILE, MIN_ALLOC_ID, MAX_GAP, MIN_GAP}
use Rattle.pon_descr.specs.declared.class.Class.{Class}
use Rattle.pon_descr.specs.declared.class.Class.TheVariants.{Plain, NonAssured, BestEffort}
use Rattle.pon_descr.specs.declared.refusal.Refusal.{Refusal}
use Rattle.pon_descr.specs.Descriptor.{Descriptor, descriptor_refusal}
use Rattle.pon_admit.specs.Roster.{max_carry}
use Rattle.pon_admit.specs.declared.rule.Rule.{Rule}
use Rattle.pon_admit.specs.declared.rule.Rule.TheVariants as rule
use Rattle.pon_guar.specs.declared.account.Counted.{Counted}
use Rattle.pon_record.specs.declared.version.Version.{Version}
use Rattle.pon_record.specs.declared.version.Version.TheVariants as version
use Rattle.pon_record.specs.Format.{Format, ◌&◌, constant, number, only, told_by}

abbrev pub onu_id : Format ℕ
onu_id = only (λ n. nat_le n MAX_ONU_ID) (number w16)

abbrev pub alloc_id : Format ℕ
alloc_id = only (λ n. nat_le MIN_ALLOC_ID n && nat_le n MAX_ALLOC_ID) (number w16)

abbrev pub gap : Format ℕ
gap = only (λ n. nat_le MIN_GAP n && nat_le n MAX_GAP) (number w16)

abbrev pub profile : Format ℕ
profile = only (λ n. nat_le n MAX_PROFILE) (number w8)

abbrev pub frame : Format ℕ
frame = number w64

-- a rate in kbit/s
abbrev pub rate : Format ℕ
rate = number w32

-- payload words of a grant
abbrev pub words : Format ℕ
words = only (λ n. nat_le n FRAME_WORDS) (number w16)

-- the cause of the failure of a port
abbrev pub cause : Format ℕ
cause = only (λ n. nat_le 1 n && nat_le n 9) (number w8)

-- the cause of the failure of a port, or 0 if it is up
abbrev pub cause_meaning : ℕ → Option (Option ℕ)
cause_meaning n = if n == 0 then Some None else if nat_le n 9 then Some (Some n) else None

abbrev pub cause_code : Option ℕ → ℕ
cause_code None = 0
cause_code (Some n) = n

abbrev pub failure : Format (Option ℕ)
failure = told_by cause_meaning cause_code (number w8)

-- 0 for no class, 1 for the non-assured class, 2 for best effort
abbrev pub class_meaning : ℕ → Option Class
class_meaning n = if n == 0 then Some Plain else if n == 1 then Some NonAssured else if n == 2 then Some BestEffort else None

abbrev pub class_code : Class → ℕ
class_code Plain = 0
class_code NonAssured = 1
class_code BestEffort = 2

abbrev pub class : Format Class
class = told_by class_meaning class_code (number w8)

-- the descriptor, if no check refuses it
abbrev pub unless_refused : Option Refusal → Descriptor → Option Descriptor
unless_refused None d = Some d
unless_refused (Some why) d = None

-- fixed, assured and maximum rate, and the class, of a descriptor that no check refuses
abbrev pub descriptor_meaning : ℕ × (ℕ × (ℕ × Class)) → Option Descriptor
descriptor_meaning x = let d : Descriptor = record { fixed = x.0; assured = x.1.0; max = x.1.1.0; class = x.1.1.1 } in unless_refused (descriptor_refusal d) d

abbrev pub descriptor_code : Descriptor → ℕ × (ℕ × (ℕ × Class))
descriptor_code d = (d.fixed, (d.assured, (d.max, d.class)))

abbrev pub descriptor : Format Descriptor
descriptor = told_by descriptor_meaning descriptor_code (rate & rate & rate & class)

-- for a report that counts: 1, its frame and its words that are not granted yet; three zeros if none counts
abbrev pub report_meaning : ℕ × (ℕ × ℕ) → Option (Option Counted)
report_meaning x =
    if x.0 == 0 then (if (x.1.0 == 0) && (x.1.1 == 0) then Some None else None)
    else if (x.0 == 1) && nat_le x.1.1 MAX_OCCUPANCY then Some (Some (record { frame = x.1.0; words = x.1.1 }))
    else None

abbrev pub report_code : Option Counted → ℕ × (ℕ × ℕ)
report_code None = (0, (0, 0))
report_code (Some c) = (1, (c.frame, c.words))

abbrev pub report : Format (Option Counted)
report = told_by report_meaning report_code (number w8 & frame & number w32)

-- The fields that differ between the versions.

-- the rule of a chapter: 1 or 2
abbrev pub rule_meaning : ℕ → Option Rule
rule_meaning n = if n == 1 then Some rule.DropRemainders else if n == 2 then Some rule.CarryRemainders else None

abbrev pub rule_code : Rule → ℕ
rule_code rule.DropRemainders = 1
rule_code rule.CarryRemainders = 2

-- no byte in version one, whose chapters are all under rule one
abbrev pub rule_in : Version → Format Rule
rule_in version.One = constant rule.DropRemainders
rule_in version.Two = told_by rule_meaning rule_code (number w8)

-- what the last map left to a row, in kbit/s, under a rule; no byte in version one, where nothing is carried
abbrev pub carry_in : Version → Rule → Format ℕ
carry_in version.One r = constant 0
carry_in version.Two r = only (λ n. nat_le n (max_carry r)) (number w8)
