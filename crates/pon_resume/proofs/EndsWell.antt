-- The last chapters of a recording with its verdict.
use Rattle.std.proofs.Common.{◌≡◌, ℕ, List, true, false, inl, inr}
use Rattle.std.specs.Prelude.{Option}
use Rattle.pon_record.specs.Chapters.{PlacedChapter}
use Rattle.pon_audit.specs.Verdicts.{IsVerdict}
use Rattle.pon_audit.specs.declared.verdict.Verdict.{Verdict}
use Rattle.pon_audit.specs.declared.verdict.Verdict.TheVariants.{Good, Bad, BadFormat, Truncated}
use Rattle.pon_resume.specs.Ends.{AreLastIn, EndsWell, is_resumable}

pub ends_well : (bytes : List ℕ) (v : Verdict) (lasts : List (Option PlacedChapter)) → is_resumable v ≡ true → IsVerdict bytes v → AreLastIn bytes lasts → EndsWell bytes v lasts
ends_well bytes (Good maps) lasts is h last = record { chapters = h.0; are_of = h.1; good = h.2.good; last = last h.0 (inl h.1) }
ends_well bytes (Truncated at) lasts is h last = record { chapters = h.0; are_of = h.1; good = h.2; last = last h.0 (inr (at, h.1)) }
ends_well bytes (Bad port number index why) lasts is h last = absurd (let e : false ≡ true = is in cc)
ends_well bytes (BadFormat at) lasts is h last = absurd (let e : false ≡ true = is in cc)
