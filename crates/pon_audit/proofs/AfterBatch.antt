-- The audit after a batch.
use Rattle.std.proofs.Common.{◌≡◌, ◌++◌, List, Option, Some, None, ℕ, refl, subst, sym}
use Rattle.std.specs.Prelude.{MatchOption}
use Rattle.pon_record.specs.Chapters.{PlacedChapter}
use Rattle.pon_record.specs.Streams.{Position, StandsAfter}
use Rattle.pon_audit.specs.Auditing.{GoesOn, HasRead}
use Rattle.pon_audit.specs.Streams.{AreAudited, EndsAudit, EndsBatch, IsVerdictOf}
use Rattle.pon_audit.specs.Verdicts.{IsVerdict}
use Rattle.pon_audit.specs.declared.auditing.Auditing.{Auditing}
use Rattle.pon_audit.specs.declared.progress.Audit.{Audit}
use Rattle.pon_audit.specs.declared.reading.Batch.{Batch}
use Rattle.pon_audit.specs.declared.reading.BatchEnd.TheVariants.{More}
use Rattle.pon_audit.specs.declared.verdict.Verdict.{Verdict}

-- the chapters of the batch are audited, and the verdict is the one at its end
pub ended_with : (earlier : List PlacedChapter) (b : Batch) (a : Audit) (found : Option Verdict) → AreAudited (earlier ++ b.chapters.items) a →
    MatchOption found (b.end ≡ More) (λ v. (bytes : List ℕ) (chapters : List PlacedChapter) (p : Position) (left : Option (List ℕ)) → AreAudited chapters a → EndsBatch bytes chapters p left b.end → IsVerdict bytes v) →
    EndsAudit earlier b a found
ended_with earlier b a None audited more = (more, audited)
ended_with earlier b a (Some v) audited told = λ bytes p left reads. told bytes (earlier ++ b.chapters.items) p left audited reads

verdict_on : (start : Option (List ℕ)) (v : Verdict) → ((bytes : List ℕ) → start ≡ Some bytes → IsVerdict bytes v) → IsVerdictOf start v
verdict_on None v told = tt
verdict_on (Some bytes) v told = told bytes refl

-- the audit goes on after a batch that was read, or this is the verdict
module _ (start left : Option (List ℕ)) (old new : Auditing) (b : Batch) (read : HasRead start old b left) (same : new.source ≡ old.source) where
  pub goes_on : (found : Option Verdict) → EndsAudit read.whole b new.audit found → GoesOn start new left found
  goes_on None (more, audited) = record {
    whole = read.whole ++ b.chapters.items;
    audited = audited;
    stands = λ bytes is.
        let here : StandsAfter bytes (read.whole ++ b.chapters.items) old.source left = rw more at read.reads bytes is in
        subst (λ p. StandsAfter bytes (read.whole ++ b.chapters.items) p left) (sym same) here;
  }
  goes_on (Some v) told = verdict_on start v (λ bytes is. told bytes old.source left (read.reads bytes is))
