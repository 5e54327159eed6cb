-- The audit of a chapter, entry by entry.
use Rattle.std.proofs.Common.{◌≡◌, ℕ, ◌<◌, ◌≤◌, length, get_or, Option, ap, sym, ◌∙◌, subst}
use Rattle.std.proofs.lemmas.List.{take_all}
use Rattle.std.proofs.lemmas.Option.{slice_get-get_or}
use Rattle.pon_state.specs.State.{State}
use Rattle.pon_state.specs.Entry.{Entry}
use Rattle.pon_history.specs.Chapters.{Chapter, cut_at}
use Rattle.pon_history.specs.Taking.{IsKept}
use Rattle.pon_history.proofs.FairMaps.{maps_are_fair}
use Rattle.pon_history.proofs.WordRuns.{whole_runs}
use Rattle.pon_record.specs.Chapters.{PlacedChapter}
use Rattle.pon_audit.specs.Openings.{chapter_of}
use Rattle.pon_audit.specs.Faults.{EntryFails, FailsAt}
use Rattle.pon_audit.specs.Judging.{EndsWith}
use Rattle.pon_audit.specs.declared.verdict.AuditReason.{AuditReason}

-- the first entry that fails
pub fails_here : (c : Chapter) (i : ℕ) (s : State) (e : Entry) (w : AuditReason) → i < length c.entries → e ≡ get_or c.entries i e → IsKept (cut_at c i) s → EntryFails i s e w → FailsAt c i w
fails_here c i s e w lt here k fails = record {
  entry = e;
  here = slice_get-get_or c.entries i e lt ∙ ap Option.Some (sym here);
  lawful = k.lawful;
  fails = subst (λ s. EntryFails i s e w) k.replayed fails;
}

-- a chapter after its last entry
pub all_taken : (c : Chapter) (i : ℕ) (s : State) → length c.entries ≤ i → IsKept (cut_at c i) s → IsKept c s
all_taken c i s le k =
    let whole : cut_at c i ≡ c = (λ j. record { number = c.number; opening = c.opening; entries = take_all i c.entries le j }) in
    subst (λ d. IsKept d s) whole k

-- a good chapter, and the state at its end
pub ended : (c : PlacedChapter) (s : State) → IsKept (chapter_of c.body) s → EndsWith c s
ended c s k = record { good = record { lawful = k.lawful; fair = maps_are_fair (chapter_of c.body) k.lawful; runs = whole_runs (chapter_of c.body) k.lawful }; kept = k }
