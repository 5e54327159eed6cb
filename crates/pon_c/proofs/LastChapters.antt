-- The last chapter of a port in a recording that is read once more.
use Rattle.std.proofs.Common.{◌≡◌, ℕ, List, [], ◌∷◌, ◌++◌, refl, ap, ◌∙◌, append_assoc, subst, sym, true, false, inl, inr, arith}
use Rattle.std.specs.Prelude.{All, Option, Some, None, ◌==◌, ◌≢◌, if◌then◌else◌}
use Rattle.std.proofs.lemmas.Bool.Decides.{eqb_tells}
use Rattle.std.proofs.lemmas.List.Elements.{All-nil, All-push}
use Rattle.pon_lists.proofs.Lists.{All-middle}
use Rattle.pon_record.specs.Chapters.{PlacedChapter}
use Rattle.pon_record.specs.Recordings.{IsRecording, either_version}
use Rattle.pon_record.proofs.OneReading.{one_recording}
use Rattle.pon_audit.specs.Answers.{is_good}
use Rattle.pon_audit.specs.Openings.{FitsRecording}
use Rattle.pon_audit.specs.Verdicts.{AreGood, IsGoodChapter, IsVerdict}
use Rattle.pon_audit.specs.declared.verdict.Verdict.{Verdict}
use Rattle.pon_audit.specs.declared.verdict.Verdict.TheVariants.{Good, Bad, BadFormat, Truncated}
use Rattle.pon_resume.specs.LastChapters.{HasNone, IsLastOf}
use Rattle.pon_c.specs.Resuming.{EndsPort, IsGoodRecording, IsGoodRecordingOf, TellsLast}

-- the last chapter of the port among the chapters so far
abbrev pub TellsSoFar : ℕ → List PlacedChapter → Option PlacedChapter → Type 0
TellsSoFar port whole None = HasNone port whole
TellsSoFar port whole (Some last) = IsLastOf port whole last × FitsRecording last.body

pub none_so_far : (port : ℕ) → TellsSoFar port [] None
none_so_far port = All-nil (λ c. c.body.port ≢ port)

-- one more chapter, of another port
passed : (port : ℕ) (whole : List PlacedChapter) (next : PlacedChapter) (last : Option PlacedChapter) → next.body.port ≢ port → TellsSoFar port whole last → TellsSoFar port (whole ++ next ∷ []) last
passed port whole next None other h = All-push (λ c. c.body.port ≢ port) whole next h other
passed port whole next (Some last) other h =
    let l = h.0 in (
      record {
        earlier = l.earlier;
        later = l.later ++ next ∷ [];
        whole = ap (λ cs. cs ++ next ∷ []) l.whole ∙ append_assoc l.earlier (last ∷ l.later) (next ∷ []);
        of_port = l.of_port;
        others = All-push (λ c. c.body.port ≢ port) l.later next l.others other;
      },
      h.1,
    )

-- one more chapter
pub further : (port : ℕ) (whole : List PlacedChapter) (next : PlacedChapter) (last : Option PlacedChapter) → FitsRecording next.body → TellsSoFar port whole last
    → TellsSoFar port (whole ++ next ∷ []) (if next.body.port == port then Some next else last)
further port whole next last fits h =
    elim (eqb_tells next.body.port port) [
      | inl e ↦
          let now : IsLastOf port (whole ++ next ∷ []) next = record { earlier = whole; later = []; whole = refl; of_port = e.1; others = All-nil (λ c. c.body.port ≢ port) } in
          subst (λ b. TellsSoFar port (whole ++ next ∷ []) (if b then Some next else last)) (sym e.0) (now, fits)
      | inr e ↦ subst (λ b. TellsSoFar port (whole ++ next ∷ []) (if b then Some next else last)) (sym e.0) (passed port whole next last e.1 h)
    ]

-- the chapters of a good recording are good, whichever reading of it shows that
read_good : (bytes : List ℕ) (whole : List PlacedChapter) → IsGoodRecording bytes → IsRecording bytes whole → IsGoodRecordingOf bytes whole
read_good bytes whole g r = record { recording = r; good = subst AreGood (one_recording either_version bytes g.0 whole g.1.recording r) g.1.good }

-- all chapters were read
pub last_told : (bytes : List ℕ) (port : ℕ) (whole : List PlacedChapter) (last : Option PlacedChapter) → IsGoodRecording bytes → IsRecording bytes whole → TellsSoFar port whole last → TellsLast bytes port last
last_told bytes port whole None g r h = (whole, read_good bytes whole g r, h)
last_told bytes port whole (Some last) g r h = ((whole, read_good bytes whole g r, h.0), h.1)

-- the last chapter of a good recording is good
pub last_good : (bytes : List ℕ) (port : ℕ) (last : PlacedChapter) → EndsPort bytes port last → IsGoodChapter last
last_good bytes port last h = All-middle IsGoodChapter h.2.earlier h.2.later last (subst (All IsGoodChapter) h.2.whole h.1.good.each)

-- Verdicts.

pub good_recording : (bytes : List ℕ) (v : Verdict) → is_good v ≡ true → IsVerdict bytes v → IsGoodRecording bytes
good_recording bytes (Good maps) is h = (h.0, record { recording = h.1; good = h.2.good })
good_recording bytes (Bad port number index why) is h = absurd (let e : false ≡ true = is in cc)
good_recording bytes (BadFormat at) is h = absurd (let e : false ≡ true = is in cc)
good_recording bytes (Truncated at) is h = absurd (let e : false ≡ true = is in cc)
