-- The chapters of a good recording are good with the next chapter of a port.
use Rattle.std.proofs.Common.{◌≡◌, ℕ, ◌+◌, ◌<◌, List, [], ◌∷◌, ◌++◌, length, get_or, refl, ap, sym, ◌∙◌, subst, arith, inl, inr}
use Rattle.std.specs.Prelude.{All, Option, Some, None, ◌⊎◌, ◌≢◌}
use Rattle.std.specs.List.{AllPairs}
use Rattle.std.proofs.lemmas.List.{get_or-append-add, get_or_append_left, length-append}
use Rattle.std.proofs.lemmas.List.Elements.{All-append, All-cons, All-push, All-weaker}
use Rattle.std.proofs.lemmas.List.Quantifiers.{all_pairs_push}
use Rattle.pon_history.specs.Chapters.{Chapter, chapter_after, present_state}
use Rattle.pon_record.specs.Chapters.{PlacedChapter}
use Rattle.pon_audit.specs.Openings.{chapter_of, state_of}
use Rattle.pon_audit.specs.Verdicts.{AreGood, Continues, IsGoodChapter, Rises}
use Rattle.pon_resume.specs.LastChapters.{IsLastOf}
use Rattle.pon_c.specs.Resuming.{GoesOn, IsGoodWith, Resumes, ResumesAfter, StaysGood}

-- a chapter of the port has a smaller number than the last one, or is it
abbrev IsBefore : ℕ → PlacedChapter → PlacedChapter → Type 0
IsBefore port last d = d.body.port ≡ port → (d.body.number < last.body.number) ⊎ (d ≡ last)

module _ (port : ℕ) (last : PlacedChapter) (earlier later : List PlacedChapter) (of_port : last.body.port ≡ port) (rising : AllPairs Rises (earlier ++ last ∷ later)) where
  at_last : (d : PlacedChapter) → get_or (earlier ++ last ∷ later) (length earlier) d ≡ last
  at_last d = ap (λ n. get_or (earlier ++ last ∷ later) n d) (omega arith) ∙ get_or-append-add earlier (last ∷ later) 0 d

  earlier_before : All (IsBefore port last) earlier
  earlier_before n d lt own =
      let long : length (earlier ++ last ∷ later) ≡ length earlier + length (last ∷ later) = length-append earlier (last ∷ later) in
      let rises : Rises (get_or (earlier ++ last ∷ later) n d) (get_or (earlier ++ last ∷ later) (length earlier) d) = rising n (length earlier) d lt (omega (arith, long)) in
      let less : Rises (get_or earlier n d) last = subst (λ l. Rises (get_or earlier n d) l) (at_last d) (subst (λ x. Rises x (get_or (earlier ++ last ∷ later) (length earlier) d)) (get_or_append_left earlier (last ∷ later) d n lt) rises) in
      inl (less (own ∙ sym of_port))

  all_before : All (λ d. d.body.port ≢ port) later → All (IsBefore port last) (earlier ++ last ∷ later)
  all_before none = All-append (IsBefore port last) earlier (last ∷ later) earlier_before
      (All-cons (IsBefore port last) last later (λ own. inr refl) (All-weaker (λ d. d.body.port ≢ port) (IsBefore port last) (λ d other own. absurd (other own)) later none))

before : (port : ℕ) (chapters : List PlacedChapter) (last : PlacedChapter) → AllPairs Rises chapters → IsLastOf port chapters last → All (IsBefore port last) chapters
before port chapters last rising l =
    subst (All (IsBefore port last)) (sym l.whole) (all_before port last l.earlier l.later l.of_port (subst (AllPairs Rises) l.whole rising) l.others)

-- the next chapter may stand after all others
module _ (port : ℕ) (last next : PlacedChapter) (g : GoesOn port (chapter_after (chapter_of last.body)) next) where
  continues : (d : PlacedChapter) → IsBefore port last d → Continues d next
  continues d h own later = elim (h (own ∙ g.of_port)) [
    | inl less ↦ absurd (omega (arith, less, later, g.of_number))
    | inr is ↦ g.opening ∙ ap (λ c. present_state (chapter_of c.body)) (sym is)
  ]

  rises : (d : PlacedChapter) → IsBefore port last d → Rises d next
  rises d h own = elim (h (own ∙ g.of_port)) [
    | inl less ↦ omega (arith, less, g.of_number)
    | inr is ↦ omega (arith, ap (λ c. c.body.number) is, g.of_number)
  ]

  pub with_next : (chapters : List PlacedChapter) → AreGood chapters → IsLastOf port chapters last → AreGood (chapters ++ next ∷ [])
  with_next chapters good l =
      let all : All (IsBefore port last) chapters = before port chapters last good.rising l in
      record {
        each = All-push IsGoodChapter chapters next good.each g.good;
        chained = all_pairs_push Continues chapters next good.chained (All-weaker (IsBefore port last) (λ d. Continues d next) continues chapters all);
        rising = all_pairs_push Rises chapters next good.rising (All-weaker (IsBefore port last) (λ d. Rises d next) rises chapters all);
      }

good_with : (bytes : List ℕ) (port : ℕ) (begun : Chapter) → ResumesAfter bytes port begun → IsGoodWith bytes port begun
good_with bytes port begun r =
    let ends = r.1 in (
      ends.0,
      ends.1.recording,
      λ next g. with_next port r.0 next (subst (λ b. GoesOn port b next) r.2 g) ends.0 ends.1.good ends.2,
    )

pub stays_good : (bytes : List ℕ) (port : ℕ) (o : Option Chapter) → Resumes bytes port o → StaysGood bytes port o
stays_good bytes port None h = absurd h
stays_good bytes port (Some begun) h = good_with bytes port begun h
