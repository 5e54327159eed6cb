-- One input has one output text.
use Rattle.std.proofs.Common.{◌≡◌, ℕ, List, [], ◌∷◌, ◌++◌, refl, ap, sym, ◌∙◌, subst}
use Rattle.std.proofs.lemmas.Option.{get_or_from_slice_get, slice_get_within}
use Rattle.std.proofs.lemmas.List.Elements.{All-set}
use Rattle.std.specs.Prelude.{All, Option, Some, None, slice_get, slice_set, length}
use Rattle.pon_history.specs.Chapters.{Chapter, IsLawfulChapter}
use Rattle.pon_history.specs.Taking.{refusal_of}
use Rattle.pon_history.proofs.OneReply.{one_taken, taken_lawful}
use Rattle.pon_admit.specs.declared.event.Event.{Event}
use Rattle.pon_descr.specs.declared.refusal.Refusal.{Refusal}
use Rattle.pon_text.specs.Lines.{lines_of}
use Rattle.pon_line.specs.Reading.{read_line}
use Rattle.pon_text.specs.Giving.{GivesLines}
use Rattle.pon_manage.specs.Text.{reply_line, Answers, AsksPort, Posts, TellsCert, TellsRows, TellsState, TellsSure, TellsWhy, Gives, IsOutput}
use Rattle.pon_line.specs.declared.reading.Reading.{Reading}
use Rattle.pon_line.specs.declared.reading.Reading.TheVariants.{Nothing, Refused, Asks, AsksCert, AsksState, AsksRows, AsksHelp, AsksStop, AsksWhy, AsksSure}

-- the two texts are equal, and so are the chapters after them
abbrev Same : List ℕ → List ℕ → List Chapter → List Chapter → Type 0
Same text more new other = (text ≡ more) × (new ≡ other)

one_post : (old : List Chapter) (port : ℕ) (c : Chapter) (v : Event) (r : Option Refusal) (text more : List ℕ) (new other : List Chapter) → IsLawfulChapter c →
    Posts old port c v r text new → Posts old port c v r more other → Same text more new other
one_post old port c v (Some refusal) text more new other l p q = (p.0 ∙ sym q.0, p.1 ∙ sym q.1)
one_post old port c v None text more new other l p q =
    let same : (p.0 ≡ q.0) × (p.1 ≡ q.1) = one_taken c p.1 q.1 v p.0 q.0 l p.2 q.2 in
    (p.3 ∙ ap (reply_line (length c.entries)) same.0 ∙ sym q.3, p.4 ∙ ap (slice_set old port) same.1 ∙ sym q.4)

-- the chapters of the ports are lawful
abbrev pub AreLawful : List Chapter → Type 0
AreLawful cs = All IsLawfulChapter cs

pub lawful_at : (old : List Chapter) (port : ℕ) (c : Chapter) → AreLawful old → slice_get old port ≡ Some c → IsLawfulChapter c
lawful_at old port c l at = subst IsLawfulChapter (get_or_from_slice_get old port c c at) (l port c (slice_get_within old port c at))

one_ask : (old : List Chapter) (port : ℕ) (c : Option Chapter) (v : Event) (text more : List ℕ) (new other : List Chapter) → AreLawful old → slice_get old port ≡ c →
    AsksPort old port c v text new → AsksPort old port c v more other → Same text more new other
one_ask old port None v text more new other l at p q = absurd p
one_ask old port (Some c) v text more new other l at p q = one_post old port c v (refusal_of c v) text more new other (lawful_at old port c l at) p q

one_cert : (c : Option Chapter) (text more : List ℕ) → TellsCert c text → TellsCert c more → text ≡ more
one_cert None text more p q = absurd p
one_cert (Some c) text more p q = p ∙ sym q

one_state : (c : Option Chapter) (text more : List ℕ) → TellsState c text → TellsState c more → text ≡ more
one_state None text more p q = absurd p
one_state (Some c) text more p q = p ∙ sym q

one_list : (c : Option Chapter) (text more : List ℕ) → TellsRows c text → TellsRows c more → text ≡ more
one_list None text more p q = absurd p
one_list (Some c) text more p q = p ∙ sym q

one_why : (c : Option Chapter) (alloc : ℕ) (text more : List ℕ) → TellsWhy c alloc text → TellsWhy c alloc more → text ≡ more
one_why None alloc text more p q = absurd p
one_why (Some c) alloc text more p q = p ∙ sym q

one_sure : (c : Option Chapter) (alloc : ℕ) (text more : List ℕ) → TellsSure c alloc text → TellsSure c alloc more → text ≡ more
one_sure None alloc text more p q = absurd p
one_sure (Some c) alloc text more p q = p ∙ sym q

one_answer : (old : List Chapter) (r : Reading) (text more : List ℕ) (new other : List Chapter) → AreLawful old → Answers old r text new → Answers old r more other → Same text more new other
one_answer old Nothing text more new other l p q = (p.0 ∙ sym q.0, p.1 ∙ sym q.1)
one_answer old (Refused refusal) text more new other l p q = (p.0 ∙ sym q.0, p.1 ∙ sym q.1)
one_answer old (Asks port event) text more new other l p q = one_ask old port (slice_get old port) event text more new other l refl p q
one_answer old (AsksCert port) text more new other l p q = (one_cert (slice_get old port) text more p.0 q.0, p.1 ∙ sym q.1)
one_answer old (AsksState port) text more new other l p q = (one_state (slice_get old port) text more p.0 q.0, p.1 ∙ sym q.1)
one_answer old (AsksRows port) text more new other l p q = (one_list (slice_get old port) text more p.0 q.0, p.1 ∙ sym q.1)
one_answer old (AsksHelp port) text more new other l p q = (p.0 ∙ sym q.0, p.1 ∙ sym q.1)
one_answer old (AsksStop port) text more new other l p q = (p.0 ∙ sym q.0, p.1 ∙ sym q.1)
one_answer old (AsksWhy port alloc) text more new other l p q = (one_why (slice_get old port) alloc text more p.0 q.0, p.1 ∙ sym q.1)
one_answer old (AsksSure port alloc) text more new other l p q = (one_sure (slice_get old port) alloc text more p.0 q.0, p.1 ∙ sym q.1)

lawful_post : (old : List Chapter) (port : ℕ) (c : Chapter) (v : Event) (r : Option Refusal) (text : List ℕ) (new : List Chapter) → AreLawful old → IsLawfulChapter c → Posts old port c v r text new → AreLawful new
lawful_post old port c v (Some refusal) text new l k p = subst AreLawful (sym p.1) l
lawful_post old port c v None text new l k p = subst AreLawful (sym p.4) (All-set IsLawfulChapter old port p.1 (taken_lawful c p.1 v p.0 k p.2) l)

lawful_ask : (old : List Chapter) (port : ℕ) (c : Option Chapter) (v : Event) (text : List ℕ) (new : List Chapter) → AreLawful old → slice_get old port ≡ c → AsksPort old port c v text new → AreLawful new
lawful_ask old port None v text new l at p = absurd p
lawful_ask old port (Some c) v text new l at p = lawful_post old port c v (refusal_of c v) text new l (lawful_at old port c l at) p

pub lawful_answer : (old : List Chapter) (r : Reading) (text : List ℕ) (new : List Chapter) → AreLawful old → Answers old r text new → AreLawful new
lawful_answer old Nothing text new l p = subst AreLawful (sym p.1) l
lawful_answer old (Refused refusal) text new l p = subst AreLawful (sym p.1) l
lawful_answer old (Asks port event) text new l p = lawful_ask old port (slice_get old port) event text new l refl p
lawful_answer old (AsksCert port) text new l p = subst AreLawful (sym p.1) l
lawful_answer old (AsksState port) text new l p = subst AreLawful (sym p.1) l
lawful_answer old (AsksRows port) text new l p = subst AreLawful (sym p.1) l
lawful_answer old (AsksHelp port) text new l p = subst AreLawful (sym p.1) l
lawful_answer old (AsksStop port) text new l p = subst AreLawful (sym p.1) l
lawful_answer old (AsksWhy port alloc) text new l p = subst AreLawful (sym p.1) l
lawful_answer old (AsksSure port alloc) text new l p = subst AreLawful (sym p.1) l

one_lines : (old : List Chapter) (ls : List (List ℕ)) (text more : List ℕ) (new other : List Chapter) → AreLawful old → GivesLines Gives old ls text new → GivesLines Gives old ls more other → Same text more new other
one_lines old [] text more new other l p q = (p.0 ∙ sym q.0, p.1 ∙ sym q.1)
one_lines old (x ∷ ls) text more new other l p q =
    let first : Same p.0 q.0 p.2 q.2 = one_answer old (read_line (length old) x) p.0 q.0 p.2 q.2 l p.3 q.3 in
    let lawful : AreLawful q.2 = lawful_answer old (read_line (length old) x) q.0 q.2 l q.3 in
    let rest : Same p.1 q.1 new other = one_lines q.2 ls p.1 q.1 new other lawful (subst (λ mid. GivesLines Gives mid ls p.1 new) first.1 p.4) q.4 in
    (p.5 ∙ (λ i. first.0 i ++ rest.0 i) ∙ sym q.5, rest.1)

pub one_output : (ports : List Chapter) (input text more : List ℕ) → AreLawful ports → IsOutput ports input text → IsOutput ports input more → text ≡ more
one_output ports input text more l p q = (one_lines ports (lines_of input) text more p.0 q.0 l p.1 q.1).0
