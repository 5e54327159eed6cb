-- The last chapter of each port, with one more chapter.
use Rattle.std.proofs.Common.{◌≡◌, ℕ, ◌<◌, List, [], ◌∷◌, ◌++◌, length, set, refl, ap, ◌∙◌, append_assoc, subst, sym, arith, inl, inr}
use Rattle.std.specs.Prelude.{IfSome, Option, Some, None, ◌≢◌, replicate}
use Rattle.std.proofs.lemmas.Bool.{cases_eq}
use Rattle.std.proofs.lemmas.List.{get_or-replicate, get_or-set_other, get_or-set_same}
use Rattle.std.proofs.lemmas.List.Elements.{All-nil, All-push}
use Rattle.pon_units.specs.declared.limits.TheConstants.{MAX_PORTS}
use Rattle.pon_record.specs.Chapters.{PlacedChapter}
use Rattle.pon_audit.specs.Openings.{FitsRecording}
use Rattle.pon_resume.specs.LastChapters.{AreLast, IsLastOf, IsOfPort, IsOfPorts, TellsLast, last_of}
use Rattle.pon_resume.specs.Ends.{AreAll, AreLastIn}

-- No chapters.

abbrev no_chapter : Option PlacedChapter
no_chapter = None

none_there : (port : ℕ) → port < MAX_PORTS → last_of (replicate MAX_PORTS no_chapter) port ≡ None
none_there port below = get_or-replicate MAX_PORTS port no_chapter no_chapter below

pub none_so_far : (lasts : List (Option PlacedChapter)) → lasts ≡ replicate MAX_PORTS None → AreLast [] lasts
none_so_far lasts is = λ port below.
    subst (TellsLast port []) (sym (ap (λ l. last_of l port) is ∙ none_there port below)) (All-nil (λ c. c.body.port ≢ port))

pub none_of_ports : (lasts : List (Option PlacedChapter)) → lasts ≡ replicate MAX_PORTS None → length lasts ≡ MAX_PORTS → IsOfPorts lasts
none_of_ports lasts is long = record {
  len = long;
  each = λ port below. subst (λ c. IfSome c (IsOfPort port)) (sym (ap (λ l. last_of l port) is ∙ none_there port below)) tt;
}

-- One more chapter.

-- of another port
passed : (port : ℕ) (whole : List PlacedChapter) (next : PlacedChapter) (last : Option PlacedChapter) → next.body.port ≢ port → TellsLast port whole last → TellsLast port (whole ++ next ∷ []) last
passed port whole next None other h = All-push (λ c. c.body.port ≢ port) whole next h other
passed port whole next (Some last) other l = record {
  earlier = l.earlier;
  later = l.later ++ next ∷ [];
  whole = ap (λ cs. cs ++ next ∷ []) l.whole ∙ append_assoc l.earlier (last ∷ l.later) (next ∷ []);
  of_port = l.of_port;
  others = All-push (λ c. c.body.port ≢ port) l.later next l.others other;
}

-- of the port
own : (port : ℕ) (whole : List PlacedChapter) (next : PlacedChapter) → next.body.port ≡ port → IsLastOf port (whole ++ next ∷ []) next
own port whole next is = record { earlier = whole; later = []; whole = refl; of_port = is; others = All-nil (λ c. c.body.port ≢ port) }

module _ (lasts new : List (Option PlacedChapter)) (next : PlacedChapter) (long : length lasts ≡ MAX_PORTS) (is : new ≡ set lasts next.body.port (Some next)) where
  there : (port : ℕ) → port < MAX_PORTS → next.body.port ≡ port → last_of new port ≡ Some next
  there port below e =
      ap (λ l. last_of l port) is
      ∙ ap (λ p. last_of (set lasts p (Some next)) port) e
      ∙ get_or-set_same lasts port (Some next) None (omega (arith, below, long))

  elsewhere : (port : ℕ) → next.body.port ≢ port → last_of new port ≡ last_of lasts port
  elsewhere port other = ap (λ l. last_of l port) is ∙ get_or-set_other lasts next.body.port port (Some next) None (λ e. other (sym e))

  pub further : (earlier : List PlacedChapter) → AreLast earlier lasts → AreLast (earlier ++ next ∷ []) new
  further earlier h = λ port below. elim (cases_eq next.body.port port) [
    | inl e ↦ subst (TellsLast port (earlier ++ next ∷ [])) (sym (there port below e)) (own port earlier next e)
    | inr other ↦ subst (TellsLast port (earlier ++ next ∷ [])) (sym (elsewhere port other)) (passed port earlier next (last_of lasts port) other (h port below))
  ]

  pub stay_of_ports : IsOfPorts lasts → FitsRecording next.body → length new ≡ MAX_PORTS → IsOfPorts new
  stay_of_ports h fits same = record {
    len = same;
    each = λ port below. elim (cases_eq next.body.port port) [
      | inl e ↦ subst (λ c. IfSome c (IsOfPort port)) (sym (there port below e)) (record { of_port = e; fits = fits })
      | inr other ↦ subst (λ c. IfSome c (IsOfPort port)) (sym (elsewhere port other)) (h.each port below)
    ];
  }

-- All chapters were read.

pub last_in : (bytes : List ℕ) (whole : List PlacedChapter) (lasts : List (Option PlacedChapter)) → AreAll bytes whole → AreLast whole lasts → AreLastIn bytes lasts
last_in bytes whole lasts all h = λ chapters k. subst (λ cs. AreLast cs lasts) (sym (all chapters k)) h
