-- The states of a lawful chapter are lawful, and in range if its opening is.
use Rattle.std.proofs.Common.{◌≡◌, ℕ, ◌<◌, List, [], ◌++◌, length, ap, sym, ◌∙◌, arith, drop, take}
use Rattle.std.proofs.lemmas.List.{take-append-drop}
use Rattle.pon_state.specs.Entry.{Entry}
use Rattle.pon_state.specs.History.{replay}
use Rattle.pon_state.specs.LawfulStates.{IsLawfulState}
use Rattle.pon_state.specs.Ranges.{IsStateInRange}
use Rattle.pon_state.proofs.LawfulStates.{lawful_step, range_step}
use Rattle.pon_state.proofs.Replays.{replay_append, replay_push}
use Rattle.pon_history.specs.Chapters.{Chapter, IsLawfulChapter, IsLawfulOpening, IsLegal, cut_at, present_state, state_before}
use Rattle.pon_history.proofs.Legality.{along, legal_front, legal_rest}

-- The states of a lawful chapter, and the two parts that it splits into.
module _ (c : Chapter) (l : IsLawfulChapter c) where
  lawful_after : (es : List Entry) → IsLegal (record { number = c.number; opening = c.opening; entries = es }) → IsLawfulState (replay c.opening es)
  lawful_after es legal = along c.number c.opening (λ es. IsLawfulState (replay c.opening es))
      (λ es e m l. rw (replay_push c.opening es e) (lawful_step (length es) (replay c.opening es) e m l)) [] es legal l.opening.state

  pub present_lawful : IsLawfulState (present_state c)
  present_lawful = lawful_after c.entries l.legal

  -- a later chapter may open with the end
  pub opens_at_present : (n : ℕ) → 0 < n → IsLawfulOpening n (present_state c)
  opens_at_present n later = record { first = λ is. absurd (omega (arith, later, is)); state = present_lawful }

  module _ (k : ℕ) where
    parted : IsLegal (record { number = c.number; opening = c.opening; entries = take k c.entries ++ drop k c.entries })
    parted = rw take-append-drop l.legal

    pub front_lawful : IsLawfulChapter (cut_at c k)
    front_lawful = record { opening = l.opening; legal = legal_front c.number c.opening (take k c.entries) (drop k c.entries) parted }

    -- the second part has the same end as the whole
    pub same_end : (n : ℕ) → present_state (record { number = n; opening = state_before c k; entries = drop k c.entries }) ≡ present_state c
    same_end n = sym (replay_append c.opening (take k c.entries) (drop k c.entries)) ∙ ap (replay c.opening) (take-append-drop k c.entries)

  pub lawful_before : (k : ℕ) → IsLawfulState (state_before c k)
  lawful_before k = lawful_after (take k c.entries) (front_lawful k).legal

  -- and with the state before any entry
  pub opens_before : (n k : ℕ) → 0 < n → IsLawfulOpening n (state_before c k)
  opens_before n k later = record { first = λ is. absurd (omega (arith, later, is)); state = lawful_before k }

  pub rest_lawful : (k n : ℕ) → 0 < n → IsLawfulChapter (record { number = n; opening = state_before c k; entries = drop k c.entries })
  rest_lawful k n later = record { opening = opens_before n k later; legal = legal_rest c.number n c.opening (take k c.entries) (drop k c.entries) (parted k) }

-- the end of a lawful chapter is in range if its opening is
pub in_range_at_present : (c : Chapter) → IsLawfulChapter c → IsStateInRange c.opening → IsStateInRange (present_state c)
in_range_at_present c l h =
    (along c.number c.opening (λ es. IsLawfulState (replay c.opening es) × IsStateInRange (replay c.opening es))
    (λ es e m p. rw (replay_push c.opening es e) (lawful_step (length es) (replay c.opening es) e m p.0, range_step (replay c.opening es) p.0 p.1 (length es) e.event e.reply m))
    [] c.entries l.legal (l.opening.state, h)).1
