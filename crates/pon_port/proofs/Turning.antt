-- The chapter that a port begins when it turns, and when it is resumed.
use Rattle.std.proofs.Common.{◌≡◌, ℕ, ◌+◌, List, [], ap, sym, ◌∙◌, subst, refl, arith}
use Rattle.std.specs.Prelude.{Option, None}
use Rattle.pon_state.specs.State.{State}
use Rattle.pon_state.specs.Entry.{Entry}
use Rattle.pon_state.specs.Ranges.{IsStateInRange}
use Rattle.pon_history.specs.Chapters.{Chapter, IsLawfulOpening, chapter_after, present_state}
use Rattle.pon_history.specs.Taking.{IsKept, Turns}
use Rattle.pon_port.specs.Ports.{IsPort}
use Rattle.pon_history.proofs.Kept.{kept_none}
use Rattle.pon_history.proofs.LawfulChapters.{in_range_at_present, opens_at_present}

next_kept : (c : Chapter) (s : State) → IsKept c s → IsKept (chapter_after c) s
next_kept c s k = rw k.replayed (kept_none (c.number + 1) (present_state c) (opens_at_present c k.lawful (c.number + 1) (omega arith)))

-- the chapter that is begun with the state and no entries
module _ (c : Chapter) (s o : State) (es : List Entry) where
  abbrev begun : Chapter
  begun = record { number = c.number + 1; opening = o; entries = es }

  is_next : IsKept c s → o ≡ s → es ≡ [] → begun ≡ chapter_after c
  is_next k opening none = (λ i. record { number = c.number + 1; opening = (opening ∙ k.replayed) i; entries = none i })

  -- it is what the port keeps then, and it has no map yet
  pub turned_port : (place : Option ℕ) (na be : List ℕ) → IsPort c s place na be → o ≡ s → es ≡ [] → IsPort begun s None na be
  turned_port place na be p opening none =
      subst (λ n. IsPort n s None na be) (sym (is_next p.kept opening none))
      (record { kept = next_kept c s p.kept; in_range = in_range_at_present c p.kept.lawful p.in_range; last = refl })

pub turned : (c d : Chapter) (s o : State) (es : List Entry) → IsKept c s → o ≡ s → es ≡ [] → d ≡ c → Turns c d (record { number = c.number + 1; opening = o; entries = es })
turned c d s o es k opening none same =
    let next : begun c s o es ≡ chapter_after c = is_next c s o es k opening none in
    record { returned = same; begun = next; same_state = ap present_state next }

-- a chapter that begins with a lawful opening in range, and no entries
pub resumed_port : (n : ℕ) (s o t : State) (es : List Entry) (na be : List ℕ) → IsLawfulOpening n s → IsStateInRange s → o ≡ s → t ≡ s → es ≡ [] → IsPort (record { number = n; opening = o; entries = es }) t None na be
resumed_port n s o t es na be lawful range opening state none =
    rw (opening, state, none) (record { kept = kept_none n s lawful; in_range = range; last = refl })
