-- Chapters of a port's history: an opening and the entries that were taken from it.
use Rattle.std.specs.Prelude.{ℕ, ◌≡◌, ◌+◌, List, [], take, slice_get, Some}
use Rattle.pon_admit.specs.declared.rule.Rule.{Rule}
use Rattle.pon_state.specs.State.{State, opened_under}
use Rattle.pon_state.specs.History.{replay}
use Rattle.pon_state.specs.LawfulStates.{IsLawfulState}
use Rattle.pon_state.specs.Legal.{MayFollow}
use Rattle.pon_state.specs.Entry.{Entry}

-- the number of a chapter, counted from 0 in its port, the state that it opens with, and its entries
pub record Chapter : Type 0 where
  pub number : ℕ
  pub opening : State
  pub entries : List Entry

-- the chapter with only its entries before an index
abbrev pub cut_at : Chapter → ℕ → Chapter
cut_at c index = record { number = c.number; opening = c.opening; entries = take index c.entries }

-- the state before the k-th entry, and the present one
abbrev pub state_before : Chapter → ℕ → State
state_before c k = replay c.opening (take k c.entries)

abbrev pub present_state : Chapter → State
present_state c = replay c.opening c.entries

-- each k-th entry may follow in the state before it
abbrev pub IsLegal : Chapter → Type 0
IsLegal c = (k : ℕ) (e : Entry) → slice_get c.entries k ≡ Some e → MayFollow k (state_before c k) e

-- Lawful openings.

abbrev pub IsJustOpened : State → Type 0
IsJustOpened s = (rule : Rule) × (gap profile first : ℕ) × (s ≡ opened_under rule gap profile first)

-- chapter 0 opens with a port just opened
abbrev pub OpensFirst : ℕ → State → Type 0
OpensFirst number s = number ≡ 0 → IsJustOpened s

pub record IsLawfulOpening (number : ℕ) (s : State) : Type 0 where
  pub first : OpensFirst number s
  pub state : IsLawfulState s

-- a lawful opening and a legal list of entries
pub record IsLawfulChapter (c : Chapter) : Type 0 where
  pub opening : IsLawfulOpening c.number c.opening
  pub legal : IsLegal c

-- for any two chapters of one port with consecutive numbers, the later opens with the end of the earlier
abbrev pub Follows : Chapter → Chapter → Type 0
Follows c d = d.number ≡ c.number + 1 → d.opening ≡ present_state c

-- the chapter after a chapter: it opens with the end of it, and has no entries yet
abbrev pub chapter_after : Chapter → Chapter
chapter_after c = record { number = c.number + 1; opening = present_state c; entries = [] }
