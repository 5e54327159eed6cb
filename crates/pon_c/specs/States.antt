-- What is shown of a port, and of its Alloc-IDs.
use Rattle.std.specs.Prelude.{ℕ, ◌≡◌, ◌+◌, ◌*◌, ◌==◌, is_some, length, position, slice_get, Some, None}
use Rattle.std.specs.declared.option.Option.{Option}
use Rattle.pon_units.specs.declared.limits.TheConstants.{WORD_RATE}
use Rattle.pon_descr.specs.declared.class.Class.{Class}
use Rattle.pon_descr.specs.declared.class.Class.TheVariants.{Plain, NonAssured, BestEffort}
use Rattle.pon_admit.specs.declared.row.Row.{Row}
use Rattle.pon_admit.specs.Roster.{capacity, onus_of, promised_sum}
use Rattle.pon_guar.specs.declared.account.Counted.{Counted}
use Rattle.pon_guar.specs.Book.{account_of, known_report, load_of}
use Rattle.pon_state.specs.State.{State, carry_of}
use Rattle.pon_history.specs.Chapters.{Chapter, present_state}
use Rattle.pon_c.specs.declared.numbers.TheConstants.{CLOSED, NO_ROW, NO_SUCH_ALLOC}
use Rattle.pon_c.specs.declared.state.StateInfo.{StateInfo}
use Rattle.pon_c.specs.declared.state.RowInfo.{RowInfo}

-- the cause of a failure, 0 if the line is up
abbrev pub cause_number : Option ℕ → ℕ
cause_number None = 0
cause_number (Some cause) = cause

abbrev pub class_number : Class → ℕ
class_number Plain = 0
class_number NonAssured = 1
class_number BestEffort = 2

abbrev pub number_or_zero : Option ℕ → ℕ
number_or_zero None = 0
number_or_zero (Some n) = n

-- what is shown of a port, given its kept chapter and its present state
abbrev pub state_info : Chapter → State → StateInfo
state_info c s = record {
  next_frame = s.next;
  chapter = c.number;
  taken = c.opening.taken_before + length c.entries;
  kept = length c.entries;
  alloc_ids = length s.roster;
  onus = length (onus_of s.roster);
  guaranteed = promised_sum s.roster;
  capacity = WORD_RATE * capacity s.rule s.gap s.roster;
  cause = cause_number s.cause;
}

abbrev pub TellsState : Option Chapter → ℕ → StateInfo → Type 0
TellsState None n info = n ≡ CLOSED
TellsState (Some c) n info = (n ≡ 0) × (info ≡ state_info c (present_state c))

-- the frame and the words of a report that counts
abbrev pub frame_of : Option Counted → ℕ
frame_of None = 0
frame_of (Some x) = x.frame

abbrev pub words_of : Option Counted → ℕ
words_of None = 0
words_of (Some x) = x.words

-- what is shown of an admitted Alloc-ID
abbrev pub row_info : State → Row → RowInfo
row_info s r = record {
  fixed = r.descriptor.fixed;
  assured = r.descriptor.assured;
  max = r.descriptor.max;
  load = load_of s.book r.alloc_id;
  report_frame = frame_of (known_report (account_of s.book r.alloc_id));
  report_words = words_of (known_report (account_of s.book r.alloc_id));
  onu = r.onu;
  alloc_id = r.alloc_id;
  class = class_number r.descriptor.class;
  carry = number_or_zero (carry_of s r.alloc_id);
  has_report = is_some (known_report (account_of s.book r.alloc_id));
}

abbrev pub TellsRowOf : State → Option Row → ℕ → RowInfo → Type 0
TellsRowOf s None n info = n ≡ NO_ROW
TellsRowOf s (Some r) n info = (n ≡ 0) × (info ≡ row_info s r)

-- the row at a place of the roster
abbrev pub TellsRow : State → ℕ → ℕ → RowInfo → Type 0
TellsRow s place n info = TellsRowOf s (slice_get s.roster place) n info

abbrev pub ShowsRow : Option Chapter → ℕ → ℕ → RowInfo → Type 0
ShowsRow None place n info = n ≡ CLOSED
ShowsRow (Some c) place n info = TellsRow (present_state c) place n info

abbrev pub TellsPlace : State → Option ℕ → ℕ → RowInfo → Type 0
TellsPlace s None n info = n ≡ NO_SUCH_ALLOC
TellsPlace s (Some place) n info = TellsRow s place n info

-- the row of an Alloc-ID
abbrev pub TellsFound : State → ℕ → ℕ → RowInfo → Type 0
TellsFound s i n info = TellsPlace s (position (λ r. r.alloc_id == i) s.roster) n info

abbrev pub FindsRow : Option Chapter → ℕ → ℕ → RowInfo → Type 0
FindsRow None i n info = n ≡ CLOSED
FindsRow (Some c) i n info = TellsFound (present_state c) i n info
