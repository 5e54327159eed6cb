-- The chapter of a port after an event is taken, and after the port turns.
use Rattle.std.specs.Prelude.{◌≡◌, ◌-◌, ◌^◌, nat_le, [], ◌∷◌, ◌++◌, length, Option}
use Rattle.pon_state.specs.State.{State}
use Rattle.pon_admit.specs.Roster.{IsAdmitted}
use Rattle.pon_state.specs.Checks.{first_refusal}
use Rattle.pon_state.specs.Legal.{MayFollow}
use Rattle.pon_demand.specs.Carries.{AreCarries}
use Rattle.pon_state.specs.Accounts.{AccountsFor}
use Rattle.pon_history.specs.Chapters.{Chapter, chapter_after, present_state, IsLawfulChapter}
use Rattle.pon_history.specs.FairMaps.{TellsFairMap}
use Rattle.pon_admit.specs.declared.event.Event.{Event}
use Rattle.pon_state.specs.declared.reply.Reply.{Reply}
use Rattle.pon_descr.specs.Checks.{when}
use Rattle.pon_descr.specs.declared.refusal.Refusal.{Refusal}
use Rattle.pon_descr.specs.declared.refusal.Refusal.TheVariants.{ChapterFull}

-- the chapter with one more entry
abbrev pub with_entry : Chapter → Event → Reply → Chapter
with_entry c event reply = record { number = c.number; opening = c.opening; entries = c.entries ++ record { event = event; reply = reply } ∷ [] }

-- the entry may follow, and is kept
pub record Takes (old : Chapter) (event : Event) (reply : Reply) (new : Chapter) : Type 0 where
  pub follows : MayFollow (length old.entries) (present_state old) (record { event = event; reply = reply })
  pub kept : new ≡ with_entry old event reply

-- an entry of the event may follow, and is kept; a map in its reply is fair
pub record Keeps (old : Chapter) (event : Event) (new : Chapter) : Type 0 where
  pub reply : Reply
  pub takes : Takes old event reply new
  pub fair : TellsFairMap (present_state old) reply

-- the first refusal of the event in the present state
abbrev pub refusal_of : Chapter → Event → Option Refusal
refusal_of c event = first_refusal (length c.entries) (present_state c) event

-- the kept chapter is returned, and the next one is begun in the same state
pub record Turns (old chapter new : Chapter) : Type 0 where
  pub returned : chapter ≡ old
  pub begun : new ≡ chapter_after old
  pub same_state : present_state new ≡ present_state old

-- the last number of a chapter has no successor
abbrev pub turn_refusal : Chapter → Option Refusal
turn_refusal c = when (nat_le (2 ^ 64 - 1) c.number) ChapterFull

-- what a port keeps: a lawful chapter and its replay; the roster is an admitted set, the report book has its Alloc-IDs,
-- and there is a carry for each
pub record IsKept (c : Chapter) (state : State) : Type 0 where
  pub lawful : IsLawfulChapter c
  pub replayed : state ≡ present_state c
  pub admitted : IsAdmitted state.rule state.gap state.roster
  pub book : AccountsFor state.roster state.book
  pub carries : AreCarries state.rule state.roster state.carries
