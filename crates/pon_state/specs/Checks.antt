-- The first refusal of an event.
use Rattle.std.specs.Prelude.{ℕ, ◌-◌, ◌^◌, ◌||◌, nat_le, length, Option, Some, None}
use Rattle.pon_state.specs.declared.checks.TheConstants.{MAX_ENTRIES}
use Rattle.pon_descr.specs.Checks.{when, or_else}
use Rattle.pon_admit.specs.Roster.{refuses_admit, refuses_change, refuses_remove}
use Rattle.pon_guar.specs.ReportChecks.{refuses_report}
use Rattle.pon_state.specs.State.{State}
use Rattle.pon_admit.specs.declared.event.Event.{Event}
use Rattle.pon_admit.specs.declared.event.Event.TheVariants.{Admit, Change, Remove, Report, MakeMap, Fail, Restore}
use Rattle.pon_descr.specs.declared.refusal.Refusal.{Refusal}
use Rattle.pon_descr.specs.declared.refusal.Refusal.TheVariants.{PortDown, PortUp, FrameLimit, ChapterFull}

abbrev pub when_down : Option ℕ → Option Refusal
when_down None = None
when_down (Some cause) = Some (PortDown cause)

abbrev pub when_up : Option ℕ → Option Refusal
when_up None = Some PortUp
when_up (Some cause) = None

-- the last frame has no successor
abbrev pub at_limit : ℕ → Option Refusal
at_limit next = when (nat_le (2 ^ 64 - 1) next) FrameLimit

-- the chapter, or the count of entries over all chapters, is full
abbrev pub when_full : ℕ → ℕ → Option Refusal
when_full kept taken_before = when (nat_le MAX_ENTRIES kept || nat_le (2 ^ 64 - 1) (taken_before)) ChapterFull

-- Each event's own checks, in order.
abbrev pub refuses : State → Event → Option Refusal
refuses s (Admit row) = refuses_admit s.rule s.gap s.roster row
refuses s (Change alloc_id descriptor) = refuses_change s.rule s.gap s.roster alloc_id descriptor
refuses s (Remove alloc_id) = refuses_remove s.roster alloc_id
refuses s (Report frame onu occ) = or_else (when_down s.cause) (refuses_report s.window frame onu (length occ))
refuses s MakeMap = or_else (when_down s.cause) (at_limit s.next)
refuses s (Fail cause) = when_down s.cause
refuses s Restore = when_up s.cause

-- the first refusal of an event after `kept` entries of its chapter; that of a full chapter is the last check
abbrev pub first_refusal : ℕ → State → Event → Option Refusal
first_refusal kept s event = or_else (refuses s event) (when_full kept s.taken_before)
