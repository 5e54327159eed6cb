-- What an entry does to the sums of a port.
use Rattle.std.specs.Prelude.{ℕ, ◌≡◌, Bool, true, false, Option, Some, None}
use Rattle.pon_state.specs.State.{State}
use Rattle.pon_state.specs.After.{after_entry}
use Rattle.pon_state.specs.Entry.{Entry}
use Rattle.pon_state.specs.Legal.{MayFollow}
use Rattle.pon_audit.specs.Faults.{EntryFails}
use Rattle.pon_audit.specs.declared.chapters.Judged.{Judged}
use Rattle.pon_audit.specs.declared.chapters.Judged.TheVariants.{Unlawful, Fails, Ends}
use Rattle.pon_why.specs.Sums.{plus}
use Rattle.pon_why.specs.Tallies.{sums_at}
use Rattle.pon_why.specs.declared.sums.Sums.{Sums}
use Rattle.pon_sold.specs.Chapters.{after_reply}
use Rattle.pon_sold.specs.Tables.{watch_at}
use Rattle.pon_sold.specs.declared.watch.Watch.{Watch}
use Rattle.pon_look.specs.Sums.{amounts_in_reply}
use Rattle.pon_look.specs.declared.frame_range.FrameRange.{FrameRange}
use Rattle.pon_look.specs.declared.tally.Tally.{Tally}
use Rattle.pon_look.specs.declared.tally.Tallied.{Tallied}
use Rattle.pon_look.specs.declared.tally.Tallied.TheVariants.{Follows, Stops}

-- the sums of an Alloc-ID in a tally
abbrev pub tally_sums : Tally → ℕ → Sums
tally_sums t = sums_at t.allocs

-- what was sold to an Alloc-ID, and what it got of it
abbrev pub tally_watch : Tally → ℕ → Watch
tally_watch t = watch_at t.watches

-- the sums of each Alloc-ID have what the entry adds in a state
abbrev pub AddsEntry : FrameRange → State → Entry → (ℕ → Sums) → (ℕ → Sums) → Type 0
AddsEntry range s e old new = (i : ℕ) → new i ≡ plus (old i) (amounts_in_reply range i s e.reply)

abbrev pub StaySame : (ℕ → Sums) → (ℕ → Sums) → Type 0
StaySame old new = (i : ℕ) → new i ≡ old i

-- the index of the entry at which a chapter is refused, 0 also for its opening
abbrev pub refused_at : Judged → Option ℕ
refused_at Unlawful = Some 0
refused_at (Fails f) = Some f.index
refused_at (Ends end) = None

-- what the entry that may not follow does to the sums
abbrev pub AddsIf : FrameRange → State → Entry → (ℕ → Sums) → (ℕ → Sums) → Bool → Type 0
AddsIf range s e old new true = AddsEntry range s e old new
AddsIf range s e old new false = StaySame old new

-- the entry may follow, the state is the one after it, and it is in the sums; or it may not follow, for this reason
abbrev pub IsTallied : FrameRange → ℕ → State → Entry → State → (ℕ → Sums) → (ℕ → Sums) → Tallied → Type 0
IsTallied range kept s e t old new Follows = MayFollow kept s e × (t ≡ after_entry s e) × AddsEntry range s e old new
IsTallied range kept s e t old new (Stops why added) = EntryFails kept s e why × AddsIf range s e old new added

-- what was sold to each Alloc-ID, with what the entry does
abbrev pub WatchesEntry : FrameRange → State → Entry → (ℕ → Watch) → (ℕ → Watch) → Type 0
WatchesEntry range s e old new = (i : ℕ) → new i ≡ after_reply range.first range.last i s e.event e.reply (old i)

abbrev pub WatchesIf : FrameRange → State → Entry → (ℕ → Watch) → (ℕ → Watch) → Bool → Type 0
WatchesIf range s e old new true = WatchesEntry range s e old new
WatchesIf range s e old new false = (i : ℕ) → new i ≡ old i

abbrev pub IsWatched : FrameRange → State → Entry → (ℕ → Watch) → (ℕ → Watch) → Tallied → Type 0
IsWatched range s e old new Follows = WatchesEntry range s e old new
IsWatched range s e old new (Stops why added) = WatchesIf range s e old new added
