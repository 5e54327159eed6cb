-- The entries of chapters that are not passed on, which wait to be freed.
use Rattle.std.specs.Prelude.{◌≡◌, ◌-◌, ◌⊎◌, List, [], length, take, Option, Some, None, Vec}
use Rattle.pon_state.specs.Entry.{Entry}
use Rattle.pon_history.specs.Chapters.{Chapter}
use Rattle.pon_ring.specs.Sinks.{IsPassed}
use Rattle.pon_ring.specs.declared.sink.Outlet.{Outlet}
use Rattle.pon_ring.specs.declared.sink.Sink.{Sink}
use Rattle.pon_ring.specs.declared.sink.TheConstants.{FREED_AT_ONCE}

abbrev pub entries_of : {A : Type 0} → Option (Vec Entry A) → List Entry
entries_of None = []
entries_of (Some entries) = entries.items

-- the entries that wait to be freed
abbrev pub discarded_entries : Sink → List Entry
discarded_entries s = entries_of s.discarded

-- the chapter is not dropped
abbrev pub IsPassedOn : Option Outlet → Chapter → Option Outlet → Type 0
IsPassedOn None chapter new = ⊥
IsPassedOn (Some old) chapter None = ⊥
IsPassedOn (Some old) chapter (Some new) = IsPassed old chapter new

-- the entries of the chapter wait to be freed, or it is passed on and no other entries wait than before
abbrev pub Discards : Sink → Chapter → Sink → Type 0
Discards old chapter new =
    (discarded_entries new ≡ chapter.entries)
    ⊎ (IsPassedOn old.outlet chapter new.outlet × (discarded_entries new ≡ discarded_entries old))

-- the last entries that wait are freed, as many as are freed at once
abbrev pub Frees : Sink → Sink → Type 0
Frees old new = discarded_entries new ≡ take (length (discarded_entries old) - FREED_AT_ONCE) (discarded_entries old)
