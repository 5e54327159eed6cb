-- The chapters that are passed to a sink.
use Rattle.std.specs.Prelude.{ℕ, ◌≡◌, ◌+◌, ◌^◌, ◌-◌, ◌++◌, ◌∷◌, [], ◌⊎◌, ◌<◌, ◌≤◌, IsSome, List, min, Option, Some, None, option_to_list}
use Rattle.pon_history.specs.Chapters.{Chapter}
use Rattle.pon_ring.specs.Numbers.{last_number, newest_after, next_number}
use Rattle.pon_ring.specs.Rings.{SameIn, sent_chapters}
use Rattle.pon_ring.specs.declared.ring_in.RingIn.{RingIn}
use Rattle.pon_ring.specs.declared.sink.Outlet.{Outlet}
use Rattle.pon_ring.specs.declared.sink.Rest.{Rest}

-- the chapters that were passed and not dropped: those that were sent, and the one that waits
abbrev pub passed : Outlet → List Chapter
passed o = sent_chapters o.ring ++ option_to_list o.pending

-- the chapter is the last of those passed and not dropped; its number is above those of all that came before, and is noted
pub record IsPassed (old : Outlet) (chapter : Chapter) (new : Outlet) : Type 0 where
  pub newer : next_number old.newest ≤ chapter.number
  pub newest : new.newest ≡ newest_after old.newest chapter.number
  pub passed : passed new ≡ passed old ++ chapter ∷ []
  pub dropped : new.dropped ≡ old.dropped

-- the chapter is dropped and counted, up to 2^64 - 1: another one waits, or its number is not above those of all that came
-- before; it is noted in either case
pub record IsDropped (old : Outlet) (chapter : Chapter) (new : Outlet) : Type 0 where
  pub newest : new.newest ≡ newest_after old.newest chapter.number
  pub why : IsSome new.pending ⊎ (chapter.number < next_number old.newest)
  pub passed : passed new ≡ passed old
  pub dropped : new.dropped ≡ min (old.dropped + 1) (2 ^ 64 - 1)

abbrev pub Passes : Outlet → Chapter → Outlet → Type 0
Passes old chapter new = IsPassed old chapter new ⊎ IsDropped old chapter new

-- a sink without a ring stays so; one with a ring passes the chapter to it
abbrev pub PassesOn : Option Outlet → Chapter → Option Outlet → Type 0
PassesOn None chapter new = new ≡ None
PassesOn (Some old) chapter None = ⊥
PassesOn (Some old) chapter (Some new) = SameIn old.ring new.ring × Passes old chapter new

abbrev pub dropped_of : Option Outlet → ℕ
dropped_of None = 0
dropped_of (Some o) = o.dropped

-- nothing waits, nothing was dropped, and the newest chapter is the last one in the ring
pub record StartsWith (ring : RingIn) (o : Outlet) : Type 0 where
  pub same : o.ring ≡ ring
  pub newest : o.newest ≡ last_number (sent_chapters ring)
  pub none_waits : o.pending ≡ None
  pub none_dropped : o.dropped ≡ 0

-- the parts of a sink over a ring
abbrev pub IsRest : Option Outlet → Rest → Type 0
IsRest None rest = ⊥
IsRest (Some o) rest = (rest.ring ≡ o.ring) × (rest.pending ≡ o.pending) × (rest.dropped ≡ o.dropped)
