-- Chapters that are passed to a sink one after another.
use Rattle.std.specs.Prelude.{◌≡◌, ◌+◌, ◌-◌, ◌^◌, ◌++◌, ◌∷◌, ◌<◌, [], All, Contains, List, length, Option, Some, None}
use Rattle.std.specs.Option.{ForSome}
use Rattle.pon_history.specs.Chapters.{Chapter}
use Rattle.pon_ring.specs.Rings.{AreEnds, SameIn}
use Rattle.pon_ring.specs.Sinks.{PassesOn, passed}
use Rattle.pon_ring.specs.declared.ring_out.RingOut.{RingOut}
use Rattle.pon_ring.specs.declared.sink.Outlet.{Outlet}
use Rattle.pon_ring.specs.declared.sink.Sink.{Sink}

-- the sink after these chapters
abbrev pub PassesAll : Option Outlet → List Chapter → Option Outlet → Type 0
PassesAll old [] new = new ≡ old
PassesAll old (c ∷ cs) new = (mid : Option Outlet) × PassesOn old c mid × PassesAll mid cs new

-- without a ring before and after, or with the same end of a ring
abbrev pub SameRing : Option Outlet → Option Outlet → Type 0
SameRing None new = new ≡ None
SameRing (Some old) None = ⊥
SameRing (Some old) (Some new) = SameIn old.ring new.ring

-- a sink without a ring stays so; one with a ring keeps the end of that ring
abbrev pub KeepsRing : Sink → Sink → Type 0
KeepsRing old new = SameRing old.outlet new.outlet

-- a sink passes its chapters to the ring that has this other end, or nowhere
abbrev pub PassesTo : Sink → RingOut → Type 0
PassesTo sink out = ForSome sink.outlet (λ o. AreEnds o.ring out)

-- some of the chapters follow those passed before, and each of the others is counted as dropped
pub record AreKeptOrCounted (old : Outlet) (chapters : List Chapter) (new : Outlet) : Type 0 where
  pub kept : List Chapter
  pub passed : passed new ≡ passed old ++ kept
  pub among : All (Contains chapters) kept
  pub counted : new.dropped + length kept ≡ old.dropped + length chapters

-- no chapter is lost without a count, as long as the count is not at its greatest value
abbrev pub LosesNone : Type 0
LosesNone = (old new : Outlet) (chapters : List Chapter) → PassesAll (Some old) chapters (Some new) → new.dropped < 2 ^ 64 - 1
    → AreKeptOrCounted old chapters new
