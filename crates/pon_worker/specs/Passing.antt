-- The chapters that a worker passes to its sink.
use Rattle.std.specs.Prelude.{ℕ, ◌≡◌, ◌+◌, ◌<◌, ◌≤◌, ◌⊎◌, All, List, Option}
use Rattle.pon_descr.specs.declared.refusal.Refusal.{Refusal}
use Rattle.pon_history.specs.Chapters.{Chapter}
use Rattle.pon_desk.specs.Posts.{IsSomeTurn, IsSomeTurnRefusal}
use Rattle.pon_ring.specs.Passing.{PassesAll}
use Rattle.pon_ring.specs.Sinks.{PassesOn}
use Rattle.pon_ring.specs.declared.sink.Outlet.{Outlet}
use Rattle.pon_ring.specs.declared.sink.Sink.{Sink}

-- a port was to be turned: it was, and its chapter is passed to the sink, or it refused and nothing is passed
abbrev pub TriesTurn : Option Outlet → Option Outlet → Type 0
TriesTurn old new =
    ((chapter : Chapter) × IsSomeTurn chapter × PassesOn old chapter new)
    ⊎ ((told : Refusal) × IsSomeTurnRefusal told × (new ≡ old))

-- the turns at a post that was kept with this index: at most one before it, since the chapter was full, and one after it
-- exactly when the sink wants it
pub record TurnsAtPost (old : Sink) (index : ℕ) (new : Sink) : Type 0 where
  pub mid : Option Outlet
  pub before : (mid ≡ old.outlet) ⊎ TriesTurn old.outlet mid
  pub at_cut : old.cut ≤ index + 1 → TriesTurn mid new.outlet
  pub below_cut : index + 1 < old.cut → new.outlet ≡ mid

-- chapters of lawful ports were passed to the sink, and nothing else
pub record PassesChapters (old new : Sink) : Type 0 where
  pub chapters : List Chapter
  pub turned : All IsSomeTurn chapters
  pub passed : PassesAll old.outlet chapters new.outlet
  pub cut : new.cut ≡ old.cut
