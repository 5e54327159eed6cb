-- The recording of a run.
use Rattle.std.specs.Prelude.{◌≡◌, ◌<◌, ◌≤◌, ◌-◌, ◌^◌, ℕ, List, [], ◌∷◌, ◌++◌, ◌⊎◌, Bool, true, min, Option, option_to_list, map}
use Rattle.pon_history.specs.Chapters.{Chapter}
use Rattle.pon_record.specs.Chapters.{Body}
use Rattle.pon_record.specs.Bodies.{chapter_body}
use Rattle.pon_record.specs.Recorders.{Records}
use Rattle.pon_ring.specs.Rings.{SameOut, received_chapters}
use Rattle.pon_ring.specs.declared.ring_out.RingOut.{RingOut}

-- the recording has these additional chapters, after its earlier ones
abbrev pub HasRecorded : Option (List ℕ) → List ℕ → Option (List ℕ) → List ℕ → List Body → Type 0
HasRecorded old left new rest more =
    (before : Option (List ℕ)) (bodies : List Body)
    → Records before old left bodies → Records before new rest (bodies ++ more)

-- a chapter is dropped: the recording is unchanged, or the file failed and has only a prefix of the chapter
abbrev pub IsDropped : Option (List ℕ) → List ℕ → Option (List ℕ) → List ℕ → Bool → Body → Type 0
IsDropped old left new rest failed b =
    HasRecorded old left new rest [] ⊎ ((failed ≡ true) × HasRecorded old left new rest (b ∷ []))

-- these are some of the chapters, in order
abbrev pub AreSome : List Body → List Body → Type 0
AreSome some [] = some ≡ []
AreSome some (b ∷ bs) = AreSome some bs ⊎ ((more : List Body) × (some ≡ b ∷ more) × AreSome more bs)

-- the greatest number of dropped chapters that is counted
abbrev pub most_dropped : ℕ
most_dropped = 2 ^ 64 - 1

-- the recorder took these chapters of a port: some of them are recorded, all if none is counted as dropped
pub record TakesChapters (old : Option (List ℕ)) (left : List ℕ) (new : Option (List ℕ)) (rest : List ℕ) (before after : ℕ) (bodies : List Body) : Type 0 where
  pub recorded : List Body
  pub grows : HasRecorded old left new rest recorded
  pub some : AreSome recorded bodies
  pub all : after ≡ before → before < most_dropped → recorded ≡ bodies
  pub counts : min before most_dropped ≤ after

-- chapters are popped from the ring of this end, in order
pub record Pops (old new : RingOut) (chapters : List Chapter) : Type 0 where
  pub same : SameOut old new
  pub received : received_chapters new ≡ received_chapters old ++ chapters

-- the chapters that came from the sink of a port: those that were received from its ring, in order, and the one that waited
abbrev pub taken_from : RingOut → Option Chapter → List Chapter
taken_from ring waited = received_chapters ring ++ option_to_list waited

-- the chapters that a worker left: those that are still in its ring, and the one that waits for room
abbrev pub left_of : ℕ → List Chapter → Option Chapter → List Body
left_of port popped pending = map (chapter_body port) (popped ++ option_to_list pending)
