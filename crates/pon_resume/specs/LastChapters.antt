-- The last chapter of each port.
use Rattle.std.specs.Prelude.{ℕ, ◌≡◌, ◌≢◌, ◌<◌, All, IfSome, List, ◌∷◌, ◌++◌, Option, Some, None, length, slice_index_or}
use Rattle.pon_units.specs.declared.limits.TheConstants.{MAX_PORTS}
use Rattle.pon_record.specs.Chapters.{PlacedChapter}
use Rattle.pon_audit.specs.Openings.{FitsRecording}

-- no chapter is of the port
abbrev pub HasNone : ℕ → List PlacedChapter → Type 0
HasNone port chapters = All (λ c. c.body.port ≢ port) chapters

-- the chapter is of the port, and none after it is
pub record IsLastOf (port : ℕ) (chapters : List PlacedChapter) (last : PlacedChapter) : Type 0 where
  pub earlier : List PlacedChapter
  pub later : List PlacedChapter
  pub whole : chapters ≡ earlier ++ last ∷ later
  pub of_port : last.body.port ≡ port
  pub others : HasNone port later

-- the last chapter of the port, if it has one
abbrev pub TellsLast : ℕ → List PlacedChapter → Option PlacedChapter → Type 0
TellsLast port chapters None = HasNone port chapters
TellsLast port chapters (Some last) = IsLastOf port chapters last

-- the entry of a port
abbrev pub last_of : List (Option PlacedChapter) → ℕ → Option PlacedChapter
last_of lasts port = slice_index_or lasts port None

-- each entry is the last chapter of its port, if the port has one
abbrev pub AreLast : List PlacedChapter → List (Option PlacedChapter) → Type 0
AreLast chapters lasts = (port : ℕ) → port < MAX_PORTS → TellsLast port chapters (last_of lasts port)

-- the chapter is of the port, and fits one of the versions
pub record IsOfPort (port : ℕ) (c : PlacedChapter) : Type 0 where
  pub of_port : c.body.port ≡ port
  pub fits : FitsRecording c.body

-- an entry for each port, with a chapter of that port
pub record IsOfPorts (lasts : List (Option PlacedChapter)) : Type 0 where
  pub len : length lasts ≡ MAX_PORTS
  pub each : (port : ℕ) → port < MAX_PORTS → IfSome (last_of lasts port) (IsOfPort port)
