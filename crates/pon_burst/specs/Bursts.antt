-- The upstream bursts of a map (ITU-T G.987.3: StartTime and GrantSize), and when they are sound.
use Rattle.std.specs.Prelude.{ℕ, ◌+◌, ◌≤◌, ◌⊎◌, if◌then◌else◌, List, [], ◌∷◌, ◌++◌, AllPairs, All, Option, Some, None, is_none}
use Rattle.pon_units.specs.declared.limits.TheConstants.{FRAME_WORDS}
use Rattle.pon_bwmap.specs.Alloc.{Alloc}

-- the word of its first header word, and the words of its grants
pub record Burst : Type 0 where
  pub start : ℕ
  pub words : ℕ

-- the words of the leading grants that continue a burst
abbrev pub continued : List Alloc → ℕ
continued [] = 0
continued (a ∷ more) = if is_none a.start then a.grant + continued more else 0

abbrev pub burst_of : Alloc → List Alloc → Option ℕ → List Burst
burst_of a more None = []
burst_of a more (Some start) = record { start = start; words = a.grant + continued more } ∷ []

-- the bursts of a map: each start, with the words of the grants that belong to it
abbrev pub bursts_of : List Alloc → List Burst
bursts_of [] = []
bursts_of (a ∷ more) = burst_of a more a.start ++ bursts_of more

-- a burst is within the frame, from the gap before it to its trailer
abbrev pub IsInFrame : ℕ → Burst → Type 0
IsInFrame gap b = (gap ≤ b.start) × (b.start + 1 + b.words + 1 ≤ FRAME_WORDS)

-- one of the two ends before the gap of the other begins
abbrev pub AreDisjoint : ℕ → Burst → Burst → Type 0
AreDisjoint gap b c = (b.start + 1 + b.words + 1 + gap ≤ c.start) ⊎ (c.start + 1 + c.words + 1 + gap ≤ b.start)

-- the bursts of a map are within the frame, and no two overlap
pub record AreSound (gap : ℕ) (structures : List Alloc) : Type 0 where
  pub in_frame : All (IsInFrame gap) (bursts_of structures)
  pub disjoint : AllPairs (AreDisjoint gap) (bursts_of structures)
