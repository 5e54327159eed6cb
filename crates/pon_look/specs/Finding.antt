-- A map that was found in a recording.
use Rattle.std.specs.Prelude.{◌≡◌, ◌<◌, ◌⊎◌, length, false, true}
use Rattle.pon_audit.specs.Openings.{FitsRecording}
use Rattle.pon_look.specs.declared.finding.FoundMap.{FoundMap}
use Rattle.pon_look.specs.declared.finding.Rank.{Rank}

-- its chapter is one that was read, and has the entry
pub record IsFound (m : FoundMap) : Type 0 where
  pub fits : FitsRecording m.chapter.body
  pub entry : m.entry < length m.chapter.body.entries

-- a map with the Alloc-ID comes before one without; of two that have it, or lack it, the one of the lower port
abbrev pub ComesBefore : Rank → Rank → Type 0
ComesBefore a b = ((a.lacks_alloc ≡ false) × (b.lacks_alloc ≡ true)) ⊎ ((a.lacks_alloc ≡ b.lacks_alloc) × (a.port < b.port))
