-- The ranges of an event's numbers (ITU-T G.987.3: ONU-ID, Alloc-ID, BufOcc; causes and frames are this project's).
use Rattle.std.specs.Prelude.{ℕ, ◌<◌, ◌≤◌, ◌^◌, All, List, length, Option, IfSome}
use Rattle.pon_units.specs.declared.limits.TheConstants.{MAX_ALLOC_ID, MAX_ONU_ID, MIN_ALLOC_ID, MAX_SERIES}
use Rattle.pon_descr.specs.Descriptor.{IsLawful}
use Rattle.pon_admit.specs.Roster.{IsInRange}
use Rattle.pon_admit.specs.declared.event.Event.{Event}
use Rattle.pon_admit.specs.declared.event.Event.TheVariants.{Admit, Change, Remove, Report, MakeMap, Fail, Restore}

-- an Alloc-ID that may be admitted
abbrev pub IsManaged : ℕ → Type 0
IsManaged i = (MIN_ALLOC_ID ≤ i) × (i ≤ MAX_ALLOC_ID)

-- the occupancies of a burst: at most 16, each of 24 bits unless it is garbled
pub record AreOccupancies (occ : List (Option ℕ)) : Type 0 where
  pub few : length occ ≤ MAX_SERIES
  pub range : All (λ o. IfSome o (λ words. words < 2 ^ 24)) occ

-- a report of an ONU for the map of a frame
pub record IsReported (frame onu : ℕ) (occ : List (Option ℕ)) : Type 0 where
  pub frame_range : frame < 2 ^ 64
  pub onu_range : onu ≤ MAX_ONU_ID
  pub occupancies : AreOccupancies occ

-- the numbers of an event are in range
abbrev pub IsEvent : Event → Type 0
IsEvent (Admit row) = IsInRange row
IsEvent (Change alloc_id descriptor) = IsManaged alloc_id × IsLawful descriptor
IsEvent (Remove alloc_id) = IsManaged alloc_id
IsEvent (Report frame onu occ) = IsReported frame onu occ
IsEvent MakeMap = Unit {0}
IsEvent (Fail cause) = (1 ≤ cause) × (cause ≤ 9)
IsEvent Restore = Unit {0}
