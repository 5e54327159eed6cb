-- A recording that goes on in the next device.
use Rattle.std.specs.Prelude.{ℕ, ◌≡◌, ◌+◌, Bool, if◌then◌else◌, MatchBool, List, [], ◌⊎◌, map, min, Option, Some, None, option_to_list}
use Rattle.pon_history.specs.Chapters.{Chapter}
use Rattle.pon_record.specs.Bodies.{chapter_body}
use Rattle.pon_device.specs.Device.{IsAtEnd}
use Rattle.pon_record.specs.Recorders.{Records}
use Rattle.pon_recorder.specs.Held.{held_after, most_held, nothing_held}
use Rattle.pon_recorder.specs.PortMaps.{map_count}
use Rattle.pon_recorder.specs.Recordings.{TakesChapters}
use Rattle.pon_recorder.specs.declared.recorder.Recorder.{Recorder}

-- a recorder writes to the device after these: what it has written since that was empty, as far as it shows its bytes, is a
-- recording without a chapter, of which nothing is left to write
pub record BeginsAnew {W : Type 0} (contents : W → Option (List ℕ)) (devices : ℕ) (r : Recorder W) : Type 0 where
  pub before : Option (List ℕ)
  pub empty : IsAtEnd before
  pub begun : Records before (contents r.file.device) r.file.left []
  pub left : r.file.left ≡ []
  pub held : r.held ≡ nothing_held
  pub next : r.devices ≡ min (devices + 1) most_held

-- a recorder is unchanged, or it goes on in the next device
abbrev pub GoesOn : {W : Type 0} → (W → Option (List ℕ)) → Recorder W → Recorder W → Type 0
GoesOn contents old new = (new ≡ old) ⊎ BeginsAnew contents old.devices new

-- a round of chapters ends: a recorder goes on in the next device, if one can be begun, where a port has the maps of one; else
-- it is unchanged
abbrev pub EndsRound : {W : Type 0} → (W → Option (List ℕ)) → Bool → Recorder W → Recorder W → Type 0
EndsRound contents full old new = MatchBool full (GoesOn contents old new) (new ≡ old)

-- the maps of a chapter that the device took whole: none of a dropped chapter, and none without a chapter
abbrev pub CountsMaps : {W : Type 0} → Recorder W → Recorder W → ℕ → Option Chapter → ℕ → Type 0
CountsMaps old new port None count = count ≡ 0
CountsMaps old new port (Some c) count = (taken : Bool) × (new.held ≡ held_after old.held taken (chapter_body port c))
    × (count ≡ (if taken then map_count c.entries else 0))

-- a recorder takes a chapter of a port, if there is one: it may go on in the next device before. The device takes this
-- number of maps
pub record TakesOn {W : Type 0} (contents : W → Option (List ℕ)) (old new : Recorder W) (before after port : ℕ) (popped : Option Chapter) (count : ℕ) : Type 0 where
  pub mid : Recorder W
  pub goes : GoesOn contents old mid
  pub takes : TakesChapters (contents mid.file.device) mid.file.left (contents new.file.device) new.file.left before after (map (chapter_body port) (option_to_list popped))
  pub counts : CountsMaps mid new port popped count
