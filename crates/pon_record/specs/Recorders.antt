-- A writer of recordings: the bytes that it has written, and those that it has left.
use Rattle.std.specs.Prelude.{◌≡◌, ℕ, ◌+◌, ◌%◌, ◌^◌, List, [], ◌∷◌, ◌++◌, Option, Result, Ok, Err}
use Rattle.pon_device.specs.Device.{Appends}
use Rattle.pon_record.specs.declared.version.Version.TheVariants as version
use Rattle.pon_record.specs.Chapters.{Body}
use Rattle.pon_record.specs.Recordings.{recording_bytes}
use Rattle.pon_record.specs.declared.record_fault.RecordFault.{RecordFault}
use Rattle.pon_record.specs.declared.record_fault.RecordFault.TheVariants.{Busy, Memory, Device}

-- a writer: its device, and the bytes that the device has not taken yet
pub record Recorder (W : Type 0) : Type 0 where
  pub device : W
  pub left : List ℕ

-- bytes were written to a device that shows its bytes; these and the bytes that are left are the given ones
pub record GoesOut (before after : Option (List ℕ)) (left bytes : List ℕ) : Type 0 where
  pub sent : List ℕ
  pub appends : Appends before after sent
  pub together : sent ++ left ≡ bytes

-- the bytes written since the device had `before`, and then those that are left, are the version two recording of these
-- chapters
abbrev pub Records : Option (List ℕ) → Option (List ℕ) → List ℕ → List Body → Type 0
Records before now left bodies = GoesOut before now left (recording_bytes version.Two bodies)

-- the recording has one more chapter
abbrev pub Grows : Option (List ℕ) → List ℕ → Option (List ℕ) → List ℕ → Body → Type 0
Grows old left new rest b = (before : Option (List ℕ)) (bodies : List Body) → Records before old left bodies → Records before new rest (bodies ++ b ∷ [])

-- the recording is unchanged
abbrev pub Stays : Option (List ℕ) → List ℕ → Option (List ℕ) → List ℕ → Type 0
Stays old left new rest = (before : Option (List ℕ)) (bodies : List Body) → Records before old left bodies → Records before new rest bodies

-- the chapter was taken
abbrev pub IsTaken : {T : Type 0} → Result T RecordFault → Type 0
IsTaken (Ok t) = Unit {0}
IsTaken (Err Device) = Unit {0}
IsTaken (Err Busy) = ⊥
IsTaken (Err Memory) = ⊥

-- one more failure exactly when the device failed, modulo 2 ^ 64
abbrev pub CountsDevice : {T : Type 0} → ℕ → ℕ → Result T RecordFault → Type 0
CountsDevice old new (Ok t) = new ≡ old
CountsDevice old new (Err Device) = new ≡ (old + 1) % 2 ^ 64
CountsDevice old new (Err Busy) = new ≡ old
CountsDevice old new (Err Memory) = new ≡ old

-- one more failure exactly when some of the magic bytes are left
abbrev pub CountsOpening : ℕ → ℕ → List ℕ → Type 0
CountsOpening old new [] = new ≡ old
CountsOpening old new (b ∷ bs) = new ≡ (old + 1) % 2 ^ 64
