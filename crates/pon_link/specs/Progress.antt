-- The bytes that the reader of maps holds, after a read.
use Rattle.std.specs.Prelude.{◌≡◌, ℕ, ◌+◌, ◌%◌, ◌^◌, ◌⊎◌, List, [], Option, Result, Ok, Err}
use Rattle.pon_link.specs.DownRecords.{IsDownRecord, WantsMemory}
use Rattle.pon_link.specs.Reading.{ReaderState, empty, IsOpen, HasFault}
use Rattle.pon_link.specs.Units.{UnitState}
use Rattle.pon_link.specs.declared.direction.Direction.TheVariants.{Down}
use Rattle.pon_link.specs.declared.record.DownRecord.{DownRecord}
use Rattle.pon_link.specs.Outputs.{HasAnswered, HasBegun}
use Rattle.pon_link.specs.declared.units_fault.UnitsFault.{UnitsFault}
use Rattle.pon_link.specs.declared.units_fault.UnitsFault.TheVariants.{Device, Link, Memory}

-- nothing was answered
pub record IsUntouched (s t : ReaderState) (old new : List UnitState) (out_old out_new : Option (List ℕ)) : Type 0 where
  pub reader : t ≡ s
  pub units : new ≡ old
  pub writer : out_new ≡ out_old

-- a whole map was held, and was answered
pub record IsAnswered (s t : ReaderState) (old new : List UnitState) (out_old out_new : Option (List ℕ)) : Type 0 where
  pub received : DownRecord
  pub is_map : IsDownRecord s.held received
  pub reader : t ≡ empty Down
  pub answered : HasAnswered received.frame received.map [] old new out_old out_new

-- a whole map was held, and a prefix of its answers was written
pub record IsBegun (s : ReaderState) (old new : List UnitState) (out_old out_new : Option (List ℕ)) : Type 0 where
  pub received : DownRecord
  pub is_map : IsDownRecord s.held received
  pub begun : HasBegun received.frame received.map old new out_old out_new

-- a whole map was answered, or the held bytes are a prefix of one; or why not
abbrev pub AnswersHeld : {T : Type 0} → ReaderState → ReaderState → List UnitState → List UnitState → Option (List ℕ) → Option (List ℕ) → Result T UnitsFault → Type 0
AnswersHeld s t old new out_old out_new (Ok done) = (IsOpen s × IsUntouched s t old new out_old out_new) ⊎ IsAnswered s t old new out_old out_new
AnswersHeld s t old new out_old out_new (Err Device) = IsBegun s old new out_old out_new
AnswersHeld s t old new out_old out_new (Err (Link fault)) = HasFault s fault × IsUntouched s t old new out_old out_new
AnswersHeld s t old new out_old out_new (Err Memory) = WantsMemory s.held × IsUntouched s t old new out_old out_new

-- `Device` exactly when a write or the flush failed
abbrev pub CountsAnswer : {T : Type 0} → ℕ → ℕ → Result T UnitsFault → Type 0
CountsAnswer old new (Ok done) = new ≡ old
CountsAnswer old new (Err Device) = new ≡ (old + 1) % 2 ^ 64
CountsAnswer old new (Err (Link fault)) = new ≡ old
CountsAnswer old new (Err Memory) = new ≡ old
