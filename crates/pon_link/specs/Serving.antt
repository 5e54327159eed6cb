-- Maps read from one device, and their answers written to another, until the input ends or a fault occurs.
use Rattle.std.specs.Prelude.{◌≡◌, ℕ, ◌+◌, ◌-◌, ◌%◌, ◌^◌, ◌⊎◌, IsTrue, List, [], Option, Result, Ok, Err}
use Rattle.pon_device.specs.Device.{Consumes, IsAtEnd}
use Rattle.pon_link.specs.DownRecords.{IsDownRecord, WantsMemory}
use Rattle.pon_link.specs.Reading.{ReaderState, HasFault}
use Rattle.pon_link.specs.Runs.{AreRecords}
use Rattle.pon_link.specs.Units.{UnitState}
use Rattle.pon_link.specs.declared.direction.Direction.TheVariants.{Down}
use Rattle.pon_link.specs.declared.record.DownRecord.{DownRecord}
use Rattle.pon_link.specs.declared.record.UpRecord.{UpRecord}
use Rattle.pon_link.specs.Answers.{AnswersMaps}
use Rattle.pon_link.specs.Outputs.{Writes, HasBegun}
use Rattle.pon_link.specs.declared.units_fault.UnitsFault.{UnitsFault}
use Rattle.pon_link.specs.declared.units_fault.UnitsFault.TheVariants.{Device, Link, Memory}

-- maps were read and answered whole, and all answers were written; the bytes `held` were read after these maps
pub record HasServed (left_old left_new out_old out_new : Option (List ℕ)) (old new : List UnitState) (held : List ℕ) : Type 0 where
  pub input : List ℕ
  pub maps : List DownRecord
  pub answers : List UpRecord
  pub read : Consumes left_old left_new input
  pub are_maps : AreRecords IsDownRecord input maps held
  pub answered : AnswersMaps maps old new answers
  pub written : Writes out_old out_new answers

-- one more map was read; its first series are answered, and a prefix of their answers is written
pub record StopsInside (left_old left_new out_old out_new : Option (List ℕ)) (old new : List UnitState) : Type 0 where
  pub held : List ℕ
  pub received : DownRecord
  pub between : List UnitState
  pub out_between : Option (List ℕ)
  pub served : HasServed left_old left_new out_old out_between old between held
  pub is_map : IsDownRecord held received
  pub begun : HasBegun received.frame received.map between new out_between out_new

-- the bytes read and written, by how the run ended: the input ended after a map; a device failed; the held bytes are
-- not a map, or the input ended inside one; or memory was refused for the held map
abbrev pub ServesUntil : {T : Type 0} → Option (List ℕ) → Option (List ℕ) → Option (List ℕ) → Option (List ℕ) → List UnitState → List UnitState → Result T UnitsFault → Type 0
ServesUntil left_old left_new out_old out_new old new (Ok done) = HasServed left_old left_new out_old out_new old new [] × IsAtEnd left_new
ServesUntil left_old left_new out_old out_new old new (Err Device) =
    ((held : List ℕ) × HasServed left_old left_new out_old out_new old new held) ⊎ StopsInside left_old left_new out_old out_new old new
ServesUntil left_old left_new out_old out_new old new (Err (Link fault)) =
    (s : ReaderState) × HasServed left_old left_new out_old out_new old new s.held × (s.direction ≡ Down) × HasFault s fault × (IsTrue s.ended → IsAtEnd left_new)
ServesUntil left_old left_new out_old out_new old new (Err Memory) = (held : List ℕ) × HasServed left_old left_new out_old out_new old new held × WantsMemory held

-- the number of reads, of failed reads, and of failed writes and flushes, each modulo 2 ^ 64
pub record DeviceCounts : Type 0 where
  pub reads : ℕ
  pub failed_reads : ℕ
  pub failed_writes : ℕ

-- no call failed
abbrev pub FailsNever : DeviceCounts → DeviceCounts → Type 0
FailsNever old new = (new.failed_reads ≡ old.failed_reads) × (new.failed_writes ≡ old.failed_writes)

-- one read failed, and no other call
abbrev pub FailsToRead : DeviceCounts → DeviceCounts → Type 0
FailsToRead old new = (new.failed_reads ≡ (old.failed_reads + 1) % 2 ^ 64) × (new.failed_writes ≡ old.failed_writes)

-- one write or flush failed, and no other call
abbrev pub FailsToWrite : DeviceCounts → DeviceCounts → Type 0
FailsToWrite old new = (new.failed_reads ≡ old.failed_reads) × (new.failed_writes ≡ (old.failed_writes + 1) % 2 ^ 64)

-- no call failed, and 2 ^ 64 - 1 reads were made
abbrev pub ReadsOn : DeviceCounts → DeviceCounts → Type 0
ReadsOn old new = FailsNever old new × (new.reads ≡ (old.reads + (2 ^ 64 - 1)) % 2 ^ 64)

-- `Device` only if one call failed, or 2 ^ 64 - 1 reads were made
abbrev pub CountsServing : {T : Type 0} → DeviceCounts → DeviceCounts → Result T UnitsFault → Type 0
CountsServing old new (Ok done) = FailsNever old new
CountsServing old new (Err Device) = FailsToRead old new ⊎ FailsToWrite old new ⊎ ReadsOn old new
CountsServing old new (Err (Link fault)) = FailsNever old new
CountsServing old new (Err Memory) = FailsNever old new
