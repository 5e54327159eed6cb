-- The records that a worker reads from its link, and how they are counted.
use Rattle.std.specs.Prelude.{ℕ, ◌≡◌, ◌≤◌, ◌+◌, ◌*◌, ◌%◌, ◌^◌, ◌==◌, ◌⊎◌, ◌&&◌, Bool, cond, false, true, is_some, min, List, count_by, length, Option, Some, None, Result, Ok, Err}
use Rattle.pon_plant.specs.declared.fault.StepFault.{StepFault}
use Rattle.pon_device.specs.Device.{Consumes, IsAtEnd}
use Rattle.pon_xgtc.specs.BurstHead.{BurstHead}
use Rattle.pon_link.specs.Reading.{ReaderState, HasFault, IsOpen, MayBecomeRecord}
use Rattle.pon_link.specs.declared.direction.Direction.TheVariants.{Up}
use Rattle.pon_link.specs.Runs.{AreRecords}
use Rattle.pon_link.specs.UpRecords.{IsRecord}
use Rattle.pon_link.specs.declared.fault.LinkFault.{LinkFault}
use Rattle.pon_link.specs.declared.record.UpRecord.{UpRecord}
use Rattle.pon_worker.specs.declared.causes.TheConstants.{READ_FAILED, BAD_RECORD, INPUT_ENDED}
use Rattle.pon_worker.specs.declared.sending.TheConstants.{MAX_TRIES}
use Rattle.pon_worker.specs.declared.counts.PortCounts.{PortCounts}
use Rattle.pon_worker.specs.declared.counts.TheConstants.{MAX_COUNT}
use Rattle.pon_worker.specs.declared.reading.TheConstants.{NO_ONU}

-- a device failed in some calls, counted modulo 2 ^ 64, and moved this number of bytes in others: it failed three times at
-- least, and at most three times for each byte and three times more
pub record FailsInRow (bytes old new : ℕ) : Type 0 where
  pub failed : ℕ
  pub least : MAX_TRIES ≤ failed
  pub most : failed ≤ MAX_TRIES * (bytes + 1)
  pub counts : new ≡ (old + failed) % 2 ^ 64

-- why a reader in this state has no further record: reads failed, its bytes are not a record before the input ends, or
-- the input ended, at most with the beginning of a record
abbrev pub StopsFor : ℕ → ReaderState → Option (List ℕ) → Type 0
StopsFor cause s left =
    ((cause ≡ READ_FAILED) × IsOpen s)
    ⊎ ((cause ≡ BAD_RECORD) × (s.ended ≡ false) × ((fault : LinkFault) × HasFault s fault))
    ⊎ ((cause ≡ INPUT_ENDED) × MayBecomeRecord Up s.held × IsAtEnd left)

-- a burst header that names no sender
abbrev pub is_nobodys : Option BurstHead → Bool
is_nobodys None = true
is_nobodys (Some head) = head.onu_raw == NO_ONU

-- a record without a sender
abbrev pub is_garbled : UpRecord → Bool
is_garbled burst = is_nobodys burst.head

-- a record without a sender whose burst header is sound: no unit owns its burst
abbrev pub is_unowned : UpRecord → Bool
is_unowned burst = is_garbled burst && is_some burst.head

-- the counts of these records: this number of reports was taken, and the others were without a sender or refused
pub record CountsRecords (records : List UpRecord) (reports : ℕ) (old new : PortCounts) : Type 0 where
  pub refusals : ℕ
  pub all : reports + count_by is_garbled records + refusals ≡ length records
  pub taken : new.reports ≡ old.reports + reports
  pub garbled : new.garbled ≡ min (old.garbled + count_by is_garbled records) MAX_COUNT
  pub unowned : new.unowned ≡ min (old.unowned + count_by is_unowned records) MAX_COUNT
  pub refused : new.refused ≡ min (old.refused + refusals) MAX_COUNT

-- the counts after a record without a sender, which no unit owns if it has a burst header
abbrev pub after_garbled : Option BurstHead → PortCounts → PortCounts
after_garbled head old = record {
  maps = old.maps;
  reports = old.reports;
  garbled = min (old.garbled + 1) MAX_COUNT;
  unowned = min (old.unowned + cond (is_some head) 1 0) MAX_COUNT;
  refused = old.refused;
}

-- the counts after a report was posted: the port took it, or it was refused
abbrev pub after_report : Result (Unit {0}) StepFault → PortCounts → PortCounts
after_report (Ok taken) old = record { maps = old.maps; reports = old.reports + 1; garbled = old.garbled; unowned = old.unowned; refused = old.refused }
after_report (Err fault) old = record { maps = old.maps; reports = old.reports; garbled = old.garbled; unowned = old.unowned; refused = min (old.refused + 1) MAX_COUNT }

-- records that were read, and bytes of the next one
pub record HasRead (records : List UpRecord) (held : List ℕ) (left_old left_new : Option (List ℕ)) : Type 0 where
  pub input : List ℕ
  pub read : Consumes left_old left_new input
  pub are : AreRecords IsRecord input records held
