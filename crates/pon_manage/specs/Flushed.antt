-- Lines at the ports of a plant whose chapters are recorded also before they are full.
use Rattle.std.proofs.Common.{subst, sym}
use Rattle.std.specs.Prelude.{ℕ, ◌≡◌, ◌⊎◌, List, [], ◌++◌, length, Option, Result, OnOk}
use Rattle.pon_device.specs.declared.fault.DeviceFault.{DeviceFault}
use Rattle.pon_admit.specs.declared.port_cfg.PortCfg.{PortCfg}
use Rattle.pon_admit.specs.declared.step.Step.{Step}
use Rattle.pon_history.specs.Chapters.{Chapter}
use Rattle.pon_admit.specs.declared.event.Event.TheVariants.{MakeMap}
use Rattle.pon_line.proofs.LongLines.{read_line-take}
use Rattle.pon_line.specs.Reading.{read_line}
use Rattle.pon_line.specs.declared.reading.Reading.{Reading}
use Rattle.pon_line.specs.declared.reading.Reading.TheVariants.{Asks}
use Rattle.pon_plant.specs.Turning.{GivesChapters, TurnsPort}
use Rattle.pon_recorder.specs.Recordings.{HasRecorded}
use Rattle.pon_recorder.specs.Whole.{all_kept}
use Rattle.pon_text.specs.Giving.{IsPath, ReadsFirst}
use Rattle.pon_text.specs.Planning.{Planned}
use Rattle.pon_manage.specs.Planning.{IsStart}
use Rattle.pon_manage.specs.Paths.{records_path}
use Rattle.pon_manage.specs.Recorded.{AnswersInRoom, NothingBegun, RecordsTurned, turned_bodies}
use Rattle.pon_manage.specs.declared.flushed.FlushedPlant.{FlushedPlant}

-- before a map its port may be turned; otherwise no port changes
abbrev pub CutsBefore : List Chapter → Reading → List Chapter → Type 0
CutsBefore old (Asks port MakeMap) mid = (mid ≡ old) ⊎ ((chapter : Chapter) × TurnsPort old port chapter mid)
CutsBefore old _ mid = mid ≡ old

-- the text of a reading at ports that are turned when they are full, and perhaps before a map
abbrev pub AnswersAfterCut : List Chapter → Reading → List ℕ → List Chapter → Type 0
AnswersAfterCut old reading text new = (mid : List Chapter) × CutsBefore old reading mid × AnswersInRoom mid reading text new

-- the same of a line
abbrev pub GivesFlushed : List Chapter → List ℕ → List ℕ → List Chapter → Type 0
GivesFlushed old line text new = AnswersAfterCut old (read_line (length old) line) text new

-- the same of ports with a recorder
abbrev pub GivesAndCuts : {D : Type 0} → FlushedPlant D → List ℕ → List ℕ → FlushedPlant D → Type 0
GivesAndCuts old line text new = GivesFlushed old.recorded.plant line text new.recorded.plant

-- the recorder takes each chapter that the ports give
abbrev pub RecordsInTime : {D : Type 0} → (D → Option (List ℕ)) → FlushedPlant D → FlushedPlant D → Type 0
RecordsInTime contents old new = RecordsTurned contents old.recorded new.recorded

pub in_time_path : {D : Type 0} (contents : D → Option (List ℕ)) → IsPath (RecordsInTime contents)
in_time_path contents = record {
  here = λ s. (records_path contents).here s.recorded;
  joined = λ a b c f s. (records_path contents).joined a.recorded b.recorded c.recorded f s;
}

-- a line has the same text as its first 4,097 bytes
pub flushed_gives_first : {D : Type 0} → ReadsFirst (GivesAndCuts {D = D})
flushed_gives_first {D} old line text new = (
  subst (λ r. AnswersAfterCut old.recorded.plant r text new.recorded.plant) (read_line-take (length old.recorded.plant) line),
  subst (λ r. AnswersAfterCut old.recorded.plant r text new.recorded.plant) (sym (read_line-take (length old.recorded.plant) line)),
)

-- Lines were answered at the ports as the steps of their settings leave them, which are turned when they are full, and before
-- some maps. If the recording ended well, the device got each chapter that the ports gave, in order, and then the chapter
-- that each port keeps, and nothing is left to write.
pub record PlannedInTime {T E : Type 0} (ports : List (PortCfg × ℕ)) (steps : List Step) (left_old left_new held_old held_new : Option (List ℕ)) (result : Result T DeviceFault)
    (tape_old : Option (List ℕ)) (left : List ℕ) (tape_new : Option (List ℕ)) (recorded : Result E DeviceFault) : Type 0 where
  pub start : List Chapter
  pub last : List Chapter
  pub turned : List (ℕ × Chapter)
  pub begins : IsStart ports steps start
  pub text : Planned GivesFlushed start last left_old left_new held_old held_new result
  pub gives : GivesChapters start turned last
  pub recording : OnOk recorded (HasRecorded tape_old left tape_new [] (turned_bodies turned ++ all_kept last))

-- what is read, written and recorded when lines are answered and the chapters of their ports are recorded in time
abbrev pub PlannedFlushed : {T E : Type 0} → List (PortCfg × ℕ) → List Step → Option (List ℕ) → Option (List ℕ) → Option (List ℕ) → Option (List ℕ) → Result T DeviceFault → Option (List ℕ) → List ℕ → Option (List ℕ) → Result E DeviceFault → Type 0
PlannedFlushed ports steps left_old left_new held_old held_new result tape_old left tape_new recorded =
    NothingBegun left_old left_new held_old held_new result recorded
    ⊎ PlannedInTime ports steps left_old left_new held_old held_new result tape_old left tape_new recorded
