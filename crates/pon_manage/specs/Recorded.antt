-- Lines at the ports of a plant whose full chapters are recorded.
use Rattle.std.specs.Prelude.{ℕ, ◌≡◌, ◌⊎◌, List, [], ◌++◌, length, map, Option, Result, Err, OnOk}
use Rattle.pon_device.specs.declared.fault.DeviceFault.{DeviceFault}
use Rattle.pon_device.specs.declared.fault.DeviceFault.TheVariants.{Memory}
use Rattle.pon_admit.specs.declared.event.Event.{Event}
use Rattle.pon_admit.specs.declared.port_cfg.PortCfg.{PortCfg}
use Rattle.pon_admit.specs.declared.step.Step.{Step}
use Rattle.pon_history.specs.Chapters.{Chapter}
use Rattle.pon_line.specs.Reading.{read_line}
use Rattle.pon_line.specs.declared.reading.Reading.{Reading}
use Rattle.pon_line.specs.declared.reading.Reading.TheVariants.{Asks}
use Rattle.pon_plant.specs.Turning.{GivesChapters, IsFullAt, TurnsPort}
use Rattle.pon_record.specs.Chapters.{Body}
use Rattle.pon_record.specs.Bodies.{chapter_body}
use Rattle.pon_recorder.specs.Recordings.{HasRecorded}
use Rattle.pon_recorder.specs.Whole.{RecordsAll, all_kept}
use Rattle.pon_text.specs.Planning.{Planned}
use Rattle.pon_manage.specs.Planning.{IsStart, NotBegun}
use Rattle.pon_manage.specs.Text.{Answers}
use Rattle.pon_manage.specs.declared.recorded.RecordedPlant.{RecordedPlant}

-- a port that is full for an event is turned before it; otherwise no port changes
abbrev pub MakesRoom : List Chapter → ℕ → Event → List Chapter → Type 0
MakesRoom old port event mid =
    (IsFullAt old port event × ((chapter : Chapter) × TurnsPort old port chapter mid))
    ⊎ ((IsFullAt old port event → ⊥) × (mid ≡ old))

-- before the event of a reading its port has room; a reading without an event needs none
abbrev pub MakesRoomFor : List Chapter → Reading → List Chapter → Type 0
MakesRoomFor old (Asks port event) mid = MakesRoom old port event mid
MakesRoomFor old _ mid = mid ≡ old

-- the text of a reading at ports that have room for its event, and the chapters of the ports after it
abbrev pub AnswersInRoom : List Chapter → Reading → List ℕ → List Chapter → Type 0
AnswersInRoom old reading text new = (mid : List Chapter) × MakesRoomFor old reading mid × Answers mid reading text new

-- the text of a line at ports that are turned when they are full, and the chapters of the ports after it
abbrev pub GivesInRoom : List Chapter → List ℕ → List ℕ → List Chapter → Type 0
GivesInRoom old line text new = AnswersInRoom old (read_line (length old) line) text new

-- the same of ports with a recorder
abbrev pub GivesRecorded : {D : Type 0} → RecordedPlant D → List ℕ → List ℕ → RecordedPlant D → Type 0
GivesRecorded old line text new = GivesInRoom old.plant line text new.plant

-- chapters as a recording has them, each as that of the port of this number
abbrev pub turned_bodies : List (ℕ × Chapter) → List Body
turned_bodies turned = map (λ t. chapter_body t.0 t.1) turned

-- the recorder takes each chapter that the ports give, in order
pub record RecordsTurned {D : Type 0} (contents : D → Option (List ℕ)) (old new : RecordedPlant D) : Type 0 where
  pub turned : List (ℕ × Chapter)
  pub gives : GivesChapters old.plant turned new.plant
  pub takes : RecordsAll old.recorder new.recorder (contents old.recorder.file.device) (contents new.recorder.file.device) (turned_bodies turned)

-- lines were answered at the ports as the steps of their settings leave them, which are turned when they are full. If the
-- recording ended well, the device got each chapter that the ports gave, in order, and then the chapter that each port
-- keeps, and nothing is left to write.
pub record PlannedInRoom {T E : Type 0} (ports : List (PortCfg × ℕ)) (steps : List Step) (left_old left_new held_old held_new : Option (List ℕ)) (result : Result T DeviceFault)
    (tape_old : Option (List ℕ)) (left : List ℕ) (tape_new : Option (List ℕ)) (recorded : Result E DeviceFault) : Type 0 where
  pub start : List Chapter
  pub last : List Chapter
  pub turned : List (ℕ × Chapter)
  pub begins : IsStart ports steps start
  pub text : Planned GivesInRoom start last left_old left_new held_old held_new result
  pub gives : GivesChapters start turned last
  pub recording : OnOk recorded (HasRecorded tape_old left tape_new [] (turned_bodies turned ++ all_kept last))

-- memory was refused before the first read: nothing is read, written or recorded
pub record NothingBegun {T E : Type 0} (left_old left_new held_old held_new : Option (List ℕ)) (result : Result T DeviceFault) (recorded : Result E DeviceFault) : Type 0 where
  pub lines : NotBegun left_old left_new held_old held_new result
  pub recording : recorded ≡ Err Memory

-- what is read, written and recorded when lines are answered and the chapters of their ports are recorded
abbrev pub PlannedRecorded : {T E : Type 0} → List (PortCfg × ℕ) → List Step → Option (List ℕ) → Option (List ℕ) → Option (List ℕ) → Option (List ℕ) → Result T DeviceFault → Option (List ℕ) → List ℕ → Option (List ℕ) → Result E DeviceFault → Type 0
PlannedRecorded ports steps left_old left_new held_old held_new result tape_old left tape_new recorded =
    NothingBegun left_old left_new held_old held_new result recorded
    ⊎ PlannedInRoom ports steps left_old left_new held_old held_new result tape_old left tape_new recorded
