-- Lines at ports with a recorder.
use Rattle.std.proofs.Common.{◌≡◌, ℕ, List, [], ◌∷◌, ◌++◌, ap, inl, inr, length, refl}
use Rattle.std.specs.Prelude.{Bool, true, Option, Result, Ok, Err, OnOk}
use Rattle.pon_device.specs.declared.fault.DeviceFault.{DeviceFault}
use Rattle.pon_device.specs.declared.fault.DeviceFault.TheVariants.{Read, Write, Memory}
use Rattle.pon_admit.specs.declared.event.Event.{Event}
use Rattle.pon_admit.specs.declared.port_cfg.PortCfg.{PortCfg}
use Rattle.pon_admit.specs.declared.step.Step.{Step}
use Rattle.pon_history.specs.Chapters.{Chapter}
use Rattle.pon_line.specs.declared.reading.Reading.{Reading}
use Rattle.pon_line.specs.declared.reading.Reading.TheVariants.{Nothing, Refused, Asks, AsksCert, AsksState, AsksRows, AsksHelp, AsksStop, AsksWhy, AsksSure}
use Rattle.pon_plant.specs.Turning.{KeepsChapters, TurnsPort}
use Rattle.pon_plant.proofs.Turning.{gives_turned, turned_length}
use Rattle.pon_record.specs.Bodies.{chapter_body}
use Rattle.pon_recorder.specs.Recordings.{HasRecorded}
use Rattle.pon_recorder.specs.Whole.{IsSound, all_kept}
use Rattle.pon_recorder.specs.declared.recorder.Recorder.{Recorder}
use Rattle.pon_recorder.proofs.Recordings.{both_recorded}
use Rattle.pon_recorder.proofs.Whole.{records_append, records_none}
use Rattle.pon_text.specs.Giving.{Giving, GivesLines}
use Rattle.pon_text.specs.Planning.{BeginsNext, IsText, Planned}
use Rattle.pon_manage.specs.Planning.{IsStart}
use Rattle.pon_manage.specs.Paths.{records_path}
use Rattle.pon_manage.specs.Recorded.{GivesInRoom, GivesRecorded, MakesRoom, MakesRoomFor, PlannedInRoom, RecordsTurned, turned_bodies}
use Rattle.pon_manage.specs.declared.recorded.RecordedPlant.{RecordedPlant}

-- The text at a part of a state that alone counts.
module _ {S T : Type 0} (part : S → T) (gives : Giving T) where
  abbrev in_part : Giving S
  in_part old line text new = gives (part old) line text (part new)

  lines : (old : S) (ls : List (List ℕ)) (text : List ℕ) (new : S) → GivesLines in_part old ls text new → GivesLines gives (part old) ls text (part new)
  lines old [] text new p = (p.0, ap part p.1)
  lines old (l ∷ ls) text new p = (p.0, p.1, part p.2, p.3, lines p.2 ls p.1 new p.4, p.5)

  next : (old : S) (ls : List (List ℕ)) (begun : List ℕ) → BeginsNext in_part old ls begun → BeginsNext gives (part old) ls begun
  next old [] begun e = e
  next old (l ∷ ls) begun (inl e) = inl e
  next old (l ∷ ls) begun (inr b) = inr (b.0, part b.1, b.2, b.3)

  text_of : {R : Type 0} (start last : S) (input written : List ℕ) (r : Result R DeviceFault) → IsText in_part start last input written r → IsText gives (part start) (part last) input written r
  text_of start last input written (Ok end) p = lines start _ written last p
  text_of start last input written (Err Read) p = lines start _ written last p
  text_of start last input written (Err Write) b = record {
    answered = b.answered;
    more = b.more;
    text = b.text;
    part = b.part;
    after = part b.after;
    lines = b.lines;
    gave = lines start b.answered b.text b.after b.gave;
    begins = next b.after b.more b.part b.begins;
    is = b.is;
  }
  text_of start last input written (Err Memory) e = record {
    answered = e.answered;
    more = e.more;
    after = part e.after;
    lines = e.lines;
    gave = lines start e.answered written e.after e.gave;
  }

  pub planned_part : {R : Type 0} (start last : S) (left_old left_new held_old held_new : Option (List ℕ)) (r : Result R DeviceFault)
      → Planned in_part start last left_old left_new held_old held_new r → Planned gives (part start) (part last) left_old left_new held_old held_new r
  planned_part start last left_old left_new held_old held_new r p = record {
    input = p.input;
    written = p.written;
    read = p.read;
    wrote = p.wrote;
    text = text_of start last p.input p.written r p.text;
  }

-- What one line leaves.
module _ {D : Type 0} (contents : D → Option (List ℕ)) where
  -- the ports keep their chapters, and nothing is recorded
  pub records_kept : (old : RecordedPlant D) (plant : List Chapter) → KeepsChapters old.plant plant → RecordsTurned contents old (record { plant = plant; recorder = old.recorder })
  records_kept old plant keeps = record { turned = []; gives = keeps; takes = records_none old.recorder (contents old.recorder.file.device) }

  -- a port is turned, and its chapter recorded
  pub records_turned : (old : RecordedPlant D) (plant : List Chapter) (recorder : Recorder D) (port : ℕ) (chapter : Chapter) (taken : Bool) → TurnsPort old.plant port chapter plant
      → (IsSound recorder → IsSound old.recorder × (taken ≡ true))
      → (taken ≡ true → HasRecorded (contents old.recorder.file.device) old.recorder.file.left (contents recorder.file.device) recorder.file.left (chapter_body port chapter ∷ []))
      → RecordsTurned contents old (record { plant = plant; recorder = recorder })
  records_turned old plant recorder port chapter taken turns sound recorded = record {
    turned = (port, chapter) ∷ [];
    gives = gives_turned old.plant plant port chapter turns;
    takes = records_append old.recorder recorder (contents old.recorder.file.device) (contents recorder.file.device) taken (chapter_body port chapter) sound recorded;
  }

  -- the ports keep their chapters after that
  pub records_then : (old mid : RecordedPlant D) (plant : List Chapter) → RecordsTurned contents old mid → KeepsChapters mid.plant plant → RecordsTurned contents old (record { plant = plant; recorder = mid.recorder })
  records_then old mid plant path keeps = (records_path contents).joined old mid (record { plant = plant; recorder = mid.recorder }) path (records_kept mid plant keeps)

-- a reading without an event needs no room
pub no_event : (old : List Chapter) (reading : Reading) → ((port : ℕ) (event : Event) → reading ≡ Asks port event → ⊥) → MakesRoomFor old reading old
no_event old Nothing other = refl
no_event old (Refused refusal) other = refl
no_event old (Asks port event) other = absurd (other port event refl)
no_event old (AsksCert port) other = refl
no_event old (AsksState port) other = refl
no_event old (AsksRows port) other = refl
no_event old (AsksHelp port) other = refl
no_event old (AsksStop port) other = refl
no_event old (AsksWhy port alloc) other = refl
no_event old (AsksSure port alloc) other = refl

-- room changes no number of ports
room_length : (old mid : List Chapter) (port : ℕ) (event : Event) → MakesRoom old port event mid → length mid ≡ length old
room_length old mid port event (inl turned) = turned_length old mid port turned.1.0 turned.1.1
room_length old mid port event (inr same) = ap length same.1

pub room_for_length : (old mid : List Chapter) (reading : Reading) → MakesRoomFor old reading mid → length mid ≡ length old
room_for_length old mid Nothing room = ap length room
room_for_length old mid (Refused refusal) room = ap length room
room_for_length old mid (Asks port event) room = room_length old mid port event room
room_for_length old mid (AsksCert port) room = ap length room
room_for_length old mid (AsksState port) room = ap length room
room_for_length old mid (AsksRows port) room = ap length room
room_for_length old mid (AsksHelp port) room = ap length room
room_for_length old mid (AsksStop port) room = ap length room
room_for_length old mid (AsksWhy port alloc) room = ap length room
room_for_length old mid (AsksSure port alloc) room = ap length room

-- The recording after all lines, and then the kept chapters.
module _ {D E : Type 0} (contents : D → Option (List ℕ)) (first last : RecordedPlant D) (path : RecordsTurned contents first last) (tape : Option (List ℕ)) where
  pub recorded_all : (ended : Result E DeviceFault) → OnOk ended (IsSound last.recorder)
      → OnOk ended (HasRecorded (contents last.recorder.file.device) last.recorder.file.left tape [] (all_kept last.plant))
      → OnOk ended (HasRecorded (contents first.recorder.file.device) first.recorder.file.left tape [] (turned_bodies path.turned ++ all_kept last.plant))
  recorded_all (Err fault) sound kept = tt
  recorded_all (Ok end) sound kept =
      both_recorded (contents first.recorder.file.device) first.recorder.file.left (contents last.recorder.file.device) last.recorder.file.left tape []
      (turned_bodies path.turned) (all_kept last.plant) (path.takes sound).1 kept

  pub sound_before : (ended : Result E DeviceFault) → OnOk ended (IsSound last.recorder) → OnOk ended (IsSound first.recorder)
  sound_before (Err fault) sound = tt
  sound_before (Ok end) sound = (path.takes sound).0

  pub planned_recorded : {R : Type 0} (ports : List (PortCfg × ℕ)) (steps : List Step) (left_old left_new held_old held_new : Option (List ℕ)) (r : Result R DeviceFault) (ended : Result E DeviceFault)
      → IsStart ports steps first.plant → Planned GivesRecorded first last left_old left_new held_old held_new r → OnOk ended (IsSound last.recorder)
      → OnOk ended (HasRecorded (contents last.recorder.file.device) last.recorder.file.left tape [] (all_kept last.plant))
      → PlannedInRoom ports steps left_old left_new held_old held_new r (contents first.recorder.file.device) first.recorder.file.left tape ended
  planned_recorded ports steps left_old left_new held_old held_new r ended begins p sound kept = record {
    start = first.plant;
    last = last.plant;
    turned = path.turned;
    begins = begins;
    text = planned_part (λ (s : RecordedPlant D). s.plant) GivesInRoom first last left_old left_new held_old held_new r p;
    gives = path.gives;
    recording = recorded_all ended sound kept;
  }
