-- Lines at ports whose chapters are recorded in time.
use Rattle.std.proofs.Common.{◌≡◌, ℕ, List, [], ◌⊎◌, inl, inr, ap, length, refl, subst, sym}
use Rattle.std.specs.Prelude.{Option, Result, OnOk}
use Rattle.pon_device.specs.declared.fault.DeviceFault.{DeviceFault}
use Rattle.pon_admit.specs.declared.event.Event.{Event}
use Rattle.pon_admit.specs.declared.event.Event.TheVariants.{Admit, Change, Remove, Report, MakeMap, Fail, Restore}
use Rattle.pon_admit.specs.declared.port_cfg.PortCfg.{PortCfg}
use Rattle.pon_admit.specs.declared.step.Step.{Step}
use Rattle.pon_history.specs.Chapters.{Chapter}
use Rattle.pon_line.specs.declared.reading.Reading.{Reading}
use Rattle.pon_line.specs.declared.reading.Reading.TheVariants.{Nothing, Refused, Asks, AsksCert, AsksState, AsksRows, AsksHelp, AsksStop, AsksWhy, AsksSure}
use Rattle.pon_plant.specs.Turning.{TurnsPort}
use Rattle.pon_plant.proofs.Turning.{turned_length}
use Rattle.pon_recorder.specs.Recordings.{HasRecorded}
use Rattle.pon_recorder.specs.Whole.{IsSound, all_kept}
use Rattle.pon_text.specs.Planning.{Planned}
use Rattle.pon_manage.specs.Flushed.{CutsBefore, GivesAndCuts, GivesFlushed, PlannedInTime, RecordsInTime}
use Rattle.pon_manage.specs.Planning.{IsStart}
use Rattle.pon_manage.specs.declared.flushed.FlushedPlant.{FlushedPlant}
use Rattle.pon_manage.proofs.RecordedPlans.{planned_part, recorded_all}

-- no port is turned before a reading
no_cut_before : (a : List Chapter) (port : ℕ) (event : Event) → CutsBefore a (Asks port event) a
no_cut_before a port (Admit row) = refl
no_cut_before a port (Change alloc d) = refl
no_cut_before a port (Remove alloc) = refl
no_cut_before a port (Report frame onu occ) = refl
no_cut_before a port MakeMap = inl refl
no_cut_before a port (Fail cause) = refl
no_cut_before a port Restore = refl

pub no_cut : (a : List Chapter) (reading : Reading) → CutsBefore a reading a
no_cut a Nothing = refl
no_cut a (Refused refusal) = refl
no_cut a (Asks port event) = no_cut_before a port event
no_cut a (AsksCert port) = refl
no_cut a (AsksState port) = refl
no_cut a (AsksRows port) = refl
no_cut a (AsksHelp port) = refl
no_cut a (AsksStop port) = refl
no_cut a (AsksWhy port alloc) = refl
no_cut a (AsksSure port alloc) = refl

-- a port may be turned before its map
pub cuts_map : (a b : List Chapter) (reading : Reading) (port : ℕ) → reading ≡ Asks port MakeMap → (b ≡ a) ⊎ ((chapter : Chapter) × TurnsPort a port chapter b) → CutsBefore a reading b
cuts_map a b reading port is cuts = subst (λ (r : Reading). CutsBefore a r b) (sym is) cuts

-- a turn changes no number of ports
turn_length : (a b : List Chapter) (port : ℕ) → (b ≡ a) ⊎ ((chapter : Chapter) × TurnsPort a port chapter b) → length b ≡ length a
turn_length a b port (inl same) = ap length same
turn_length a b port (inr turns) = turned_length a b port turns.0 turns.1

event_length : (a b : List Chapter) (port : ℕ) (event : Event) → CutsBefore a (Asks port event) b → length b ≡ length a
event_length a b port (Admit row) cuts = ap length cuts
event_length a b port (Change alloc d) cuts = ap length cuts
event_length a b port (Remove alloc) cuts = ap length cuts
event_length a b port (Report frame onu occ) cuts = ap length cuts
event_length a b port MakeMap cuts = turn_length a b port cuts
event_length a b port (Fail cause) cuts = ap length cuts
event_length a b port Restore cuts = ap length cuts

pub cut_length : (a b : List Chapter) (reading : Reading) → CutsBefore a reading b → length b ≡ length a
cut_length a b Nothing cuts = ap length cuts
cut_length a b (Refused refusal) cuts = ap length cuts
cut_length a b (Asks port event) cuts = event_length a b port event cuts
cut_length a b (AsksCert port) cuts = ap length cuts
cut_length a b (AsksState port) cuts = ap length cuts
cut_length a b (AsksRows port) cuts = ap length cuts
cut_length a b (AsksHelp port) cuts = ap length cuts
cut_length a b (AsksStop port) cuts = ap length cuts
cut_length a b (AsksWhy port alloc) cuts = ap length cuts
cut_length a b (AsksSure port alloc) cuts = ap length cuts

-- The recording after all lines, and then the kept chapters.
module _ {D E : Type 0} (contents : D → Option (List ℕ)) (first last : FlushedPlant D) (path : RecordsInTime contents first last) (tape : Option (List ℕ)) where
  pub planned_flushed : {R : Type 0} (ports : List (PortCfg × ℕ)) (steps : List Step) (left_old left_new held_old held_new : Option (List ℕ)) (r : Result R DeviceFault) (ended : Result E DeviceFault)
      → IsStart ports steps first.recorded.plant → Planned GivesAndCuts first last left_old left_new held_old held_new r → OnOk ended (IsSound last.recorded.recorder)
      → OnOk ended (HasRecorded (contents last.recorded.recorder.file.device) last.recorded.recorder.file.left tape [] (all_kept last.recorded.plant))
      → PlannedInTime ports steps left_old left_new held_old held_new r (contents first.recorded.recorder.file.device) first.recorded.recorder.file.left tape ended
  planned_flushed ports steps left_old left_new held_old held_new r ended begins p sound kept = record {
    start = first.recorded.plant;
    last = last.recorded.plant;
    turned = path.turned;
    begins = begins;
    text = planned_part (λ (s : FlushedPlant D). s.recorded.plant) GivesFlushed first last left_old left_new held_old held_new r p;
    gives = path.gives;
    recording = recorded_all contents first.recorded last.recorded path tape ended sound kept;
  }
