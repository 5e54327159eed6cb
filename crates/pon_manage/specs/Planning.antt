-- What is read and written when lines are answered at the ports of a plant.
use Rattle.std.specs.Prelude.{ℕ, ◌≡◌, ◌⊎◌, List, Option, Result, Err}
use Rattle.pon_device.specs.Device.{Keeps}
use Rattle.pon_admit.specs.declared.step.Step.{Step}
use Rattle.pon_state.specs.declared.reply.Reply.{Reply}
use Rattle.pon_admit.specs.declared.port_cfg.PortCfg.{PortCfg}
use Rattle.pon_history.specs.Chapters.{Chapter}
use Rattle.pon_plant.specs.Answers.{NoneIsOutOfMemory}
use Rattle.pon_plant.specs.Plants.{opened_ports}
use Rattle.pon_plant.specs.Runs.{Ran}
use Rattle.pon_plant.specs.declared.fault.StepFault.{StepFault}
use Rattle.pon_device.specs.declared.fault.DeviceFault.{DeviceFault}
use Rattle.pon_device.specs.declared.fault.DeviceFault.TheVariants.{Memory}
use Rattle.pon_text.specs.Planning.{BeginsText, Planned}
use Rattle.pon_manage.specs.Text.{Gives}

-- the ports before the first line: just opened, and with the steps of their settings taken, each accepted or refused by
-- a check
abbrev pub IsStart : List (PortCfg × ℕ) → List Step → List Chapter → Type 0
IsStart ports steps start = (answers : List (Result Reply StepFault)) × Ran (opened_ports ports) steps answers start × NoneIsOutOfMemory answers

-- a prefix of the output text: the text of the first lines, and a prefix of the text of the next one
abbrev pub BeginsOutput : List Chapter → List ℕ → List ℕ → Type 0
BeginsOutput ports input written = BeginsText Gives ports input written

-- memory was refused before the first read: nothing is read or written
pub record NotBegun {T : Type 0} (left_old left_new held_old held_new : Option (List ℕ)) (result : Result T DeviceFault) : Type 0 where
  pub memory : result ≡ Err Memory
  pub read : Keeps left_old left_new
  pub wrote : Keeps held_old held_new

-- lines were answered at the ports as the steps of their settings leave them
abbrev pub PlannedAfter : {T : Type 0} → List (PortCfg × ℕ) → List Step → Option (List ℕ) → Option (List ℕ) → Option (List ℕ) → Option (List ℕ) → Result T DeviceFault → Type 0
PlannedAfter ports steps left_old left_new held_old held_new result =
    NotBegun left_old left_new held_old held_new result
    ⊎ ((start last : List Chapter) × IsStart ports steps start × Planned Gives start last left_old left_new held_old held_new result)
