-- The outcome of a run of the program, and its exit status.
use Rattle.std.specs.Prelude.{ℕ, Bool, true, false, if◌then◌else◌, Result, Ok, Err}
use Rattle.clap.specs.declared.error.kind.ErrorKind.{ErrorKind}
use Rattle.clap.specs.declared.error.kind.ErrorKind.TheVariants.{DisplayHelp, DisplayVersion, OutOfMemory}
use Rattle.pon_device.specs.declared.fault.DeviceFault.{DeviceFault}
use Rattle.pon_device.specs.declared.fault.DeviceFault.TheVariants.{Memory}
use Rattle.pon_job.specs.declared.outcome.Outcome.{Outcome}
use Rattle.pon_job.specs.declared.outcome.TheConstants.{CLOSED_PIPE_STATUS}
use Rattle.pon_job.specs.declared.task.Job.{Job}
use Rattle.pon_job.specs.declared.task.Job.TheVariants.{Plan, Check, Audit, Show, Migrate, Run, Units, Stop, Operate}
use Rattle.pon_job.specs.declared.outcome.Outcome.TheVariants.{Done, Refused, CommandLine, Settings, Failed, Unfinished, PipeClosed}

-- The exit status is 0 if the job is done, 1 if a check or an audit refused, 2 if the command line or the settings are
-- refused, 3 if a device failed, memory was refused or a port was not served to its last map, and 141 if the reader of a
-- view's text went away.
abbrev pub exit_status : Outcome → ℕ
exit_status Done = 0
exit_status Refused = 1
exit_status CommandLine = 2
exit_status Settings = 2
exit_status (Failed fault) = 3
exit_status Unfinished = 3
exit_status PipeClosed = CLOSED_PIPE_STATUS

-- a job without a verdict is done, or failed
abbrev pub outcome_of_run : {T : Type 0} → Result T DeviceFault → Outcome
outcome_of_run (Ok end) = Done
outcome_of_run (Err fault) = Failed fault

-- a check accepts or refuses, or failed
abbrev pub outcome_of_check : Result Bool DeviceFault → Outcome
outcome_of_check (Ok true) = Done
outcome_of_check (Ok false) = Refused
outcome_of_check (Err fault) = Failed fault

-- a run at ports serves each of them to its last map, or does not, or failed
abbrev pub outcome_of_ports : Result Bool DeviceFault → Outcome
outcome_of_ports (Ok true) = Done
outcome_of_ports (Ok false) = Unfinished
outcome_of_ports (Err fault) = Failed fault

-- management lines are done, or failed; strict ones are refused if one was
abbrev pub outcome_of_lines : Bool → Result Bool DeviceFault → Outcome
outcome_of_lines strict ended = if strict then outcome_of_check ended else outcome_of_run ended

-- lines have a verdict if they are strict, and those that are sent to a run always; a check file, a recording, a recording to show or to migrate and the stop of a run are accepted or refused; ports are served
abbrev pub outcome_of_job : Job → Result Bool DeviceFault → Outcome
outcome_of_job (Plan plan) ended = outcome_of_lines plan.strict ended
outcome_of_job (Check file) ended = outcome_of_check ended
outcome_of_job (Audit audit) ended = outcome_of_check ended
outcome_of_job (Show shown) ended = outcome_of_check ended
outcome_of_job (Migrate migration) ended = outcome_of_check ended
outcome_of_job (Run run) ended = outcome_of_ports ended
outcome_of_job (Units units) ended = outcome_of_ports ended
outcome_of_job (Stop at) ended = outcome_of_check ended
outcome_of_job (Operate at) ended = outcome_of_check ended

-- help and the version are shown; any other error refuses the words, unless memory was refused
abbrev pub outcome_of_words : ErrorKind → Outcome
outcome_of_words DisplayHelp = Done
outcome_of_words DisplayVersion = Done
outcome_of_words OutOfMemory = Failed Memory
outcome_of_words _ = CommandLine
