-- The result of a run: the text that it writes, and its exit status.
use Rattle.std.specs.Prelude.{ℕ, ◌≡◌, ◌++◌, All, Bool, if◌then◌else◌, List, length, map, Option, Result, Ok, true}
use Rattle.std.specs.declared.alloc.AllocError.{AllocError}
use Rattle.pon_device.specs.Device.{Appends}
use Rattle.pon_history.specs.Chapters.{Chapter}
use Rattle.pon_worker.specs.declared.counts.StopReason.TheVariants.{Finished}
use Rattle.pon_worker.specs.declared.counts.WorkerEnd.{WorkerEnd}
use Rattle.pon_run.specs.declared.end.PortEnd.{PortEnd}
use Rattle.pon_run.specs.Ends.{ends_of, lines_from, without_dropped}
use Rattle.pon_run.specs.Settlements.{settled_from, settlement_lines}
use Rattle.pon_run.specs.declared.settling.Settlement.{Settlement}

-- the worker did not end early: it had no more maps to make, or the run was stopped
abbrev pub IsFinished : WorkerEnd → Type 0
IsFinished worker = worker.why ≡ Finished

-- the results of the workers' threads: memory was refused to none, and they ended so, in order
abbrev pub EndedAs : List (Result WorkerEnd AllocError) → List WorkerEnd → Type 0
EndedAs results workers = results ≡ map Ok workers

-- exactly a line for each port was written, with what the port that keeps this chapter and its worker did, and then the
-- lines of these settlements
pub record WritesLines (kept : List Chapter) (workers : List WorkerEnd) (settlements : List Settlement) (old new : Option (List ℕ)) : Type 0 where
  pub ends : List PortEnd
  pub are : map without_dropped ends ≡ ends_of kept workers
  pub lines : Appends old new (lines_from 0 ends ++ settlement_lines settlements)

-- all ports are settled, in order, if they are to be settled
pub record AllSettled (ports : ℕ) (settle : Bool) (settlements : List Settlement) : Type 0 where
  pub settled_each : length settlements ≡ (if settle then ports else 0)
  pub settled : settled_from 0 settlements ≡ true

-- the run of these ports is done: no worker ended early, and exactly the lines about the ports were written, in
-- their order, with a line for each that it is settled, if the ports are to be settled
pub record TellsPorts (kept : List Chapter) (workers : List WorkerEnd) (settle : Bool) (old new : Option (List ℕ)) : Type 0 where
  pub one_each : length workers ≡ length kept
  pub finished : All IsFinished workers
  pub settlements : List Settlement
  pub settled : AllSettled (length kept) settle settlements
  pub lines : WritesLines kept workers settlements old new

-- the same of the results of the workers' threads, at a desk with this number of ports
pub record TellsWorked (results : List (Result WorkerEnd AllocError)) (ports : ℕ) (settle : Bool) (old new : Option (List ℕ)) : Type 0 where
  pub kept : List Chapter
  pub workers : List WorkerEnd
  pub count : length kept ≡ ports
  pub ended : EndedAs results workers
  pub tells : TellsPorts kept workers settle old new

-- the run of this number of ports is done, as it is said of the workers that ended and of the chapters that the ports keep
pub record IsDone (ports : ℕ) (settle : Bool) (old new : Option (List ℕ)) : Type 0 where
  pub kept : List Chapter
  pub workers : List WorkerEnd
  pub count : length kept ≡ ports
  pub tells : TellsPorts kept workers settle old new

-- the run is done, and its lines are the last that was written; if it is alone, without an operator, they are all
pub record EndsDone (ports : ℕ) (settle : Bool) (IsAlone : Type 0) (old new : Option (List ℕ)) : Type 0 where
  pub before : Option (List ℕ)
  pub alone : IsAlone → before ≡ old
  pub done : IsDone ports settle before new
