-- The lines at the end of a run.
use Rattle.std.proofs.Common.{◌≡◌, ℕ, List, [], ◌∷◌, ap, map, length, refl, sym, subst, ◌∙◌, ◌<◌, Option}
use Rattle.std.specs.Prelude.{Bool, true, Result, Ok, Err, IfOk, IfSome, Some, None, is_some}
use Rattle.std.specs.declared.alloc.AllocError.{AllocError}
use Rattle.std.proofs.KnownBytes.{Appends-trans}
use Rattle.pon_device.specs.Device.{Appends}
use Rattle.pon_history.specs.Chapters.{Chapter}
use Rattle.pon_desk.specs.Counts.{DeskSize, IsEven, SeatState}
use Rattle.pon_desk.specs.Faults.{IsNotEven}
use Rattle.pon_worker.specs.declared.counts.WorkerEnd.{WorkerEnd}
use Rattle.pon_run.specs.Ends.{end_of, ends_of, lines_from, with_dropped, without_dropped}
use Rattle.pon_run.specs.Runs.{EndedAs, EndsDone, TellsPorts, TellsWorked, WritesLines}
use Rattle.pon_run.specs.Settlements.{settlement_lines}
use Rattle.pon_run.specs.declared.end.PortEnd.{PortEnd}
use Rattle.pon_run.specs.declared.settling.Settlement.{Settlement}

-- the lines of the ports, and then those of their settlements
pub both_written : (kept : List Chapter) (workers : List WorkerEnd) (ends : List PortEnd) (settlements : List Settlement) (old mid new : Option (List ℕ)) → map without_dropped ends ≡ ends_of kept workers
    → Appends old mid (lines_from 0 ends) → Appends mid new (settlement_lines settlements) → WritesLines kept workers settlements old new
both_written kept workers ends settlements old mid new are first second = record {
  ends = ends;
  are = are;
  lines = Appends-trans old mid new (lines_from 0 ends) (settlement_lines settlements) first second;
}

-- the ends, before dropped chapters are counted, have none
pub none_dropped : (kept : List Chapter) (workers : List WorkerEnd) → map without_dropped (ends_of kept workers) ≡ ends_of kept workers
none_dropped [] workers = refl
none_dropped (k ∷ ks) [] = refl
none_dropped (k ∷ ks) (w ∷ ws) = ap (λ (ends : List PortEnd). end_of k w ∷ ends) (none_dropped ks ws)

-- ends with other numbers of dropped chapters
pub same_but_dropped : (ends : List PortEnd) (counts : List ℕ) → map without_dropped (with_dropped ends counts) ≡ map without_dropped ends
same_but_dropped [] counts = refl
same_but_dropped (e ∷ es) [] = ap (λ (more : List PortEnd). without_dropped e ∷ more) (same_but_dropped es [])
same_but_dropped (e ∷ es) (n ∷ ns) = ap (λ (more : List PortEnd). without_dropped e ∷ more) (same_but_dropped es ns)

-- what is said of the ports is said of the workers' results
pub tells_worked : {E : Type 0} (r : Result Bool E) (results : List (Result WorkerEnd AllocError)) (kept : List Chapter) (workers : List WorkerEnd) (ports : ℕ) (settle : Bool) (old new : Option (List ℕ)) → length kept ≡ ports → EndedAs results workers
    → IfOk r (λ done. done ≡ true → TellsPorts kept workers settle old new) → IfOk r (λ done. done ≡ true → TellsWorked results ports settle old new)
tells_worked (Ok done) results kept workers ports settle old new count ended told = λ e. record { kept = kept; workers = workers; count = count; ended = ended; tells = told e }
tells_worked (Err fault) results kept workers ports settle old new count ended told = tt

-- the run is done, as the workers' results say
pub ends_done : {E : Type 0} (r : Result Bool E) (results : List (Result WorkerEnd AllocError)) (ports : ℕ) (settle : Bool) (IsAlone : Type 0) (old before new : Option (List ℕ)) → (IsAlone → before ≡ old)
    → IfOk r (λ done. done ≡ true → TellsWorked results ports settle before new) → IfOk r (λ done. done ≡ true → EndsDone ports settle IsAlone old new)
ends_done (Ok done) results ports settle IsAlone old before new alone told = λ e.
    let worked = told e in
    record { before = before; alone = alone; done = record { kept = worked.kept; workers = worked.workers; count = worked.count; tells = worked.tells } }
ends_done (Err fault) results ports settle IsAlone old before new alone told = tt

-- a port differs from the counts of the seats
pub not_even : (size : DeskSize) (seats : List SeatState) (ports : List Chapter) (counts : List ℕ) → IsNotEven size seats ports counts → IsEven ports seats → ⊥
not_even size seats ports counts n even =
    let p = n.uneven.somewhere.0 in
    let d = n.uneven.somewhere.1 in
    d.differs (even p d.is_port ∙ sym (n.sums.sums p (subst (λ (m : ℕ). p < m) n.all_ports d.is_port)))

-- what is whole in the end was so before
pub whole_before : {R : Type 0} (Whole : R → Type 0) (old new : Option R) → is_some new ≡ is_some old → IfSome new (λ n. IfSome old (λ o. Whole n → Whole o)) → IfSome new Whole → IfSome old Whole
whole_before Whole None new same stays whole = tt
whole_before Whole (Some o) None same stays whole = absurd cc
whole_before Whole (Some o) (Some n) same stays whole = stays whole
