-- The answers of simulated units to the series of a map (upstream bursts and their reports, ITU-T G.987.3).
use Rattle.std.specs.Prelude.{◌≡◌, ◌≢◌, ℕ, ◌⊎◌, true, false, List, [], ◌∷◌, ◌++◌, All, map, Some, slice_get, slice_set}
use Rattle.pon_bwmap.specs.Alloc.{Alloc}
use Rattle.pon_bwmap.specs.MapRules.{continues}
use Rattle.pon_link.specs.Units.{UnitState, owns, answered, reported_occupancies, served}
use Rattle.pon_link.specs.declared.record.DownRecord.{DownRecord}
use Rattle.pon_link.specs.declared.record.UpRecord.{UpRecord}
use Rattle.pon_link.specs.Series.{AreSeries}
use Rattle.pon_link.specs.declared.foreign.TheConstants.{NO_ONU}

-- the answer to a series that no unit reports to: the ONU-ID of no unit, and an occupancy of 0 for each structure
abbrev pub foreign_answer : ℕ → List Alloc → UpRecord
foreign_answer frame series = record { frame = frame; head = Some (record { onu_raw = NO_ONU; ind = 0 }); occ = map (λ _. Some 0) series }

-- the reports of a unit for this series only
abbrev pub unit_reports : ℕ → UnitState → List Alloc → UpRecord
unit_reports frame unit series = record { frame = frame; head = Some (record { onu_raw = unit.onu; ind = 0 }); occ = reported_occupancies unit.queues (answered unit.queues series) }

-- the unit after its answer to a series
abbrev pub after_series : UnitState → List Alloc → UnitState
after_series unit series = record { onu = unit.onu; queues = served unit.queues (answered unit.queues series) }

-- the Alloc-ID of the first structure of a series
abbrev pub first_id : List Alloc → ℕ
first_id [] = 0
first_id (a ∷ others) = a.id

-- the series belongs to this unit, which answers it; as foreign if no structure requests a report of the unit
pub record UnitAnswers (frame : ℕ) (unit : UnitState) (series : List Alloc) (answer : UpRecord) : Type 0 where
  pub owner : owns unit.queues (first_id series) ≡ true
  pub reported : answered unit.queues series ≢ [] → answer ≡ unit_reports frame unit series
  pub silent : answered unit.queues series ≡ [] → answer ≡ foreign_answer frame series

-- one of the units answers the series, and no other unit changes
pub record OwnerAnswers (frame : ℕ) (series : List Alloc) (old new : List UnitState) (answer : UpRecord) : Type 0 where
  pub place : ℕ
  pub unit : UnitState
  pub there : slice_get old place ≡ Some unit
  pub answers : UnitAnswers frame unit series answer
  pub after : new ≡ slice_set old place (after_series unit series)

-- no unit owns the series, and it is answered as foreign
pub record NobodyAnswers (frame : ℕ) (series : List Alloc) (old new : List UnitState) (answer : UpRecord) : Type 0 where
  pub foreign : All (λ unit. owns unit.queues (first_id series) ≡ false) old
  pub answer_is : answer ≡ foreign_answer frame series
  pub after : new ≡ old

-- the answer to a series of a frame, and the units before and after it
abbrev pub AnswersSeries : ℕ → List Alloc → List UnitState → List UnitState → UpRecord → Type 0
AnswersSeries frame series old new answer = OwnerAnswers frame series old new answer ⊎ NobodyAnswers frame series old new answer

-- the series of a frame are answered one after another, each with one record
abbrev pub AnswersInTurn : ℕ → List (List Alloc) → List UnitState → List UnitState → List UpRecord → Type 0
AnswersInTurn frame [] old new [] = new ≡ old
AnswersInTurn frame [] old new (answer ∷ answers) = ⊥
AnswersInTurn frame (series ∷ others) old new [] = ⊥
AnswersInTurn frame (series ∷ others) old new (answer ∷ answers) = (mid : List UnitState) × AnswersSeries frame series old mid answer × AnswersInTurn frame others mid new answers

-- the structures of a frame, except the rest, are whole series, which are answered one after another
pub record AnswersRows (frame : ℕ) (rows rest : List Alloc) (old new : List UnitState) (answers : List UpRecord) : Type 0 where
  pub all_series : List (List Alloc)
  pub are_series : AreSeries rows all_series rest
  pub whole : continues (slice_get rest 0) ≡ false
  pub in_turn : AnswersInTurn frame all_series old new answers

-- the maps are answered one after another, each of them whole
abbrev pub AnswersMaps : List DownRecord → List UnitState → List UnitState → List UpRecord → Type 0
AnswersMaps [] old new answers = (new ≡ old) × (answers ≡ [])
AnswersMaps (r ∷ maps) old new answers = (mid : List UnitState) × (first later : List UpRecord) × (answers ≡ first ++ later) × AnswersRows r.frame r.map [] old mid first × AnswersMaps maps mid new later
