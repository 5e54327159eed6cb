-- Each answer can be written.
use Rattle.std.proofs.Common.{◌≡◌, ◌≢◌, ℕ, zero, suc, ◌<◌, ◌≤◌, List, [], ◌∷◌, length, All, map, IsSome, Option, Some, inl, inr, refl, sym, ap, subst, arith}
use Rattle.std.proofs.lemmas.List.{length-take}
use Rattle.pon_units.specs.declared.limits.TheConstants.{MAX_SERIES}
use Rattle.pon_bwmap.specs.Alloc.{Alloc}
use Rattle.pon_link.specs.Units.{UnitState, answered, queue_after, reported_occupancies}
use Rattle.pon_link.specs.declared.record.UpRecord.{UpRecord}
use Rattle.pon_link.specs.Answers.{AnswersSeries, UnitAnswers, foreign_answer, unit_reports}
use Rattle.pon_link.specs.Outputs.{IsWritable}

-- ---- occupancies

length-reports : (queues : List (ℕ × ℕ)) (rows : List Alloc) → length (reported_occupancies queues rows) ≡ length rows
length-reports queues [] = refl
length-reports queues (a ∷ rows) = ap suc (length-reports (map (queue_after a) queues) rows)

all_reported : (queues : List (ℕ × ℕ)) (rows : List Alloc) → All IsSome (reported_occupancies queues rows)
all_reported queues [] k d lt = absurd (omega (arith, lt))
all_reported queues (a ∷ rows) zero d lt = refl
all_reported queues (a ∷ rows) (suc k) d lt = all_reported (map (queue_after a) queues) rows k d (omega (arith, lt))

abbrev zeros : List Alloc → List (Option ℕ)
zeros rows = map (λ _. Some 0) rows

length-zeros : (rows : List Alloc) → length (zeros rows) ≡ length rows
length-zeros [] = refl
length-zeros (a ∷ rows) = ap suc (length-zeros rows)

all_zeros : (rows : List Alloc) → All IsSome (zeros rows)
all_zeros [] k d lt = absurd (omega (arith, lt))
all_zeros (a ∷ rows) zero d lt = refl
all_zeros (a ∷ rows) (suc k) d lt = all_zeros rows k d (omega (arith, lt))

-- ---- answers

foreign_writable : (frame : ℕ) (series : List Alloc) → 0 < length series → length series ≤ MAX_SERIES → IsWritable (foreign_answer frame series)
foreign_writable frame series some limit =
    let size = length-zeros series in
    record { head = refl; some = omega (arith, size, some); limit = omega (arith, size, limit); reports = all_zeros series }

unit_writable : (frame : ℕ) (unit : UnitState) (series : List Alloc) → 0 < length (answered unit.queues series) → IsWritable (unit_reports frame unit series)
unit_writable frame unit series some =
    let rows = answered unit.queues series in
    let size = length-reports unit.queues rows in
    let few : length rows ≤ MAX_SERIES = omega (arith, length-take {A = Alloc}) in
    record { head = refl; some = omega (arith, size, some); limit = omega (arith, size, few); reports = all_reported unit.queues rows }

answer_writable : (frame : ℕ) (unit : UnitState) (series : List Alloc) (answer : UpRecord) → 0 < length series → length series ≤ MAX_SERIES → UnitAnswers frame unit series answer → IsWritable answer
answer_writable frame unit series answer some limit h = by_rows (answered unit.queues series) refl
  where
    by_rows : (rows : List Alloc) → answered unit.queues series ≡ rows → IsWritable answer
    by_rows [] none = subst IsWritable (sym (h.silent none)) (foreign_writable frame series some limit)
    by_rows (a ∷ rows) is =
        let size : length (answered unit.queues series) ≡ suc (length rows) = ap (λ (t : List Alloc). length t) is in
        let not : answered unit.queues series ≢ [] = λ none. absurd (cc) in
        subst IsWritable (sym (h.reported not)) (unit_writable frame unit series (omega (arith, size)))

pub writable : (frame : ℕ) (series : List Alloc) (old new : List UnitState) (answer : UpRecord) → 0 < length series → length series ≤ MAX_SERIES → AnswersSeries frame series old new answer → IsWritable answer
writable frame series old new answer some limit (inl own) = answer_writable frame own.unit series answer some limit own.answers
writable frame series old new answer some limit (inr nobody) = subst IsWritable (sym nobody.answer_is) (foreign_writable frame series some limit)
