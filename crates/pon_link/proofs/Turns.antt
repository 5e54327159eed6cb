-- One more series is answered, and its answer written whole or in part.
use Rattle.std.proofs.Common.{◌≡◌, ℕ, List, [], ◌∷◌, ◌++◌, take, drop, Option, Result, Ok, Err, OnErr, refl, sym, ◌∙◌, subst, append_assoc, append-nil}
use Rattle.std.proofs.lemmas.List.{take-append-drop}
use Rattle.std.proofs.KnownBytes.{Appends-trans}
use Rattle.pon_bwmap.specs.Alloc.{Alloc}
use Rattle.pon_device.specs.Device.{Appends}
use Rattle.pon_link.specs.Runs.{AreRecords}
use Rattle.pon_link.specs.Units.{UnitState}
use Rattle.pon_link.specs.UpRecords.{IsRecord}
use Rattle.pon_link.specs.declared.record.UpRecord.{UpRecord}
use Rattle.pon_link.proofs.RunLaws.{records_joined}
use Rattle.pon_link.specs.Answers.{AnswersSeries, AnswersInTurn, AnswersRows}
use Rattle.pon_link.specs.Outputs.{Writes, WritesPart, HasAnswered, HasBegun}
use Rattle.pon_link.specs.Series.{IsSeries, AreSeries, KeepsSeries}

-- ---- what is written

-- a prefix of one record
pub part_written : {T E : Type 0} (r : Result T E) (old new : Option (List ℕ)) (bytes : List ℕ) (answer : UpRecord) → IsRecord bytes answer → OnErr r ((sent rest : List ℕ) × Appends old new sent × (sent ++ rest ≡ bytes)) → OnErr r (WritesPart old new (answer ∷ []))
part_written (Ok x) old new bytes answer is h = tt
part_written (Err e) old new bytes answer is h = record { sent = h.0; unsent = h.1; records = (bytes, [], h.3 ∙ sym (append-nil bytes), is, refl); written = h.2 }

pub writes_more : (a b c : Option (List ℕ)) (xs ys : List UpRecord) → Writes a b xs → Writes b c ys → Writes a c (xs ++ ys)
writes_more a b c xs ys p q = record {
  bytes = p.bytes ++ q.bytes;
  records = records_joined IsRecord p.bytes q.bytes xs ys [] p.records q.records;
  written = Appends-trans a b c p.bytes q.bytes p.written q.written;
}

pub part_more : (a b c : Option (List ℕ)) (xs ys : List UpRecord) → Writes a b xs → WritesPart b c ys → WritesPart a c (xs ++ ys)
part_more a b c xs ys p q = record {
  sent = p.bytes ++ q.sent;
  unsent = q.unsent;
  records = subst (λ (t : List ℕ). AreRecords IsRecord t (xs ++ ys) []) (sym (append_assoc p.bytes q.sent q.unsent)) (records_joined IsRecord p.bytes (q.sent ++ q.unsent) xs ys [] p.records q.records);
  written = Appends-trans a b c p.bytes q.sent p.written q.written;
}

-- ---- what is answered

series_more : (rows : List Alloc) (parts : List (List Alloc)) (rest series later : List Alloc) → AreSeries rows parts rest → rest ≡ series ++ later → IsSeries series → AreSeries rows (parts ++ series ∷ []) later
series_more rows [] rest series later h cut is = (later, h ∙ cut, is, refl)
series_more rows (p ∷ parts) rest series later h cut is = (h.0, h.1, h.2, series_more h.0 parts rest series later h.3 cut is)

turn_more : (frame : ℕ) (parts : List (List Alloc)) (series : List Alloc) (old mid new : List UnitState) (answers : List UpRecord) (answer : UpRecord) → AnswersInTurn frame parts old mid answers → AnswersSeries frame series mid new answer → AnswersInTurn frame (parts ++ series ∷ []) old new (answers ++ answer ∷ [])
turn_more frame [] series old mid new [] answer h k = (new, subst (λ (units : List UnitState). AnswersSeries frame series units new answer) h k, refl)
turn_more frame [] series old mid new (a ∷ answers) answer h k = absurd h
turn_more frame (p ∷ parts) series old mid new [] answer h k = absurd h
turn_more frame (p ∷ parts) series old mid new (a ∷ answers) answer h k = (h.0, h.1, turn_more frame parts series h.0 mid new answers answer h.2 k)

-- the structures are split after their first series
pub record IsCut (rest series later : List Alloc) : Type 0 where
  pub seam : rest ≡ series ++ later
  pub one : IsSeries series
  pub keeps : KeepsSeries later

pub is_cut : (rest series later : List Alloc) (len : ℕ) → series ≡ take len rest → later ≡ drop len rest → IsSeries (take len rest) → KeepsSeries (drop len rest) → IsCut rest series later
is_cut rest series later len front back one keeps =
    let seam : rest ≡ series ++ later = cc (take-append-drop len rest) in record {
      seam = seam;
      one = subst IsSeries (sym front) one;
      keeps = subst KeepsSeries (sym back) keeps;
    }

rows_more : (frame : ℕ) (rows rest series later : List Alloc) (old mid new : List UnitState) (answers : List UpRecord) (answer : UpRecord) → AnswersRows frame rows rest old mid answers → IsCut rest series later → AnswersSeries frame series mid new answer → AnswersRows frame rows later old new (answers ++ answer ∷ [])
rows_more frame rows rest series later old mid new answers answer far cut here = record {
  all_series = far.all_series ++ series ∷ [];
  are_series = series_more rows far.all_series rest series later far.are_series cut.seam cut.one;
  whole = cut.keeps.first;
  in_turn = turn_more frame far.all_series series old mid new answers answer far.in_turn here;
}

pub answered_more : (frame : ℕ) (rows rest series later : List Alloc) (old mid new : List UnitState) (a b c : Option (List ℕ)) (answer : UpRecord) → HasAnswered frame rows rest old mid a b → IsCut rest series later → AnswersSeries frame series mid new answer → Writes b c (answer ∷ []) → HasAnswered frame rows later old new a c
answered_more frame rows rest series later old mid new a b c answer far cut here w = record {
  answers = far.answers ++ answer ∷ [];
  answered = rows_more frame rows rest series later old mid new far.answers answer far.answered cut here;
  written = writes_more a b c far.answers (answer ∷ []) far.written w;
}

pub begun_more : (frame : ℕ) (rows rest series later : List Alloc) (old mid new : List UnitState) (a b c : Option (List ℕ)) (answer : UpRecord) → HasAnswered frame rows rest old mid a b → IsCut rest series later → AnswersSeries frame series mid new answer → WritesPart b c (answer ∷ []) → HasBegun frame rows old new a c
begun_more frame rows rest series later old mid new a b c answer far cut here w = record {
  answers = far.answers ++ answer ∷ [];
  rest = later;
  answered = rows_more frame rows rest series later old mid new far.answers answer far.answered cut here;
  written = part_more a b c far.answers (answer ∷ []) far.written w;
}
