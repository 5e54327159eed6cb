-- The records of answers as bytes on a device.
use Rattle.std.specs.Prelude.{ℕ, ◌≤◌, List, [], ◌++◌, All, IsSome, length, Option}
use Rattle.pon_units.specs.declared.limits.TheConstants.{MAX_SERIES}
use Rattle.pon_bwmap.specs.Alloc.{Alloc}
use Rattle.pon_device.specs.Device.{Appends}
use Rattle.pon_link.specs.Runs.{AreRecords}
use Rattle.pon_link.specs.Units.{UnitState}
use Rattle.pon_link.specs.UpRecords.{IsRecord}
use Rattle.pon_link.specs.declared.record.UpRecord.{UpRecord}
use Rattle.pon_link.specs.Answers.{AnswersRows}

-- an answer has a burst header and 1 to 16 occupancies, none of them garbled
pub record IsWritable (answer : UpRecord) : Type 0 where
  pub head : IsSome answer.head
  pub some : 1 ≤ length answer.occ
  pub limit : length answer.occ ≤ MAX_SERIES
  pub reports : All IsSome answer.occ

-- the records of the answers were written, one after another
pub record Writes (old new : Option (List ℕ)) (answers : List UpRecord) : Type 0 where
  pub bytes : List ℕ
  pub records : AreRecords IsRecord bytes answers []
  pub written : Appends old new bytes

-- a prefix of the records of the answers was written
pub record WritesPart (old new : Option (List ℕ)) (answers : List UpRecord) : Type 0 where
  pub sent : List ℕ
  pub unsent : List ℕ
  pub records : AreRecords IsRecord (sent ++ unsent) answers []
  pub written : Appends old new sent

-- the structures of a frame, except the rest, are answered, and the answers are written
pub record HasAnswered (frame : ℕ) (rows rest : List Alloc) (old new : List UnitState) (out_old out_new : Option (List ℕ)) : Type 0 where
  pub answers : List UpRecord
  pub answered : AnswersRows frame rows rest old new answers
  pub written : Writes out_old out_new answers

-- the first series of a frame are answered, and a prefix of the answers' records is written
pub record HasBegun (frame : ℕ) (rows : List Alloc) (old new : List UnitState) (out_old out_new : Option (List ℕ)) : Type 0 where
  pub answers : List UpRecord
  pub rest : List Alloc
  pub answered : AnswersRows frame rows rest old new answers
  pub written : WritesPart out_old out_new answers
