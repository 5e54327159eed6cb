-- What the chapters of a run are written to.
use Rattle.std.specs.Prelude.{ℕ, Option, None}
use Rattle.pon_recorder.specs.declared.tape.Tape.{Tape}
use Rattle.pon_recorder.specs.declared.tape.Tape.TheVariants as tape

-- the number of failed calls
abbrev pub tape_failures : {F : Type 0} → Tape F → ℕ
tape_failures (tape.File file) = file.failed
tape_failures tape.Nothing = 0

-- the number of maps of one port after which it is followed by the next file, from that of its file
abbrev pub tape_most : {F : Type 0} → (F → Option ℕ) → Tape F → Option ℕ
tape_most most (tape.File file) = most file.file
tape_most most tape.Nothing = None
