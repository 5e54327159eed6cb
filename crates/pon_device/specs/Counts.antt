-- The values of a reader and of a writer of std as devices: the wrapped one, and the numbers of its calls.
use Rattle.std.specs.Prelude.{ℕ}

-- a reader, with the number of reads and of failed reads
pub record CountedRead (R : Type 0) : Type 0 where
  pub inner : R
  pub calls : ℕ
  pub failures : ℕ

-- a writer, with the number of failed calls
pub record CountedWrite (W : Type 0) : Type 0 where
  pub inner : W
  pub failures : ℕ
