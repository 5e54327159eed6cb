-- The values of a reader and of a writer over memory.
use Rattle.std.specs.Prelude.{ℕ, ◌+◌, ◌<◌, List, length, min}

-- a reader: the remaining bytes, the maximum number of bytes of a call, the numbers of the calls that fail, the number
-- of calls and of failed calls
pub record ReadMemory : Type 0 where
  pub left : List ℕ
  pub most : ℕ
  pub failing : List ℕ
  pub calls : ℕ
  pub failures : ℕ

-- a writer: the bytes written so far, the number of bytes that fit its memory, the maximum number of bytes of a call,
-- and the rest as for a reader
pub record WriteMemory : Type 0 where
  pub taken : List ℕ
  pub room : ℕ
  pub most : ℕ
  pub failing : List ℕ
  pub calls : ℕ
  pub failures : ℕ

-- the writer needs more memory to write its part of n more bytes
abbrev pub LacksRoom : WriteMemory → ℕ → Type 0
LacksRoom writer n = writer.room < length writer.taken + min writer.most n
