-- The bytes of a header of 4 bytes (ITU-T G.987.3).
use Rattle.std.specs.Prelude.{ℕ, ◌^◌, ◌<◌, ◌≤◌, List, length}
use Rattle.std.specs.Int.{w32, from_be_bytes, to_be_bytes}
use Rattle.pon_hec.specs.HeaderCode.{Reads, sealed}
use Rattle.pon_xgtc.specs.declared.fault.HeadFault.{HeadFault}
use Rattle.pon_xgtc.specs.declared.fault.HeadFault.TheVariants.{Short, Hec}

-- the bytes of the header with this payload: those of its codeword, most significant byte first
abbrev pub header_bytes : ℕ → List ℕ
header_bytes payload = to_be_bytes w32 (sealed payload)

-- the bytes begin with a header: there are at least 4, and their word, most significant byte first, reads
-- as this payload with this number of corrected bits
pub record ReadsHeader (bytes : List ℕ) (payload places : ℕ) : Type 0 where
  pub whole : 4 ≤ length bytes
  pub word : Reads (2 ^ 32) (from_be_bytes w32 bytes) payload places

-- why the bytes begin with no header: there are fewer than 4, or their word has no reading
abbrev pub IsHeaderFault : List ℕ → HeadFault → Type 0
IsHeaderFault bytes Short = length bytes < 4
IsHeaderFault bytes Hec = (4 ≤ length bytes) × ((payload places : ℕ) → Reads (2 ^ 32) (from_be_bytes w32 bytes) payload places → ⊥)
