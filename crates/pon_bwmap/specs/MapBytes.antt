-- The bytes of a bandwidth map (ITU-T G.987.3): its head, then 8 bytes for each structure.
use Rattle.std.specs.Prelude.{ℕ, ◌+◌, ◌*◌, ◌^◌, Bool, List, ◌++◌, length, if◌then◌else◌, Option, Some, None}
use Rattle.std.specs.List.{flat_map}
use Rattle.std.specs.Int.{w64, to_be_bytes}
use Rattle.pon_hec.specs.HeaderCode.{sealed}
use Rattle.pon_xgtc.specs.HLend.{hlend_payload}
use Rattle.pon_xgtc.specs.Header.{header_bytes}
use Rattle.pon_bwmap.specs.Alloc.{Alloc}

-- the bit of a flag
abbrev pub flag_bit : Bool → ℕ
flag_bit b = if b then 1 else 0

-- the field StartTime: all ones in a structure that continues a series
abbrev pub start_field : Option ℕ → ℕ
start_field (Some start) = start
start_field None = 0xffff

-- the payload of a structure: Alloc-ID in 14 bits, DBRu 1, PLOAMu 1, StartTime 16, GrantSize 16, FWI 1, BurstProfile 2
abbrev pub structure_payload : Alloc → ℕ
structure_payload a = a.id * 2 ^ 37 + flag_bit a.dbru * 2 ^ 36 + flag_bit a.ploam * 2 ^ 35 + start_field a.start * 2 ^ 19 + a.grant * 2 ^ 3 + flag_bit a.fwi * 2 ^ 2 + a.profile

-- the 8 bytes of a structure: those of its codeword, most significant byte first
abbrev pub structure_bytes : Alloc → List ℕ
structure_bytes a = to_be_bytes w64 (sealed (structure_payload a))

-- the bytes of a map that announces no messages
unfoldable pub map_bytes : List Alloc → List ℕ
map_bytes rows = header_bytes (hlend_payload (record { n = length rows; p = 0 })) ++ flat_map structure_bytes rows
