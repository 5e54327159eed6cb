-- The first fault of the bytes of a bandwidth map, from left to right.
use Rattle.std.specs.Prelude.{◌≡◌, ℕ, ◌+◌, ◌*◌, ◌^◌, ◌<◌, ◌≤◌, ◌⊎◌, List, length, drop, Some}
use Rattle.std.specs.Int.{w64, from_be_bytes}
use Rattle.pon_units.specs.declared.limits.TheConstants.{MAX_STRUCTURES}
use Rattle.pon_hec.specs.HeaderCode.{Reads}
use Rattle.pon_xgtc.specs.Header.{IsHeaderFault}
use Rattle.pon_xgtc.specs.HLend.{HLend, ReadsHLend}
use Rattle.pon_xgtc.specs.declared.fault.HeadFault.TheVariants.{Hec}
use Rattle.pon_bwmap.specs.Alloc.{Alloc}
use Rattle.pon_bwmap.specs.MapRules.{FirstKeepRules, row_fault}
use Rattle.pon_bwmap.specs.MapReading.{ReadsRows, ReadsMapRows, ReadsWholeHead, map_size}
use Rattle.pon_bwmap.specs.declared.fault.MapFault.{MapFault}
use Rattle.pon_bwmap.specs.declared.fault.MapFault.TheVariants.{Short, HeadHec, TooMany, StructHec, SeriesStart, StartRange, SeriesLong, Memory}

-- the first k structures of the bytes read and keep the rules, and the word of the next one has no reading
pub record LosesStructure (bytes : List ℕ) (k : ℕ) : Type 0 where
  pub rows : List Alloc
  pub corrected : ℕ
  pub counted : length rows ≡ k
  pub reads : ReadsRows bytes rows corrected
  pub keep : FirstKeepRules rows k
  pub lost : (payload places : ℕ) → Reads (2 ^ 64) (from_be_bytes w64 (drop (8 * k) bytes)) payload places → ⊥

-- the structures up to structure k read, and k is the first that breaks a rule, with this fault
pub record BreaksRule (bytes : List ℕ) (k : ℕ) (fault : MapFault) : Type 0 where
  pub rows : List Alloc
  pub corrected : ℕ
  pub counted : length rows ≡ k + 1
  pub reads : ReadsRows bytes rows corrected
  pub keep : FirstKeepRules rows k
  pub breaks : row_fault rows k ≡ Some fault

-- this is the first fault of the leading `count` structures; `Memory` only if they form a valid map
abbrev pub IsRowsFirstFault : List ℕ → ℕ → MapFault → Type 0
IsRowsFirstFault bytes count (StructHec k) = (k < count) × LosesStructure bytes k
IsRowsFirstFault bytes count (SeriesStart k) = (k < count) × BreaksRule bytes k (SeriesStart k)
IsRowsFirstFault bytes count (StartRange k) = (k < count) × BreaksRule bytes k (StartRange k)
IsRowsFirstFault bytes count (SeriesLong k) = (k < count) × BreaksRule bytes k (SeriesLong k)
IsRowsFirstFault bytes count Memory = (rows : List Alloc) × (corrected : ℕ) × ReadsMapRows bytes count rows corrected
IsRowsFirstFault bytes count Short = ⊥
IsRowsFirstFault bytes count HeadHec = ⊥
IsRowsFirstFault bytes count TooMany = ⊥

-- the head and the number of bytes have no fault, and this is the first fault of the structures
pub record IsFaultOfRows (bytes : List ℕ) (fault : MapFault) : Type 0 where
  pub head : HLend
  pub corrected : ℕ
  pub reads_head : ReadsWholeHead bytes head corrected
  pub in_rows : IsRowsFirstFault (drop 4 bytes) head.n fault

-- fewer bytes than the head has, or than it announces
abbrev pub IsShort : List ℕ → Type 0
IsShort bytes = (length bytes < 4) ⊎ ((head : HLend) × (corrected : ℕ) × ReadsHLend bytes head corrected × (head.n ≤ MAX_STRUCTURES) × (length bytes < map_size head))

-- this is the first fault of the bytes
abbrev pub IsFirstMapFault : List ℕ → MapFault → Type 0
IsFirstMapFault bytes Short = IsShort bytes
IsFirstMapFault bytes HeadHec = IsHeaderFault bytes Hec
IsFirstMapFault bytes TooMany = (head : HLend) × (corrected : ℕ) × ReadsHLend bytes head corrected × (MAX_STRUCTURES < head.n)
IsFirstMapFault bytes (StructHec k) = IsFaultOfRows bytes (StructHec k)
IsFirstMapFault bytes (SeriesStart k) = IsFaultOfRows bytes (SeriesStart k)
IsFirstMapFault bytes (StartRange k) = IsFaultOfRows bytes (StartRange k)
IsFirstMapFault bytes (SeriesLong k) = IsFaultOfRows bytes (SeriesLong k)
IsFirstMapFault bytes Memory = IsFaultOfRows bytes Memory
