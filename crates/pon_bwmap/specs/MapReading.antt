-- The bandwidth map that bytes read as (ITU-T G.987.3): its head, N allocation structures of 8 bytes, P messages of 48
-- bytes.
use Rattle.std.specs.Prelude.{◌≡◌, ℕ, ◌+◌, ◌*◌, ◌^◌, ◌<◌, ◌≤◌, List, [], ◌∷◌, length, drop, IfSome}
use Rattle.std.specs.Int.{w64, from_be_bytes}
use Rattle.pon_units.specs.declared.limits.TheConstants.{MAX_ALLOC_ID, MAX_PROFILE, MAX_STRUCTURES}
use Rattle.pon_hec.specs.HeaderCode.{Reads}
use Rattle.pon_xgtc.specs.HLend.{HLend, ReadsHLend}
use Rattle.pon_bwmap.specs.Alloc.{Alloc}
use Rattle.pon_bwmap.specs.MapBytes.{structure_payload}
use Rattle.pon_bwmap.specs.MapRules.{IsMap}

-- the ranges of the fields of a structure; a start of all ones means no start
pub record FitsStructure (a : Alloc) : Type 0 where
  pub id : a.id ≤ MAX_ALLOC_ID
  pub start : IfSome a.start (λ start. start < 0xffff)
  pub grant : a.grant ≤ 65535
  pub profile : a.profile ≤ MAX_PROFILE

-- the first 8 bytes read as this structure, with this number of corrected bits
pub record ReadsStructure (bytes : List ℕ) (a : Alloc) (places : ℕ) : Type 0 where
  pub fits : FitsStructure a
  pub whole : 8 ≤ length bytes
  pub word : Reads (2 ^ 64) (from_be_bytes w64 bytes) (structure_payload a) places

-- the bytes begin with these structures, in order, with this number of corrected bits together
abbrev pub ReadsRows : List ℕ → List Alloc → ℕ → Type 0
ReadsRows bytes [] corrected = corrected ≡ 0
ReadsRows bytes (a ∷ rows) corrected = (here later : ℕ) × ReadsStructure bytes a here × ReadsRows (drop 8 bytes) rows later × (corrected ≡ here + later)

-- the bytes begin with this number of structures, and they make a map
pub record ReadsMapRows (bytes : List ℕ) (count : ℕ) (rows : List Alloc) (corrected : ℕ) : Type 0 where
  pub counted : length rows ≡ count
  pub reads : ReadsRows bytes rows corrected
  pub is_map : IsMap rows

-- the number of bytes that a map with this head uses, including its messages
abbrev pub map_size : HLend → ℕ
map_size head = 4 + 8 * head.n + 48 * head.p

-- the bytes begin with this head of a map, which announces at most MAX_STRUCTURES structures, and contain all that it
-- announces
pub record ReadsWholeHead (bytes : List ℕ) (head : HLend) (corrected : ℕ) : Type 0 where
  pub reads : ReadsHLend bytes head corrected
  pub count : head.n ≤ MAX_STRUCTURES
  pub whole : map_size head ≤ length bytes

-- the bytes begin with this map, with this number of corrected bits in its header words and this number of bytes
pub record ReadsMap (bytes : List ℕ) (rows : List Alloc) (corrected used : ℕ) : Type 0 where
  pub head : HLend
  pub in_head : ℕ
  pub in_rows : ℕ
  pub reads_head : ReadsWholeHead bytes head in_head
  pub reads_rows : ReadsMapRows (drop 4 bytes) head.n rows in_rows
  pub corrected_is : corrected ≡ in_head + in_rows
  pub used_is : used ≡ map_size head

-- the bytes begin with a map
abbrev pub BeginsWithMap : List ℕ → Type 0
BeginsWithMap bytes = (rows : List Alloc) × (corrected : ℕ) × (used : ℕ) × ReadsMap bytes rows corrected used
