-- The bytes of an upstream record: the tag 0x55, the frame in 8 bytes, a burst header of 4 bytes, a count
-- byte, and a report of 4 bytes for each occupancy (header and report: ITU-T G.987.3).
use Rattle.std.specs.Prelude.{◌≡◌, ℕ, ◌+◌, ◌*◌, ◌≤◌, List, [], ◌∷◌, ◌++◌, length, slice_index, slice_range, drop, Option, Some, None}
use Rattle.std.specs.Int.{w64, from_be_bytes}
use Rattle.pon_units.specs.declared.limits.TheConstants.{MAX_SERIES}
use Rattle.pon_dbru.specs.Report.{Reports}
use Rattle.pon_xgtc.specs.Header.{IsHeaderFault}
use Rattle.pon_xgtc.specs.BurstHead.{BurstHead, ReadsBurstHead}
use Rattle.pon_xgtc.specs.declared.fault.HeadFault.TheVariants.{Hec}
use Rattle.pon_link.specs.declared.record.UpRecord.{UpRecord}

-- Four bytes read as this burst header, with some bits corrected, or as none if the HEC is refused.
abbrev pub ReadsHead : List ℕ → Option BurstHead → Type 0
ReadsHead bytes (Some h) = (places : ℕ) × ReadsBurstHead bytes h places
ReadsHead bytes None = IsHeaderFault bytes Hec

-- Four bytes report this occupancy, or none if they are garbled.
abbrev pub ReadsReport : List ℕ → Option ℕ → Type 0
ReadsReport bytes (Some words) = Reports bytes words
ReadsReport bytes None = (length bytes ≡ 4) × ((words : ℕ) → Reports bytes words → ⊥)

-- The bytes are reports of these occupancies, in order.
abbrev pub ReadsReports : List ℕ → List (Option ℕ) → Type 0
ReadsReports bytes [] = bytes ≡ []
ReadsReports bytes (o ∷ os) = (report rest : List ℕ) × (bytes ≡ report ++ rest) × ReadsReport report o × ReadsReports rest os

-- the count byte of a record, its 14th
abbrev pub count_in : List ℕ → ℕ
count_in bytes = slice_index bytes 13

-- The bytes are one whole upstream record, field by field.
pub record IsRecord (bytes : List ℕ) (r : UpRecord) : Type 0 where
  pub size : length bytes ≡ 14 + 4 * length r.occ
  pub tag : slice_index bytes 0 ≡ 0x55
  pub frame : from_be_bytes w64 (slice_range bytes 1 9) ≡ r.frame
  pub head : ReadsHead (slice_range bytes 9 13) r.head
  pub count : count_in bytes ≡ length r.occ
  pub some : 1 ≤ length r.occ
  pub limit : length r.occ ≤ MAX_SERIES
  pub reports : ReadsReports (drop 14 bytes) r.occ
