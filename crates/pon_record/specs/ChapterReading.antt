-- The result of reading a chapter.
use Rattle.std.specs.Prelude.{◌≡◌, ◌≢◌, ℕ, ◌+◌, ◌<◌, ◌≤◌, List, drop, length, slice_index, take, Some, None, Result, Ok, Err}
use Rattle.std.specs.Borrow.{Bor}
use Rattle.pon_record.specs.declared.limits.TheConstants.{CHAPTER_TAG, HEAD_BYTES}
use Rattle.pon_record.specs.declared.fault.ChapterFault.{ChapterFault}
use Rattle.pon_record.specs.declared.fault.ChapterFault.TheVariants as chapter
use Rattle.pon_record.specs.declared.fault.Stop.{Stop}
use Rattle.pon_record.specs.declared.fault.Stop.TheVariants as stop
use Rattle.pon_record.specs.declared.version.Version.{Version}
use Rattle.pon_record.specs.Chapters.{IsCutShort, PlacedChapter, body_size, tagged_body_in}

abbrev pub fault_of : Stop → ChapterFault
fault_of stop.Malformed = chapter.Malformed
fault_of stop.Memory = chapter.Memory

-- the body of the chapter at the front of the bytes: its bytes, or why there is none
abbrev pub HasNoBody : List ℕ → ChapterFault → Type 0
HasNoBody bytes chapter.CutShort = IsCutShort bytes
HasNoBody bytes chapter.Malformed = slice_index bytes 0 ≢ CHAPTER_TAG
HasNoBody bytes chapter.Memory = ⊥

pub record HasBody (bytes piece : List ℕ) : Type 0 where
  pub tag : slice_index bytes 0 ≡ CHAPTER_TAG
  pub within : HEAD_BYTES + length piece ≤ length bytes
  pub size : length piece ≡ body_size bytes
  pub is : piece ≡ take (length piece) (drop HEAD_BYTES bytes)

abbrev pub IsBodyOf : List ℕ → Result (Bor (List ℕ)) ChapterFault → Type 0
IsBodyOf bytes (Ok piece) = HasBody bytes piece.now
IsBodyOf bytes (Err fault) = HasNoBody bytes fault

-- the chapter at the front of the bytes, and its number of bytes
pub record BeginsWith (v : Version) (bytes : List ℕ) (at : ℕ) (c : PlacedChapter) (size : ℕ) : Type 0 where
  pub place : c.at ≡ at
  pub some : 0 < size
  pub within : size ≤ length bytes
  pub read : (tagged_body_in v).read bytes ≡ Some ((CHAPTER_TAG, c.body), drop size bytes)

-- why no chapter begins the bytes
abbrev pub HasNoChapter : Version → List ℕ → ChapterFault → Type 0
HasNoChapter v bytes chapter.CutShort = IsCutShort bytes
HasNoChapter v bytes chapter.Malformed = ((tagged_body_in v).read bytes ≡ None) × (IsCutShort bytes → ⊥)
HasNoChapter v bytes chapter.Memory = Unit {0}

abbrev pub ReadsChapter : Version → List ℕ → ℕ → Result (PlacedChapter × ℕ) ChapterFault → Type 0
ReadsChapter v bytes at (Ok r) = BeginsWith v bytes at r.0 r.1
ReadsChapter v bytes at (Err fault) = HasNoChapter v bytes fault
