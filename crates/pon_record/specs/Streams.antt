-- Reading a recording from a device, chapter after chapter.
use Rattle.std.specs.Prelude.{◌≡◌, ◌≢◌, ℕ, ◌+◌, ◌<◌, ◌≤◌, ◌%◌, ◌^◌, ◌⊎◌, List, [], ◌∷◌, ◌++◌, length, slice_index, Option, Some, None, Result, Ok, Err}
use Rattle.pon_device.specs.Device.{Consumes, IsAtEnd}
use Rattle.pon_record.specs.declared.limits.TheConstants.{CHAPTER_TAG, HEAD_BYTES}
use Rattle.pon_record.specs.declared.stream_fault.StreamFault.{StreamFault}
use Rattle.pon_record.specs.declared.stream_fault.StreamFault.TheVariants.{BadFormat, Truncated, Read, Memory}
use Rattle.pon_record.specs.declared.version.Version.{Version}
use Rattle.pon_record.specs.Chapters.{IsCutShort, PlacedChapter, body_size}
use Rattle.pon_record.specs.Recordings.{Holds, IsBadFormat, IsRecording, IsTruncated}

-- The bytes of one chapter.

-- the buffer grew up to a size by bytes of the device, or up to its end
pub record Fills (before after : List ℕ) (size : ℕ) (old new : Option (List ℕ)) : Type 0 where
  pub more : List ℕ
  pub grown : after ≡ before ++ more
  pub taken : Consumes old new more
  pub within : length before ≤ size → length after ≤ size
  pub ended : length after < size → IsAtEnd new

-- the head is whole, with the tag, and tells the number of bytes of the chapter
pub record IsSize (head : List ℕ) (size : ℕ) : Type 0 where
  pub long : HEAD_BYTES ≤ length head
  pub tag : slice_index head 0 ≡ CHAPTER_TAG
  pub told : size ≡ HEAD_BYTES + body_size head

abbrev pub TellsSize : List ℕ → Option ℕ → Type 0
TellsSize head None = (length head < HEAD_BYTES) ⊎ (slice_index head 0 ≢ CHAPTER_TAG)
TellsSize head (Some size) = IsSize head size

-- the front of the bytes of a device: at most one chapter, and less only if the device is at its end
pub record HasFront (old new : Option (List ℕ)) (front : List ℕ) : Type 0 where
  pub taken : Consumes old new front
  pub none : length front ≡ 0 → IsAtEnd new
  pub cut : IsCutShort front → IsAtEnd new
  pub within : slice_index front 0 ≡ CHAPTER_TAG → length front ≤ HEAD_BYTES + body_size front

-- A recording.

-- the version of a recording, and the place of its next chapter
pub record Position : Type 0 where
  pub version : Version
  pub at : ℕ

-- the device has what follows these chapters of the bytes
pub record StandsAfter (bytes : List ℕ) (whole : List PlacedChapter) (p : Position) (left : Option (List ℕ)) : Type 0 where
  pub rest : List ℕ
  pub is : left ≡ Some rest
  pub holds : Holds p.version bytes whole rest
  pub there : p.at + length rest ≡ length bytes

-- the bytes begin with the magic bytes of a version, or the fault
abbrev pub Opens : List ℕ → Option (List ℕ) → Result Position StreamFault → Type 0
Opens bytes left (Ok p) = StandsAfter bytes [] p left
Opens bytes left (Err (BadFormat at)) = IsBadFormat bytes at
Opens bytes left (Err (Truncated at)) = IsTruncated bytes at []
Opens bytes left (Err Read) = Unit {0}
Opens bytes left (Err Memory) = Unit {0}

-- the chapter after these chapters of the bytes; none if they are the whole recording; or the fault
abbrev pub GivesNext : List ℕ → List PlacedChapter → Position → Option (List ℕ) → Result (Option PlacedChapter) StreamFault → Type 0
GivesNext bytes whole p left (Ok None) = IsRecording bytes whole
GivesNext bytes whole p left (Ok (Some c)) = StandsAfter bytes (whole ++ c ∷ []) p left
GivesNext bytes whole p left (Err (BadFormat at)) = IsBadFormat bytes at
GivesNext bytes whole p left (Err (Truncated at)) = IsTruncated bytes at whole
GivesNext bytes whole p left (Err Read) = Unit {0}
GivesNext bytes whole p left (Err Memory) = Unit {0}

-- `Read` exactly when a read failed
abbrev pub CountsRead : {T : Type 0} → ℕ → ℕ → Result T StreamFault → Type 0
CountsRead old new (Ok x) = new ≡ old
CountsRead old new (Err Read) = new ≡ (old + 1) % 2 ^ 64
CountsRead old new (Err (BadFormat at)) = new ≡ old
CountsRead old new (Err (Truncated at)) = new ≡ old
CountsRead old new (Err Memory) = new ≡ old

-- the device failed, or memory was refused
abbrev pub IsOfDevice : StreamFault → Type 0
IsOfDevice Read = Unit {0}
IsOfDevice Memory = Unit {0}
IsOfDevice (BadFormat at) = ⊥
IsOfDevice (Truncated at) = ⊥
