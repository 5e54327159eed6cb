-- Recordings: the eight magic bytes of a version, then chapters one after another.
use Rattle.std.specs.Prelude.{◌≡◌, ◌≢◌, ℕ, ◌+◌, ◌<◌, ◌≤◌, Bool, true, false, List, [], ◌++◌, ◌⊎◌, length, map, take}
use Rattle.std.specs.List.{flat_map, AllByRecursion}
use Rattle.pon_record.specs.declared.limits.TheConstants.{MAGIC_BYTES, MAGIC_ONE, MAGIC_TWO}
use Rattle.pon_record.specs.declared.fault.ReadFault.{ReadFault}
use Rattle.pon_record.specs.declared.fault.ReadFault.TheVariants.{BadFormat, Truncated, Memory}
use Rattle.pon_record.specs.declared.version.Version.{Version}
use Rattle.pon_record.specs.declared.version.Version.TheVariants as version
use Rattle.pon_record.specs.Chapters.{Body, FitsChapter, IsCutShort, PlacedChapter, chapter_bytes, placed}

-- the first bytes of a recording of a version
abbrev pub magic : Version → List ℕ
magic version.One = MAGIC_ONE
magic version.Two = MAGIC_TWO

-- the bytes of a recording of these chapters
abbrev pub recording_bytes : Version → List Body → List ℕ
recording_bytes v bodies = magic v ++ flat_map (chapter_bytes v) bodies

-- One version.

-- the bytes are the magic bytes, these chapters at their places, and a rest
pub record Holds (v : Version) (bytes : List ℕ) (chapters : List PlacedChapter) (rest : List ℕ) : Type 0 where
  pub parts : bytes ≡ recording_bytes v (map (λ c. c.body) chapters) ++ rest
  pub fit : AllByRecursion (FitsChapter v) (map (λ c. c.body) chapters)
  pub places : chapters ≡ placed v MAGIC_BYTES (map (λ c. c.body) chapters)

abbrev pub IsRecordingIn : Version → List ℕ → List PlacedChapter → Type 0
IsRecordingIn v bytes chapters = Holds v bytes chapters []

-- the bytes neither begin with a chapter of this version nor end inside one
pub record IsNoChapter (v : Version) (rest : List ℕ) : Type 0 where
  pub more : rest ≢ []
  pub ends : IsCutShort rest → ⊥
  pub other : (b : Body) (after : List ℕ) → FitsChapter v b → rest ≡ chapter_bytes v b ++ after → ⊥

-- the bytes end inside the chapter at a place, after these whole chapters
pub record EndsInside (v : Version) (bytes : List ℕ) (at : ℕ) (whole : List PlacedChapter) : Type 0 where
  pub rest : List ℕ
  pub holds : Holds v bytes whole rest
  pub cut : IsCutShort rest
  pub there : at + length rest ≡ length bytes

-- no chapter begins at a place after whole chapters
pub record HasNoChapterAt (v : Version) (bytes : List ℕ) (at : ℕ) : Type 0 where
  pub whole : List PlacedChapter
  pub rest : List ℕ
  pub holds : Holds v bytes whole rest
  pub none : IsNoChapter v rest
  pub there : at + length rest ≡ length bytes

-- more bytes follow the magic bytes and whole chapters
pub record GoesOn (v : Version) (bytes : List ℕ) : Type 0 where
  pub whole : List PlacedChapter
  pub rest : List ℕ
  pub holds : Holds v bytes whole rest
  pub more : rest ≢ []

-- the first fault after the magic bytes; memory may be refused at any chapter before it
abbrev pub IsFaultIn : Version → List ℕ → ReadFault → Type 0
IsFaultIn v bytes (BadFormat at) = HasNoChapterAt v bytes at
IsFaultIn v bytes (Truncated at whole) = EndsInside v bytes at whole
IsFaultIn v bytes Memory = GoesOn v bytes

-- The versions that a reader accepts.

abbrev pub either_version : Version → Bool
either_version v = true

abbrev pub version_one : Version → Bool
version_one version.One = true
version_one version.Two = false

-- the bytes are a recording of one of these versions, with these chapters
abbrev pub IsRecordingOf : (Version → Bool) → List ℕ → List PlacedChapter → Type 0
IsRecordingOf versions bytes chapters = (v : Version) × (versions v ≡ true) × IsRecordingIn v bytes chapters

-- the bytes are fewer than the magic bytes, or end inside the chapter at a place, after these whole chapters
abbrev pub IsTruncatedOf : (Version → Bool) → List ℕ → ℕ → List PlacedChapter → Type 0
IsTruncatedOf versions bytes at whole =
    ((length bytes < MAGIC_BYTES) × (at ≡ 0) × (whole ≡ []))
    ⊎ ((v : Version) × (versions v ≡ true) × EndsInside v bytes at whole)

-- the bytes begin with the magic bytes of none of the versions
pub record HasOtherMagic (versions : Version → Bool) (bytes : List ℕ) : Type 0 where
  pub long : MAGIC_BYTES ≤ length bytes
  pub other : (v : Version) → versions v ≡ true → take MAGIC_BYTES bytes ≢ magic v

-- the bytes begin with other magic bytes, or no chapter begins at a place after whole chapters
abbrev pub IsBadFormatOf : (Version → Bool) → List ℕ → ℕ → Type 0
IsBadFormatOf versions bytes at =
    (HasOtherMagic versions bytes × (at ≡ 0))
    ⊎ ((v : Version) × (versions v ≡ true) × HasNoChapterAt v bytes at)

-- this is the first fault of the bytes; memory may be refused at any chapter before it
abbrev pub IsReadFaultOf : (Version → Bool) → List ℕ → ReadFault → Type 0
IsReadFaultOf versions bytes (BadFormat at) = IsBadFormatOf versions bytes at
IsReadFaultOf versions bytes (Truncated at whole) = IsTruncatedOf versions bytes at whole
IsReadFaultOf versions bytes Memory = (v : Version) × (versions v ≡ true) × GoesOn v bytes

-- the bytes are a recording of one of these versions, or have a fault that is not refused memory
abbrev pub IsRead : (Version → Bool) → List ℕ → Type 0
IsRead versions bytes =
    ((chapters : List PlacedChapter) × IsRecordingOf versions bytes chapters)
    ⊎ ((fault : ReadFault) × (fault ≢ Memory) × IsReadFaultOf versions bytes fault)

-- Both versions.

abbrev pub IsRecording : List ℕ → List PlacedChapter → Type 0
IsRecording bytes chapters = IsRecordingOf either_version bytes chapters

abbrev pub IsTruncated : List ℕ → ℕ → List PlacedChapter → Type 0
IsTruncated bytes at whole = IsTruncatedOf either_version bytes at whole

abbrev pub IsBadFormat : List ℕ → ℕ → Type 0
IsBadFormat bytes at = IsBadFormatOf either_version bytes at

abbrev pub IsReadFault : List ℕ → ReadFault → Type 0
IsReadFault bytes fault = IsReadFaultOf either_version bytes fault
