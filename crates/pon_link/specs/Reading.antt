-- The bytes that a reader of a link's records holds, and the effect of its calls, in either direction.
use Rattle.std.specs.Prelude.{◌≡◌, ◌≢◌, ℕ, ◌+◌, ◌*◌, ◌^◌, ◌%◌, ◌<◌, ◌≤◌, ◌⊎◌, Bool, false, IsTrue, List, [], ◌++◌, length, drop, slice_index, Option, Some, None, Result, Ok, Err}
use Rattle.pon_units.specs.declared.limits.TheConstants.{MAX_SERIES, MAX_STRUCTURES}
use Rattle.pon_device.specs.Device.{Consumes, Keeps, IsAtEnd}
use Rattle.pon_xgtc.specs.HLend.{HLend, ReadsHLend}
use Rattle.pon_bwmap.specs.MapReading.{BeginsWithMap}
use Rattle.pon_bwmap.specs.MapFaults.{IsFirstMapFault}
use Rattle.pon_bwmap.specs.declared.fault.MapFault.{MapFault}
use Rattle.pon_bwmap.specs.declared.fault.MapFault.TheVariants.{Memory}
use Rattle.pon_link.specs.UpRecords.{count_in}
use Rattle.pon_link.specs.declared.direction.Direction.{Direction}
use Rattle.pon_link.specs.declared.direction.Direction.TheVariants.{Up, Down}
use Rattle.pon_link.specs.declared.fault.LinkFault.{LinkFault}
use Rattle.pon_link.specs.declared.fault.LinkFault.TheVariants.{BadTag, BadCount, BadMap, Truncated}
use Rattle.pon_link.specs.declared.pull.Pulled.{Pulled}
use Rattle.pon_link.specs.declared.pull.Pulled.TheVariants.{Bytes, End}
use Rattle.pon_link.specs.declared.pull.PullFault.{PullFault}
use Rattle.pon_link.specs.declared.pull.PullFault.TheVariants.{Device, Link}

-- a reader: the direction of its records, the held bytes of the present record, and whether the input ended inside it
pub record ReaderState : Type 0 where
  pub direction : Direction
  pub held : List ℕ
  pub ended : Bool

-- a reader that holds no bytes
abbrev pub empty : Direction → ReaderState
empty d = record { direction = d; held = []; ended = false }

-- the tag of a direction's records, their first byte
abbrev pub tag_of : Direction → ℕ
tag_of Up = 0x55
tag_of Down = 0x44

-- the number of bytes that give the size of a record: up to the count byte, or up to the end of the map's head
abbrev pub header_len : Direction → ℕ
header_len Up = 14
header_len Down = 13

-- the number of bytes of a longest record: of 16 reports, or of a map of 512 structures
abbrev pub longest : Direction → ℕ
longest Up = 78
longest Down = 4109

-- The bytes of a map give the number of bytes of its record: at most 512 structures, and no message.
abbrev pub AnnouncesMap : List ℕ → ℕ → Type 0
AnnouncesMap map n = (head : HLend) × (corrected : ℕ) × ReadsHLend map head corrected × (head.n ≤ MAX_STRUCTURES) × (head.p ≡ 0) × (n ≡ 13 + 8 * head.n)

-- The bytes give the number of bytes of their record: the count byte is 1 to 16, or the map's head announces at most
-- 512 structures and no message.
abbrev pub Announces : Direction → List ℕ → ℕ → Type 0
Announces Up bytes n = (1 ≤ count_in bytes) × (count_in bytes ≤ MAX_SERIES) × (n ≡ 14 + 4 * count_in bytes)
Announces Down bytes n = AnnouncesMap (drop 9 bytes) n

-- The first byte, if present, is the tag of the direction, and the bytes that give the size, if present, give one.
pub record KeepsForm (d : Direction) (bytes : List ℕ) : Type 0 where
  pub tag : 0 < length bytes → slice_index bytes 0 ≡ tag_of d
  pub size : header_len d ≤ length bytes → (n : ℕ) × Announces d bytes n

-- The bytes are a proper prefix of a record, as far as their tag and size show.
pub record MayBecomeRecord (d : Direction) (bytes : List ℕ) : Type 0 where
  pub form : KeepsForm d bytes
  pub more : header_len d ≤ length bytes → (n : ℕ) × Announces d bytes n × (length bytes < n)

-- The bytes have the form of a record, and the number of bytes that they give.
pub record IsWholeRecord (d : Direction) (bytes : List ℕ) : Type 0 where
  pub form : KeepsForm d bytes
  pub told : header_len d ≤ length bytes
  pub size : Announces d bytes (length bytes)

-- the bytes that should give the size give none
abbrev pub HasBadSize : Direction → List ℕ → Type 0
HasBadSize Up bytes = (count_in bytes ≡ 0) ⊎ (MAX_SERIES < count_in bytes)
HasBadSize Down bytes = (n : ℕ) → Announces Down bytes n → ⊥

-- the fault of a bad size, by direction
abbrev pub bad_size : Direction → LinkFault
bad_size Up = BadCount
bad_size Down = BadMap

-- The first byte is present, and is not the tag.
abbrev pub HasBadTag : Direction → List ℕ → Type 0
HasBadTag d bytes = (0 < length bytes) × (slice_index bytes 0 ≢ tag_of d)

-- The tag is right, and the bytes that should give the size are present and give none.
abbrev pub HasBadForm : Direction → List ℕ → Type 0
HasBadForm d bytes = (header_len d ≤ length bytes) × (slice_index bytes 0 ≡ tag_of d) × HasBadSize d bytes

-- The bytes are a whole downstream record, and the map in them is refused.
abbrev pub HasRefusedMap : List ℕ → Type 0
HasRefusedMap bytes = IsWholeRecord Down bytes × ((fault : MapFault) × IsFirstMapFault (drop 9 bytes) fault × (fault ≢ Memory))

-- The bytes are a whole record that is not refused.
abbrev pub IsReady : Direction → List ℕ → Type 0
IsReady Up bytes = IsWholeRecord Up bytes
IsReady Down bytes = IsWholeRecord Down bytes × BeginsWithMap (drop 9 bytes)

-- The bytes do not go past one record: not past those that give its size if the form is not kept, otherwise not past
-- the size that they give.
pub record IsWithinRecord (d : Direction) (bytes : List ℕ) : Type 0 where
  pub form : header_len d < length bytes → KeepsForm d bytes
  pub size : header_len d < length bytes → (n : ℕ) × Announces d bytes n × (length bytes ≤ n)

-- The reader takes bytes: its record is not whole, and it has no fault.
pub record IsOpen (s : ReaderState) : Type 0 where
  pub unended : s.ended ≡ false
  pub beginning : MayBecomeRecord s.direction s.held

-- This is the fault of a reader.
abbrev pub HasFault : ReaderState → LinkFault → Type 0
HasFault s BadTag = HasBadTag s.direction s.held
HasFault s BadCount = (s.direction ≡ Up) × HasBadForm Up s.held
HasFault s BadMap = (s.direction ≡ Down) × (HasBadForm Down s.held ⊎ HasRefusedMap s.held)
HasFault s (Truncated left) = IsTrue s.ended × MayBecomeRecord s.direction s.held × (0 < left) × (left ≡ length s.held)

-- A reader with these bytes after those that it held.
abbrev pub holds_more : ReaderState → List ℕ → ReaderState
holds_more s bytes = record { direction = s.direction; held = s.held ++ bytes; ended = s.ended }

-- A reader of records, where `Is` defines the bytes of a record, returns the one that it held and then holds no bytes;
-- or it is unchanged, with a prefix of a record or with a fault.
abbrev pub Returns : {R : Type 0} → (List ℕ → R → Type 0) → ReaderState → ReaderState → Result (Option R) LinkFault → Type 0
Returns Is old new (Ok (Some r)) = Is old.held r × (new ≡ empty old.direction)
Returns Is old new (Ok None) = IsOpen old × (new ≡ old)
Returns Is old new (Err fault) = HasFault old fault × (new ≡ old)

-- A pull added bytes from the device, or none if a whole record is held; or it found the end between two records; or
-- the device failed; or there was a fault, or the input ended inside a record.
abbrev pub Pulls : ReaderState → ReaderState → Option (List ℕ) → Option (List ℕ) → Result Pulled PullFault → Type 0
Pulls old new left rest (Ok (Bytes n)) = (bytes : List ℕ) × (length bytes ≡ n) × (new ≡ holds_more old bytes) × Consumes left rest bytes × ((IsReady old.direction old.held × (n ≡ 0)) ⊎ (IsOpen old × (0 < n)))
Pulls old new left rest (Ok End) = (old.held ≡ []) × IsOpen old × (new ≡ old) × Keeps left rest × IsAtEnd rest
Pulls old new left rest (Err Device) = IsOpen old × (new ≡ old) × Keeps left rest
Pulls old new left rest (Err (Link fault)) = HasFault new fault × (new.held ≡ old.held) × Keeps left rest × ((HasFault old fault × (new ≡ old)) ⊎ (IsOpen old × IsAtEnd rest))

-- The device's failure count increases by one exactly when a pull returns that the device failed.
abbrev pub CountsDevice : ℕ → ℕ → Result Pulled PullFault → Type 0
CountsDevice old new (Err Device) = new ≡ (old + 1) % 2 ^ 64
CountsDevice old new _ = new ≡ old
