-- Chapters: the port, the number, the opening and the entries, each with its reply.
use Rattle.std.specs.Prelude.{◌≡◌, ℕ, ◌+◌, ◌<◌, nat_lt, ◌==◌, List, [], ◌∷◌, drop, length, slice_index, take, Some}
use Rattle.std.specs.Int.{w8, w32, w64, from_be_bytes}
use Rattle.pon_lists.specs.OptionSteps.{◌>>=◌}
use Rattle.pon_admit.specs.declared.rule.Rule.{Rule}
use Rattle.pon_units.specs.declared.limits.TheConstants.{MAX_PORTS}
use Rattle.pon_admit.specs.declared.event.Event.{Event}
use Rattle.pon_admit.specs.declared.event.Event.TheVariants.{MakeMap}
use Rattle.pon_state.specs.declared.reply.Reply.{Reply}
use Rattle.pon_state.specs.declared.reply.Reply.TheVariants.{Taken, Map}
use Rattle.pon_state.specs.Entry.{Entry}
use Rattle.pon_state.specs.declared.checks.TheConstants.{MAX_ENTRIES}
use Rattle.pon_record.specs.declared.limits.TheConstants.{CHAPTER_TAG, HEAD_BYTES}
use Rattle.pon_record.specs.Format.{Format, ◌&◌, as_value, constant, counted, followed, number, only, sized, told_by}
use Rattle.pon_record.specs.declared.version.Version.{Version}
use Rattle.pon_record.specs.Fields.{rule_in}
use Rattle.pon_record.specs.Openings.{Opening, opening_in}
use Rattle.pon_record.specs.Events.{event}
use Rattle.pon_record.specs.MadeMaps.{made_map}

-- the reply to MakeMap is a map
abbrev pub MapFits : Reply → Type 0
MapFits Taken = ⊥
MapFits (Map m) = made_map.Fits m

abbrev pub map_bytes : Reply → List ℕ
map_bytes Taken = []
map_bytes (Map m) = made_map.write m

abbrev pub map_reply : Format Reply
map_reply = record { Fits = MapFits; write = map_bytes; read = λ bytes. made_map.read bytes >>= λ m. Some (Map m.0, m.1) }

-- the reply to any other event is not written
abbrev pub reply_to : Event → Format Reply
reply_to MakeMap = map_reply
reply_to _ = constant Taken

abbrev pub entry : Format Entry
entry = told_by (as_value (λ x. record { event = x.0; reply = x.1 })) (λ e. (e.event, e.reply)) (followed event reply_to)

abbrev pub port : Format ℕ
port = only (λ n. nat_lt n MAX_PORTS) (number w8)

-- a chapter of a port
pub record Body : Type 0 where
  pub port : ℕ
  pub number : ℕ
  pub opening : Opening
  pub entries : List Entry

-- the rule of the opening comes first
abbrev pub body_parts : Body → Rule × (ℕ × (ℕ × (Opening × List Entry)))
body_parts b = (b.opening.rule, (b.port, (b.number, (b.opening, b.entries))))

abbrev pub body_of : Rule × (ℕ × (ℕ × (Opening × List Entry))) → Body
body_of x = record { port = x.1.0; number = x.1.1.0; opening = x.1.1.1.0; entries = x.1.1.1.1 }

-- what follows the rule
abbrev pub body_under : Version → Rule → Format (ℕ × (ℕ × (Opening × List Entry)))
body_under v r = port & number w64 & opening_in v r & counted (number w32) MAX_ENTRIES entry

abbrev pub body_in : Version → Format Body
body_in v = told_by (as_value body_of) body_parts (followed (rule_in v) (body_under v))

-- the tag of a chapter, the number of bytes of its body, and the body
abbrev pub tagged_body_in : Version → Format (ℕ × Body)
tagged_body_in v = only (λ n. n == CHAPTER_TAG) (number w8) & sized w32 (body_in v)

abbrev pub chapter_bytes : Version → Body → List ℕ
chapter_bytes v b = (tagged_body_in v).write (CHAPTER_TAG, b)

-- the chapters that a version can represent
abbrev pub FitsChapter : Version → Body → Type 0
FitsChapter v b = (tagged_body_in v).Fits (CHAPTER_TAG, b)

-- a chapter, and the place of its first byte in the recording
pub record PlacedChapter : Type 0 where
  pub at : ℕ
  pub body : Body

-- chapters one after another, from a place on
abbrev pub placed : Version → ℕ → List Body → List PlacedChapter
placed v at [] = []
placed v at (b ∷ bs) = record { at = at; body = b } ∷ placed v (at + length (chapter_bytes v b)) bs

-- the number of bytes of the body: the 4 bytes after the tag
abbrev pub body_size : List ℕ → ℕ
body_size bytes = from_be_bytes w32 (take 4 (drop 1 bytes))

-- a chapter begins here and the bytes end inside it, whatever its body
pub record IsCutShort (bytes : List ℕ) : Type 0 where
  pub more : 0 < length bytes
  pub tag : slice_index bytes 0 ≡ CHAPTER_TAG
  pub ends : length bytes < HEAD_BYTES + body_size bytes
