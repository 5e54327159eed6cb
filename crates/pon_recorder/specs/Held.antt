-- What a device has of a recording.
use Rattle.std.specs.Prelude.{ℕ, ◌+◌, ◌-◌, ◌^◌, List, length, min, Bool, true, false}
use Rattle.pon_record.specs.Chapters.{Body, chapter_bytes}
use Rattle.pon_record.specs.declared.limits.TheConstants.{MAGIC_BYTES}
use Rattle.pon_record.specs.declared.version.Version.TheVariants as version
use Rattle.pon_recorder.specs.declared.held.Held.{Held}

-- the greatest number that is counted
abbrev pub most_held : ℕ
most_held = 2 ^ 64 - 1

-- a recording without a chapter: its magic bytes
abbrev pub nothing_held : Held
nothing_held = record { chapters = 0; bytes = MAGIC_BYTES }

-- one more chapter, of this number of bytes
abbrev pub one_more_held : Held → ℕ → Held
one_more_held held bytes = record { chapters = min (held.chapters + 1) most_held; bytes = min (held.bytes + bytes) most_held }

-- a chapter is held if it was taken whole
abbrev pub held_after : Held → Bool → Body → Held
held_after held true b = one_more_held held (length (chapter_bytes version.Two b))
held_after held false b = held
