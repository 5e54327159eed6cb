-- The numbers of the segments of a recording.
use Rattle.std.specs.Prelude.{ℕ, ◌+◌, ◌-◌, ◌==◌, Bool, if◌then◌else◌, max, length, List, take, Option, Some, None}
use Rattle.pon_files.specs.declared.segment_numbers.SegmentNumbers.{SegmentNumbers}

-- the number after the greatest one
abbrev pub number_after : Option ℕ → ℕ
number_after None = 0
number_after (Some greatest) = greatest + 1

-- the first number that no segment with a chapter has, after a segment with a chapter or without
abbrev pub next_free : SegmentNumbers → Bool → ℕ
next_free n has_chapters = if has_chapters then n.present + 1 else n.free

-- the number of the next segment: the first free one, or the one after it while a segment without a chapter has that
abbrev pub next_present : SegmentNumbers → Bool → ℕ
next_present n has_chapters = if has_chapters then n.present + 1 else (if n.present == n.free then n.free + 1 else n.free)

-- the numbers beyond the newest `keep`, which are at least one, of rising numbers
abbrev pub oldest_beyond : List ℕ → ℕ → List ℕ
oldest_beyond rising keep = take (length rising - max keep 1) rising
