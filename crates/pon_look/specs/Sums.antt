-- What the maps of a chapter add up to for an Alloc-ID.
use Rattle.std.specs.Prelude.{ℕ, zero, suc, ◌&&◌, nat_le, Bool, if◌then◌else◌, slice_get, Option, Some, None}
use Rattle.pon_state.specs.State.{State}
use Rattle.pon_state.specs.Entry.{Entry}
use Rattle.pon_state.specs.declared.reply.Reply.{Reply}
use Rattle.pon_state.specs.declared.reply.Reply.TheVariants.{Taken, Map}
use Rattle.pon_history.specs.Chapters.{Chapter, state_before}
use Rattle.pon_why.specs.Rates.{rates_of}
use Rattle.pon_why.specs.Sums.{amounts_in, no_sums, plus}
use Rattle.pon_why.specs.declared.sums.Sums.{Sums}
use Rattle.pon_look.specs.declared.frame_range.FrameRange.{FrameRange}

-- a frame of the range
abbrev pub is_within : FrameRange → ℕ → Bool
is_within range frame = nat_le range.first frame && nat_le frame range.last

-- what an entry adds for an Alloc-ID, in the state before it: the amounts of its map, if its frame is in the range
abbrev pub amounts_in_reply : FrameRange → ℕ → State → Reply → Sums
amounts_in_reply range i s Taken = no_sums
amounts_in_reply range i s (Map made) = if is_within range made.frame then amounts_in i (rates_of s made.cert) made.map else no_sums

abbrev pub amounts_in_entry : FrameRange → ℕ → State → Option Entry → Sums
amounts_in_entry range i s None = no_sums
amounts_in_entry range i s (Some e) = amounts_in_reply range i s e.reply

-- the sums of an Alloc-ID over the first `n` entries of a chapter
abbrev pub sums_of : FrameRange → ℕ → Chapter → ℕ → Sums
sums_of range i c zero = no_sums
sums_of range i c (suc n) = plus (sums_of range i c n) (amounts_in_entry range i (state_before c n) (slice_get c.entries n))
