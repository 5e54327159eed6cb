-- The frame of a map.
use Rattle.std.specs.Prelude.{ℕ, Option, Some, None}
use Rattle.pon_state.specs.declared.reply.Reply.{Reply}
use Rattle.pon_state.specs.declared.reply.Reply.TheVariants.{Taken, Map}

-- the frame of the map of a reply
abbrev pub frame_of : Reply → Option ℕ
frame_of Taken = None
frame_of (Map made) = Some made.frame
