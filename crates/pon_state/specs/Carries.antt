-- The carries that a reply leaves.
use Rattle.std.specs.Prelude.{ℕ, List}
use Rattle.pon_demand.specs.Rates.{carried}
use Rattle.pon_demand.specs.Sharing.{surplus_rate}
use Rattle.pon_state.specs.State.{State, carry_at, input_of}
use Rattle.pon_state.specs.declared.reply.Reply.{Reply}
use Rattle.pon_state.specs.declared.reply.Reply.TheVariants.{Taken, Map}

-- the carries after a reply: a map leaves new ones
abbrev pub carries_left : State → Reply → List ℕ
carries_left s Taken = s.carries
carries_left s (Map made) = carried (input_of s) (surplus_rate (input_of s) made.cert) (carry_at s)
