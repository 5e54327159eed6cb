use Rattle.std.proofs.Common.{◌+◌}
use Rattle.pon_history.proofs.Legality.{legal_rest}
use Rattle.pon_state.proofs.Replays.{replay_append}
use Rattle.pon_history.proofs.laws.cutting.Goals as goal

pub returns : goal.returns
returns c = record { state = replay_append; rest = λ n o xs ys h. legal_rest n (n + 1) o xs ys h }
