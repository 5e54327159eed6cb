use Rattle.pon_state.proofs.Replays.{replay_push}
use Rattle.pon_history.proofs.laws.replay_goes_entry_by_entry.Goals as goal

pub returns : goal.returns
returns c = λ d e. replay_push d.opening d.entries e
