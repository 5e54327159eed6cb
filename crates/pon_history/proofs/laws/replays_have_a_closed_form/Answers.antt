use Rattle.pon_history.proofs.ClosedForms.{closed_at_present}
use Rattle.pon_history.proofs.laws.replays_have_a_closed_form.Goals as goal

pub returns : goal.returns
returns c = closed_at_present
