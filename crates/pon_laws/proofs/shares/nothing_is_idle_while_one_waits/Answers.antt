use Rattle.pon_laws.proofs.ClassParts.{no_idle, served_or_assigned}
use Rattle.pon_laws.proofs.shares.nothing_is_idle_while_one_waits.Goals as goal

pub returns : goal.returns
returns c = record { either = served_or_assigned; waits = no_idle }
