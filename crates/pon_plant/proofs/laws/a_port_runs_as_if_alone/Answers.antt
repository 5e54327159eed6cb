use Rattle.pon_plant.proofs.Alone.{runs_alone}
use Rattle.pon_plant.proofs.laws.a_port_runs_as_if_alone.Goals as goal

pub returns : goal.returns
returns c = λ old new steps answers port d ran found. runs_alone old new steps answers port d ran found
