use Rattle.pon_plant.proofs.Interleaving.{one_more}
use Rattle.pon_plant.proofs.laws.runs_go_step_by_step.Goals as goal

pub returns-clause-one_more : goal.returns-clause-one_more
returns-clause-one_more c = λ old mid steps answers step answer ran told. one_more old mid steps answers step answer ran told
