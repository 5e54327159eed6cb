use Rattle.pon_plant.proofs.OneHistory.{no_such_port}
use Rattle.pon_plant.proofs.laws.no_such_port_exactly_if_there_is_none.Goals as goal

pub returns : goal.returns
returns c = λ old new steps answers k step answer ran at told. no_such_port old new steps answers k step answer ran at told
