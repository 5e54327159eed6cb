use Rattle.pon_manage.proofs.OneOutput.{one_output}
use Rattle.pon_manage.proofs.laws.one_output.Goals as goal

pub returns : goal.returns
returns c = one_output
