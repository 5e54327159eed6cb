use Rattle.pon_check_file.proofs.UnfitLines.{first_unfit}
use Rattle.pon_check_file.proofs.laws.first_unfit_line.Goals as goal

pub returns : goal.returns
returns c = first_unfit
