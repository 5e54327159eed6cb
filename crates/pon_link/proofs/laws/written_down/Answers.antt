use Rattle.pon_link.proofs.WrittenDown.{written_down}
use Rattle.pon_link.proofs.laws.written_down.Goals as goal

pub returns : goal.returns
returns c = written_down
