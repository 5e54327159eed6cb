use Rattle.pon_line.proofs.LongLines.{read_line-take}
use Rattle.pon_line.proofs.reading.long_lines.Goals as goal

pub returns : goal.returns
returns c = read_line-take
