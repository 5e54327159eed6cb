use Rattle.pon_hec.proofs.Opening.{rest_by_check}
use Rattle.pon_hec.proofs.open.rest_of.Goals as goal

pub returns : goal.returns
returns c = rest_by_check c.args.word c.check_bits.result c.ranges.word.fits c.check_bits.ensures
