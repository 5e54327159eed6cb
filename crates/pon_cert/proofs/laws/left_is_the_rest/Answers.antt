use Rattle.pon_cert.proofs.LeftSurplus.{left_rest}
use Rattle.pon_cert.proofs.laws.left_is_the_rest.Goals as goal

pub returns : goal.returns
returns c items surplus cert is = left_rest items surplus cert.level cert.saturated is
