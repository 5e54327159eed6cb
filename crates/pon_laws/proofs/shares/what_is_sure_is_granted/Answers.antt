use Rattle.pon_laws.proofs.SureNumbers.{sure_guaranteed, sure_rate}
use Rattle.pon_laws.proofs.shares.what_is_sure_is_granted.Goals as goal

pub returns : goal.returns
returns g = record {
  guaranteed = λ s r x k in_it is enough. sure_guaranteed s r x k in_it is enough;
  together = λ s cert class r x k c member in_it is enough. sure_rate s cert class r x k c member in_it is enough;
}
