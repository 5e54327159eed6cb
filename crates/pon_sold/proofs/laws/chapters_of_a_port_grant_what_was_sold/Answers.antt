use Rattle.pon_sold.proofs.Granting.{got_of_port}
use Rattle.pon_sold.proofs.laws.chapters_of_a_port_grant_what_was_sold.Goals as goal

pub returns : goal.returns
returns c = λ first last cs h i. got_of_port first last i cs h
