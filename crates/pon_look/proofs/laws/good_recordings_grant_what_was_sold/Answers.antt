use Rattle.pon_sold.proofs.Granting.{got_of_port}
use Rattle.pon_look.specs.Sold.{chapters_of}
use Rattle.pon_look.proofs.Sold.{of_port}
use Rattle.pon_look.proofs.laws.good_recordings_grant_what_was_sold.Goals as goal

pub returns : goal.returns
returns c = λ bytes maps v port first last i. got_of_port first last i (chapters_of port v.0) (of_port port v.0 v.2.good.each v.2.good.chained)
