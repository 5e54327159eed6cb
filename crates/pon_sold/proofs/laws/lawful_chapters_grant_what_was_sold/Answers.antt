use Rattle.pon_sold.proofs.Granting.{got_all}
use Rattle.pon_sold.proofs.laws.lawful_chapters_grant_what_was_sold.Goals as goal

pub returns : goal.returns
returns c = got_all
