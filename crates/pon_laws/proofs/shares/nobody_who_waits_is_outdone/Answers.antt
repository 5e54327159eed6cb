use Rattle.pon_laws.proofs.ClassParts.{no_more}
use Rattle.pon_laws.proofs.shares.nobody_who_waits_is_outdone.Goals as goal

pub returns : goal.returns
returns c = no_more
