use Rattle.pon_record.proofs.MovedBodies.{fits_two, no_carries, rule_is_one}
use Rattle.pon_record.proofs.laws.version_one_fits_version_two.Goals as goal

pub returns-clause-rule : goal.returns-clause-rule
returns-clause-rule c = rule_is_one

pub returns-clause-carries : goal.returns-clause-carries
returns-clause-carries c = no_carries

pub returns-clause-fits : goal.returns-clause-fits
returns-clause-fits c = fits_two
