use Rattle.pon_record.proofs.RuleLimits.{keeps_limits}
use Rattle.pon_record.proofs.laws.chapters_keep_the_limits_of_their_rule.Goals as goal

pub returns : goal.returns
returns c = keeps_limits
