use Rattle.std.proofs.Common.{rules}
use Rattle.pon_guar.proofs.Polls.{all_below}
use Rattle.pon_guar.proofs.map.are_below.Goals as goal

pub returns-in-Some : goal.returns-in-Some
returns-in-Some c less = all_below c.args.onu _ c.args.onus.now _ c.requires c.in-Some.ensures.cases.0 (search rules)
