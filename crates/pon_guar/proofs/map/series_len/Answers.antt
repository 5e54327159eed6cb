use Rattle.std.proofs.Common.{not}
use Rattle.std.specs.Prelude.{◌==◌}
use Rattle.pon_lists.proofs.Lists.{position-None_or_len}
use Rattle.pon_guar.proofs.map.series_len.Goals as goal

pub returns-in-None-clause-len : goal.returns-in-None-clause-len
returns-in-None-clause-len c = position-None_or_len (λ g. not (g.onu == c.args.onu)) c.args.grants.now c.first_other.result c.first_other.ensures c.in-None.is
