use Rattle.pon_laws.proofs.MoreReported.{never_less}
use Rattle.pon_laws.proofs.shares.to_report_more_never_gives_less.Goals as goal

pub returns : goal.returns
returns c = never_less
