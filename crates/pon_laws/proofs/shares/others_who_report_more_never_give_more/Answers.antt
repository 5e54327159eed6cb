use Rattle.pon_laws.proofs.OthersReport.{never_more}
use Rattle.pon_laws.proofs.shares.others_who_report_more_never_give_more.Goals as goal

pub returns : goal.returns
returns c = never_more
