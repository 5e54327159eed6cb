use Rattle.pon_guar.proofs.AccountReports.{account_by_account}
use Rattle.pon_guar.proofs.laws.reports_go_account_by_account.Goals as goal

pub returns : goal.returns
returns c = account_by_account
