use Rattle.std.proofs.Common.{◌∙◌, ap, rules, set, sym}
use Rattle.pon_guar.specs.Reports.{taking}
use Rattle.pon_guar.proofs.Accounts.{change_absent, change_at}
use Rattle.pon_guar.proofs.TakenReports.{taking_keeps}
use Rattle.pon_guar.proofs.counting.count.Goals as goal

pub returns-in-Some : goal.returns-in-Some
returns-in-Some c =
    ap (set c.args.accounts.now c.in-Some.place) (c.with_report.ensures ∙ ap (taking c.args.report) c.index-accounts-place.is)
    ∙ change_at (taking c.args.report) (taking_keeps c.args.report) c.args.alloc_id c.args.accounts.now c.in-Some.place c.index-accounts-place.result c.requires (search rules)

pub returns-in-None : goal.returns-in-None
returns-in-None c = sym (change_absent (taking c.args.report) c.args.alloc_id c.args.accounts.now (search rules))
