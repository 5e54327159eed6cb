use Rattle.std.proofs.Common.{rules}
use Rattle.std.proofs.lemmas.Result.{err_from_is_err_and}
use Rattle.pon_job.proofs.Subcommands.{clap_refuses, job_in, no_job_in}
use Rattle.pon_job.proofs.arguments.job.Goals as goal

pub returns-in_err-matches-clause-refused : goal.returns-in_err-matches-clause-refused
returns-in_err-matches-clause-refused c =
    let p = err_from_is_err_and c.from_residual-in_err-matches.result c.from_residual-in_err-matches.ensures.1 in
    rw (p.1, p.2) (clap_refuses _ _ c.in_err-matches.field-0.0 c.in_ok-command.ensures c.in_err-matches.ensures.kinds)

pub returns-clause-refused : goal.returns-clause-refused
returns-clause-refused c =
    no_job_in _ _ c.in_ok-matches.matches c.in_ok-error.field-0 c.in_ok-command.ensures c.in_ok-error.ensures.kind c.in_ok-matches.ensures.kinds c.in_ok-matches.ensures.ok.2 (c.in_ok-job.ensures.none (search rules))

pub returns-in-Some-clause-job : goal.returns-in-Some-clause-job
returns-in-Some-clause-job c =
    job_in _ _ c.in_ok-matches.matches c.in-Some.job c.in_ok-command.ensures c.in_ok-matches.ensures.ok.2 (search rules)
