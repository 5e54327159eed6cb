use Rattle.std.proofs.Common.{refl, rules}
use Rattle.clap.specs.Matches.{found_of}
use Rattle.clap.specs.Walk.{rows_of}
use Rattle.pon_job.proofs.Controls.{no_operate}
use Rattle.pon_job.proofs.arguments.operate_of.Goals as goal

pub returns-in_err-place_of-clause-none : goal.returns-in_err-place_of-clause-none
returns-in_err-place_of-clause-none c =
    let none = no_operate (rows_of (found_of c.args.found.now)) (c.in_err-place_of.ensures.none (search rules)) in
    λ _. none
