use Rattle.std.proofs.Common.{refl, rules}
use Rattle.clap.specs.Matches.{found_of}
use Rattle.clap.specs.Walk.{rows_of}
use Rattle.pon_job.proofs.Controls.{no_stop}
use Rattle.pon_job.proofs.arguments.stop_of.Goals as goal

pub returns-in_err-place_of-clause-none : goal.returns-in_err-place_of-clause-none
returns-in_err-place_of-clause-none c =
    let none = no_stop (rows_of (found_of c.args.found.now)) (c.in_err-place_of.ensures.none (search rules)) in
    λ _. none
