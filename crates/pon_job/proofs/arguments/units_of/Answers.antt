use Rattle.std.proofs.Common.{◌∙◌, refl, rules, sym, codes}
use Rattle.clap.specs.Matches.{found_of}
use Rattle.clap.specs.Walk.{rows_of}
use Rattle.clap.proofs.WalkLemmas.{first_value-rows}
use Rattle.pon_job.proofs.UnitsValues.{without_port, without_rows, without_terminal, without_wait}
use Rattle.pon_job.proofs.arguments.units_of.Goals as goal

pub returns-in_err-config-clause-none : goal.returns-in_err-config-clause-none
returns-in_err-config-clause-none c =
    let none = without_rows (rows_of (found_of c.args.found.now)) (c.in_err-config.ensures ∙ first_value-rows (found_of c.args.found.now) (codes "config")) in
    λ _. none

pub returns-in_err-connect-clause-none : goal.returns-in_err-connect-clause-none
returns-in_err-connect-clause-none c =
    let none = without_terminal (rows_of (found_of c.args.found.now)) (c.in_err-connect.ensures ∙ first_value-rows (found_of c.args.found.now) (codes "connect")) in
    λ _. none

pub returns-in_err-port-clause-none : goal.returns-in_err-port-clause-none
returns-in_err-port-clause-none c =
    let none = without_port (rows_of (found_of c.args.found.now)) (c.in_err-port.ensures.none (search rules)) in
    λ _. none

pub returns-in_err-wait-clause-none : goal.returns-in_err-wait-clause-none
returns-in_err-wait-clause-none c =
    let none = without_wait (rows_of (found_of c.args.found.now)) (c.in_err-wait.ensures.none (search rules)) in
    λ _. none

pub returns-clause-some : goal.returns-clause-some
returns-clause-some c =
    let f = found_of c.args.found.now in (
      refl,
      record {
        settings = sym (c.in_ok-config.ensures ∙ first_value-rows f (codes "config"));
        terminal = sym (c.in_ok-connect.ensures ∙ first_value-rows f (codes "connect"));
        selection = c.in_ok-port.ensures.some;
        waiting = c.in_ok-wait.ensures.some;
      },
    )
