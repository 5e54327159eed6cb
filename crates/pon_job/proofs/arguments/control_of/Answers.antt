use Rattle.std.proofs.Common.{◌∙◌, rules, sym, codes}
use Rattle.clap.specs.Matches.{found_of}
use Rattle.clap.proofs.WalkLemmas.{first_value-rows}
use Rattle.pon_job.proofs.arguments.control_of.Goals as goal

pub returns-in_err-operators-clause-none : goal.returns-in_err-operators-clause-none
returns-in_err-operators-clause-none c = λ _ control is. c.in_err-operators.ensures.none (search rules) control.operators is.seats

pub returns-clause-some : goal.returns-clause-some
returns-clause-some c =
    let f = found_of c.args.found.now in record {
      path = sym (c.get_str-path.ensures ∙ first_value-rows f (codes "control"));
      address = sym (c.get_str-tcp.ensures ∙ first_value-rows f (codes "control-tcp"));
      seats = c.in_ok-operators.ensures.some;
    }
