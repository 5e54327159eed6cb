use Rattle.std.proofs.Common.{◌∙◌, refl, rules, sym, codes}
use Rattle.clap.specs.Matches.{found_of}
use Rattle.clap.specs.Walk.{rows_of}
use Rattle.clap.proofs.WalkLemmas.{first_value-rows}
use Rattle.pon_job.proofs.Lines.{without_period}
use Rattle.pon_job.proofs.arguments.plan_of.Goals as goal

pub returns-in_err-flush-clause-none : goal.returns-in_err-flush-clause-none
returns-in_err-flush-clause-none c =
    let none = without_period (rows_of (found_of c.args.found.now)) (c.in_err-flush.ensures.none (search rules)) in
    λ _. none

pub returns-clause-some : goal.returns-clause-some
returns-clause-some c =
    let f = found_of c.args.found.now in (
      refl,
      record {
        settings = sym (c.get_str-settings.ensures ∙ first_value-rows f (codes "config"));
        strict = c.is_given-strict.ensures;
        verbose = c.is_given-verbose.ensures;
        recording_file = sym (c.get_str-recording.ensures ∙ first_value-rows f (codes "record"));
        keeps = c.is_given-keeps.ensures;
        forgets = c.is_given-forget.ensures;
        flushes = c.in_ok-flush.ensures.some;
      },
    )
