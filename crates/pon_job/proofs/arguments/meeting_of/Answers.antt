use Rattle.std.proofs.Common.{◌∙◌, rules, subst, sym, codes}
use Rattle.clap.specs.Matches.{found_of}
use Rattle.clap.proofs.WalkLemmas.{first_value-rows}
use Rattle.pon_job.specs.Jobs.{IsPlace}
use Rattle.pon_job.proofs.arguments.meeting_of.Goals as goal

pub returns-in_err-external-clause-none : goal.returns-in_err-external-clause-none
returns-in_err-external-clause-none c =
    let f = found_of c.args.found.now in
    λ _ meeting is. c.in_err-external.ensures.none (search rules) meeting.external (subst (λ o. IsPlace o meeting.external) (sym (c.get_str-place.ensures ∙ first_value-rows f (codes "units"))) is.place)

pub returns-clause-some : goal.returns-clause-some
returns-clause-some c =
    let f = found_of c.args.found.now in record {
      place = subst (λ o. IsPlace o c.in_ok-external.external) (c.get_str-place.ensures ∙ first_value-rows f (codes "units")) c.in_ok-external.ensures.some;
      once = c.is_given-once.ensures;
      grows = c.is_given-grow.ensures;
      waiting = c.in_ok-wait.ensures.some;
      speed = c.in_ok-pace.ensures.some;
    }
