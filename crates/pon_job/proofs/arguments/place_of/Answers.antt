use Rattle.std.proofs.Common.{◌∙◌, codes, sym}
use Rattle.clap.specs.Matches.{found_of}
use Rattle.clap.specs.Walk.{rows_of}
use Rattle.clap.proofs.WalkLemmas.{first_value-rows}
use Rattle.pon_job.proofs.Controls.{neither, not_both}
use Rattle.pon_job.proofs.arguments.place_of.Goals as goal

pub returns-in-Some-get_str-clause-none : goal.returns-in-Some-get_str-clause-none
returns-in-Some-get_str-clause-none c =
    let f = found_of c.args.found.now in
    λ _. not_both (rows_of f) _ _ (c.in-Some.ensures ∙ first_value-rows f (codes "control")) (c.in-Some-get_str.ensures ∙ first_value-rows f (codes "control-tcp"))

pub returns-in-None-get_str-clause-some : goal.returns-in-None-get_str-clause-some
returns-in-None-get_str-clause-some c =
    let f = found_of c.args.found.now in (
      sym (c.in-Some.ensures ∙ first_value-rows f (codes "control")),
      sym (c.in-None-get_str.ensures ∙ first_value-rows f (codes "control-tcp")),
    )

pub returns-in_err-get_str-in-None-clause-none : goal.returns-in_err-get_str-in-None-clause-none
returns-in_err-get_str-in-None-clause-none c =
    let f = found_of c.args.found.now in
    λ _. neither (rows_of f) (c.in-None.ensures ∙ first_value-rows f (codes "control")) (c.in_err-get_str-in-None.ensures ∙ first_value-rows f (codes "control-tcp"))

pub returns-in_ok-get_str-in-None-clause-some : goal.returns-in_ok-get_str-in-None-clause-some
returns-in_ok-get_str-in-None-clause-some c =
    let f = found_of c.args.found.now in (
      sym (c.in_ok-get_str-in-None.ensures ∙ first_value-rows f (codes "control-tcp")),
      sym (c.in-None.ensures ∙ first_value-rows f (codes "control")),
    )
