use Rattle.std.proofs.Common.{◌∙◌, sym, subst}
use Rattle.std.specs.Prelude.{IsSomeAnd}
use Rattle.clap.specs.Matches.{found_of}
use Rattle.clap.specs.Walk.{rows_of}
use Rattle.clap.proofs.WalkLemmas.{first_value-rows}
use Rattle.pon_job.specs.Jobs.{Spells}
use Rattle.pon_job.proofs.Runs.{choice_refused}
use Rattle.pon_job.proofs.arguments.chosen.Goals as goal

pub returns-in_err-number_in-in-Some-clause-none : goal.returns-in_err-number_in-in-Some-clause-none
returns-in_err-number_in-in-Some-clause-none c =
    let found = found_of c.args.found.now in
    let none = choice_refused c.args.id.now c.args.low c.args.high (rows_of found) c.in-Some.text.now (c.in-Some.ensures ∙ first_value-rows found c.args.id.now) c.in_err-number_in-in-Some.ensures in
    λ _. none

pub returns-in-None-clause-some : goal.returns-in-None-clause-some
returns-in-None-clause-some c = sym (c.in-None.ensures ∙ first_value-rows (found_of c.args.found.now) c.args.id.now)

pub returns-in_ok-number_in-in-Some-clause-some : goal.returns-in_ok-number_in-in-Some-clause-some
returns-in_ok-number_in-in-Some-clause-some c =
    let found = found_of c.args.found.now in
    subst (λ o. IsSomeAnd o (λ t. Spells c.args.low c.args.high t c.in_ok-number_in-in-Some.field-0)) (c.in-Some.ensures ∙ first_value-rows found c.args.id.now) c.in_ok-number_in-in-Some.ensures
