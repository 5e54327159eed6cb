use Rattle.std.proofs.Common.{◌∙◌, sym, codes}
use Rattle.std.proofs.lemmas.Slice.Eq.{bytes_eq-Decides}
use Rattle.clap.specs.Matches.{found_of}
use Rattle.clap.specs.Walk.{rows_of}
use Rattle.clap.proofs.WalkLemmas.{first_value-rows}
use Rattle.pon_job.proofs.Subcommands.{no_check}
use Rattle.pon_job.proofs.arguments.other_job_of.Goals as goal

pub returns-in_err-file-clause-none : goal.returns-in_err-file-clause-none
returns-in_err-file-clause-none c =
    let f = found_of c.args.found.now in
    let word = (bytes_eq-Decides _ (codes "check")).0 (sym c.eq-2.ensures ∙ c.if-eq-2.true) in
    let none = no_check _ (rows_of f) word (c.in_err-file.ensures ∙ first_value-rows f (codes "file")) in
    λ _ _ _. none

pub returns-then-eq-2-clause-some : goal.returns-then-eq-2-clause-some
returns-then-eq-2-clause-some c =
    let word = (bytes_eq-Decides _ (codes "check")).0 (sym c.eq-2.ensures ∙ c.if-eq-2.true) in
    (word, sym (c.in_ok-file.ensures ∙ first_value-rows (found_of c.args.found.now) (codes "file")))
