use Rattle.std.proofs.Common.{◌∙◌, refl, sym, codes}
use Rattle.clap.specs.Matches.{found_of}
use Rattle.clap.specs.Walk.{rows_of}
use Rattle.clap.proofs.WalkLemmas.{first_value-rows}
use Rattle.pon_job.proofs.Migrations.{without_file, without_out}
use Rattle.pon_job.proofs.arguments.migration_of.Goals as goal

pub returns-in_err-file-clause-none : goal.returns-in_err-file-clause-none
returns-in_err-file-clause-none c =
    let none = without_file (rows_of (found_of c.args.found.now)) (c.in_err-file.ensures ∙ first_value-rows (found_of c.args.found.now) (codes "file")) in
    λ _. none

pub returns-in_err-out-clause-none : goal.returns-in_err-out-clause-none
returns-in_err-out-clause-none c =
    let none = without_out (rows_of (found_of c.args.found.now)) (c.in_err-out.ensures ∙ first_value-rows (found_of c.args.found.now) (codes "out")) in
    λ _. none

pub returns-clause-some : goal.returns-clause-some
returns-clause-some c =
    let f = found_of c.args.found.now in (
      refl,
      record {
        recording = sym (c.in_ok-file.ensures ∙ first_value-rows f (codes "file"));
        written = sym (c.in_ok-out.ensures ∙ first_value-rows f (codes "out"));
        keeps = c.is_given-no_clobber.ensures;
      },
    )
