use Rattle.std.proofs.Common.{◌≡◌, ◌∙◌, Some, None, ap, refl, subst, sym, codes}
use Rattle.std.specs.Prelude.{map}
use Rattle.clap.specs.Matches.{found_of}
use Rattle.clap.specs.Walk.{all_of, rows_of}
use Rattle.clap.proofs.WalkLemmas.{first_value-rows, raw_values-rows}
use Rattle.pon_job.specs.Jobs.{IsFormat}
use Rattle.pon_job.proofs.Subcommands.{no_audit}
use Rattle.pon_job.proofs.arguments.audit_of.Goals as goal

pub returns-in-None-clause-none : goal.returns-in-None-clause-none
returns-in-None-clause-none c =
    let f = found_of c.args.found.now in
    let missing : None ≡ all_of (codes "file") (rows_of f) = c.in-None.ensures ∙ raw_values-rows f (codes "file") in
    let none = no_audit (rows_of f) (λ audit is. absurd (cc (missing, is.recordings))) in
    λ _. none

pub returns-in-None-is_json-clause-none : goal.returns-in-None-is_json-clause-none
returns-in-None-is_json-clause-none c =
    let f = found_of c.args.found.now in
    let none = no_audit (rows_of f) (λ audit is. c.in-None-is_json.ensures.none refl audit.json (subst (λ o. IsFormat o audit.json) (sym (c.get_str-format.ensures ∙ first_value-rows f (codes "format"))) is.format)) in
    λ _. none

pub returns-clause-some : goal.returns-clause-some
returns-clause-some c =
    let f = found_of c.args.found.now in (
      refl,
      record {
        recordings = sym (c.in-Some.ensures ∙ raw_values-rows f (codes "file")) ∙ ap (λ xs. Some (map (λ v. v.now) xs)) (sym c.in_ok-files.ensures);
        format = subst (λ o. IsFormat o c.in-Some-is_json.json) (c.get_str-format.ensures ∙ first_value-rows f (codes "format")) c.in-Some-is_json.ensures.some;
        whole = c.is_given-complete.ensures;
        joins = c.is_given-joined.ensures;
      },
    )
