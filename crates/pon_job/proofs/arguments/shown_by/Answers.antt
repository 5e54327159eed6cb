use Rattle.std.proofs.Common.{◌≡◌, ◌∙◌, Some, None, ap, refl, subst, sym, codes}
use Rattle.std.specs.Prelude.{length, map}
use Rattle.clap.specs.Matches.{found_of}
use Rattle.clap.specs.Walk.{all_of, rows_of}
use Rattle.clap.proofs.WalkLemmas.{first_value-rows, raw_values-rows}
use Rattle.pon_job.specs.Jobs.{AreJoinedOrOne, IsFormat}
use Rattle.pon_job.proofs.Views.{without_flag, without_format, without_part, without_recordings}
use Rattle.pon_job.proofs.arguments.shown_by.Goals as goal

pub returns-in-None-clause-none : goal.returns-in-None-clause-none
returns-in-None-clause-none c =
    let f = found_of c.args.found.now in
    let none = without_recordings c.args.view (rows_of f) (c.in-None.ensures ∙ raw_values-rows f (codes "file")) in
    λ _. none

pub returns-then-not-are_joined_or_one-clause-none : goal.returns-then-not-are_joined_or_one-clause-none
returns-then-not-are_joined_or_one-clause-none c =
    let f = found_of c.args.found.now in
    let none = without_flag c.args.view (rows_of f) c.in-Some.names.now c.is_given-joined.result (c.in-Some.ensures ∙ raw_values-rows f (codes "file")) c.is_given-joined.ensures
    (λ is. absurd (cc (c.are_joined_or_one.ensures.1 is, c.if-not-are_joined_or_one.true))) in
    λ _. none

pub returns-in-None-part_of-clause-none : goal.returns-in-None-part_of-clause-none
returns-in-None-part_of-clause-none c =
    let none = without_part c.args.view (rows_of (found_of c.args.found.now)) (c.in-None-part_of.ensures.none refl) in
    λ _. none

pub returns-in-None-is_json-clause-none : goal.returns-in-None-is_json-clause-none
returns-in-None-is_json-clause-none c =
    let f = found_of c.args.found.now in
    let none = without_format c.args.view (rows_of f) (λ json is. c.in-None-is_json.ensures.none refl json (subst (λ o. IsFormat o json) (sym (c.get_str-format.ensures ∙ first_value-rows f (codes "format"))) is)) in
    λ _. none

pub returns-clause-some : goal.returns-clause-some
returns-clause-some c =
    let f = found_of c.args.found.now in (
      refl,
      record {
        recordings = sym (c.in-Some.ensures ∙ raw_values-rows f (codes "file")) ∙ ap (λ xs. Some (map (λ v. v.now) xs)) (sym c.in_ok-files.ensures);
        joins = c.is_given-joined.ensures;
        one = subst (λ xs. AreJoinedOrOne c.is_given-joined.result (length xs)) (sym c.in_ok-files.ensures) (c.are_joined_or_one.ensures.0 c.if-not-are_joined_or_one.false);
        selection = c.in-Some-part_of.ensures.some;
        picture = sym (c.get_str-svg.ensures ∙ first_value-rows f (codes "svg"));
        keeps = c.is_given-no_clobber.ensures;
        format = subst (λ o. IsFormat o c.in-Some-is_json.json) (c.get_str-format.ensures ∙ first_value-rows f (codes "format")) c.in-Some-is_json.ensures.some;
      },
    )
