use Rattle.std.proofs.Common.{◌∙◌, refl, rules, sym, codes}
use Rattle.clap.specs.Matches.{found_of}
use Rattle.clap.specs.Walk.{rows_of}
use Rattle.clap.proofs.WalkLemmas.{first_value-rows}
use Rattle.pon_job.proofs.Runs.{without_address, without_control, without_flush, without_meeting, without_number, without_segments, without_settings}
use Rattle.pon_job.proofs.arguments.run_of.Goals as goal

pub returns-in_err-config-clause-none : goal.returns-in_err-config-clause-none
returns-in_err-config-clause-none c =
    let none = without_settings (rows_of (found_of c.args.found.now)) (c.in_err-config.ensures ∙ first_value-rows (found_of c.args.found.now) (codes "config")) in
    λ _. none

pub returns-in_err-listen-clause-none : goal.returns-in_err-listen-clause-none
returns-in_err-listen-clause-none c =
    let none = without_address (rows_of (found_of c.args.found.now)) (c.in_err-listen.ensures ∙ first_value-rows (found_of c.args.found.now) (codes "listen")) in
    λ _. none

pub returns-in_err-maps-clause-none : goal.returns-in_err-maps-clause-none
returns-in_err-maps-clause-none c =
    let none = without_number (rows_of (found_of c.args.found.now)) (c.in_err-maps.ensures.none (search rules)) in
    λ _. none

pub returns-in_err-meeting-clause-none : goal.returns-in_err-meeting-clause-none
returns-in_err-meeting-clause-none c =
    let none = without_meeting (rows_of (found_of c.args.found.now)) (c.in_err-meeting.ensures.none (search rules)) in
    λ _. none

pub returns-in_err-segments-clause-none : goal.returns-in_err-segments-clause-none
returns-in_err-segments-clause-none c =
    let none = without_segments (rows_of (found_of c.args.found.now)) (c.in_err-segments.ensures.none (search rules)) in
    λ _. none

pub returns-in_err-flush-clause-none : goal.returns-in_err-flush-clause-none
returns-in_err-flush-clause-none c =
    let none = without_flush (rows_of (found_of c.args.found.now)) (c.in_err-flush.ensures.none (search rules)) in
    λ _. none

pub returns-in_err-control-clause-none : goal.returns-in_err-control-clause-none
returns-in_err-control-clause-none c =
    let none = without_control (rows_of (found_of c.args.found.now)) (c.in_err-control.ensures.none (search rules)) in
    λ _. none

pub returns-clause-some : goal.returns-clause-some
returns-clause-some c =
    let f = found_of c.args.found.now in (
      refl,
      record {
        settings = sym (c.in_ok-config.ensures ∙ first_value-rows f (codes "config"));
        address = sym (c.in_ok-listen.ensures ∙ first_value-rows f (codes "listen"));
        number = c.in_ok-maps.ensures.some;
        recording_file = sym (c.get_str-record.ensures ∙ first_value-rows f (codes "record"));
        segmented = c.in_ok-segments.ensures.some;
        resumed = c.resume_of-resume.ensures;
        operator = sym (c.get_str-operate.ensures ∙ first_value-rows f (codes "operate"));
        controlled = c.in_ok-control.ensures.some;
        keeps = c.is_given-no_clobber.ensures;
        strict = c.is_given-strict_record.ensures;
        flushes = c.in_ok-flush.ensures.some;
        settles = c.is_given-settle.ensures;
        meets = c.in_ok-meeting.ensures.some;
        follows = c.is_given-progress.ensures;
        sums = c.is_given-summary.ensures;
        shows = sym (c.get_str-metrics.ensures ∙ first_value-rows f (codes "metrics"));
      },
    )
