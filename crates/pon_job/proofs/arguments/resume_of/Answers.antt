use Rattle.std.proofs.Common.{◌∙◌, sym, codes}
use Rattle.clap.specs.Matches.{found_of}
use Rattle.clap.proofs.WalkLemmas.{first_value-rows}
use Rattle.pon_job.proofs.arguments.resume_of.Goals as goal

pub returns : goal.returns
returns c = record {
  recording = sym (c.get_str-from.ensures ∙ first_value-rows (found_of c.args.found.now) (codes "resume"));
  cut = c.is_given-truncated.ensures;
  keeps = c.is_given-warm.ensures;
  changes = c.is_given-apply.ensures;
}
