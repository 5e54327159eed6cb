use Rattle.std.proofs.Common.{◌∙◌, ap}
use Rattle.clap.specs.Simple.{app_of_fields, new_app}
use Rattle.pon_job.proofs.Builders.{with_args}
use Rattle.pon_job.proofs.commands.command.Goals as goal

pub returns : goal.returns
returns c =
    with_args (new_app c.args.name.now) _ _ _ (record {
      definition = ap app_of_fields c.after_help.ensures ∙ ap app_of_fields c.about.ensures ∙ c.new.ensures.app;
      local = ap (λ f. f.has_globals) c.after_help.ensures ∙ ap (λ f. f.has_globals) c.about.ensures ∙ c.new.ensures.local;
    }) c.requires c.args-2.ensures
