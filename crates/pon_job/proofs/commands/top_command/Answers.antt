use Rattle.std.proofs.Common.{◌∙◌, ap, true}
use Rattle.clap.specs.Simple.{app_of_fields, on_top}
use Rattle.pon_job.proofs.commands.top_command.Goals as goal

pub returns : goal.returns
returns c =
    let bin = ap app_of_fields c.in_ok-bin_name.ensures.0 ∙ c.new.ensures.app in
    let ver = ap app_of_fields c.version.ensures ∙ ap (on_top (λ s. record s { has_version = true })) bin in
    let abt = ap app_of_fields c.about.ensures ∙ ver in
    let req = ap app_of_fields c.subcommand_required.ensures ∙ ap (on_top (λ s. record s { subcommand_required = true })) abt in
    ap app_of_fields c.arg_required_else_help.ensures ∙ ap (on_top (λ s. record s { arg_required_else_help = true })) req
