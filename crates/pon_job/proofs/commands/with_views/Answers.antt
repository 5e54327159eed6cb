use Rattle.pon_job.proofs.Builders.{with_made}
use Rattle.pon_job.proofs.commands.with_views.Goals as goal

pub returns : goal.returns
returns c app is =
    let info = with_made _ _ _ _ _ is c.info_command.ensures c.with_subcommand-command.ensures in
    let rates = with_made _ _ _ _ _ info c.rates_command.ensures c.with_subcommand-command-2.ensures in
    let why = with_made _ _ _ _ _ rates c.why_command.ensures c.with_subcommand-command-3.ensures in
    let dump = with_made _ _ _ _ _ why c.dump_command.ensures c.with_subcommand-command-4.ensures in
    let picture = with_made _ _ _ _ _ dump c.picture_command.ensures c.with_subcommand-command-5.ensures in
    with_made _ _ _ _ _ picture c.loads_command.ensures c.with_subcommand.ensures
