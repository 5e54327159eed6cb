use Rattle.pon_job.proofs.Builders.{with_made}
use Rattle.pon_job.proofs.commands.olt_command.Goals as goal

pub returns : goal.returns
returns c =
    let plan = with_made _ _ _ _ _ c.top_command.ensures c.plan_command.ensures c.with_subcommand-command.ensures in
    let check = with_made _ _ _ _ _ plan c.check_command.ensures c.with_subcommand-command-2.ensures in
    let audit = with_made _ _ _ _ _ check c.audit_command.ensures c.with_subcommand-command-3.ensures in
    let views = c.with_views-command.ensures _ audit in
    let migrate = with_made _ _ _ _ _ views c.migrate_command.ensures c.with_subcommand-command-4.ensures in
    let run = with_made _ _ _ _ _ migrate c.run_command.ensures c.with_subcommand-command-5.ensures in
    let stop = with_made _ _ _ _ _ run c.stop_command.ensures c.with_subcommand-command-6.ensures in
    let operate = with_made _ _ _ _ _ stop c.operate_command.ensures c.with_subcommand-command-7.ensures in
    with_made _ _ _ _ _ operate c.units_command.ensures c.with_subcommand.ensures
