use Rattle.std.proofs.Common.{◌++◌, append-nil, ap, sym, ◌∙◌}
use Rattle.std.specs.List.{flat_map}
use Rattle.std.proofs.lemmas.List.{take_all}
use Rattle.std.proofs.lemmas.Result.{IfOk-from_err}
use Rattle.pon_record.specs.Events.{occupancy}
use Rattle.pon_record.proofs.PutLists.{one_read_put}
use Rattle.pon_record.proofs.writing.entries.put_reports.Goals as goal

pub loop-report-init : goal.loop-report-init
loop-report-init c = sym (append-nil c.args.bytes.now.items)

pub returns-in_err-put_occupancy : goal.returns-in_err-put_occupancy
returns-in_err-put_occupancy c = IfOk-from_err c.from_residual.result _ c.from_residual.ensures.0

pub loop-report-preserved : goal.loop-report-preserved
loop-report-preserved c =
    one_read_put occupancy.write c.args.bytes.now.items c.loop-report.bytes.items c.put_occupancy.new.bytes.items
    c.args.reports.now c.loop-report.report-index c.report-item.result c.loop-report-test.true c.report-item.is c.loop-report.invariant c.in_ok-put_occupancy.ensures

pub returns : goal.returns
returns c = c.loop-report.invariant ∙ ap (λ xs. c.args.bytes.now.items ++ flat_map occupancy.write xs) (take_all c.loop-report.report-index c.args.reports.now c.loop-report-test.false)
