use Rattle.std.proofs.Common.{◌++◌}
use Rattle.std.proofs.lemmas.Result.{IfOk-from_err}
use Rattle.pon_record.specs.Events.{occupancies}
use Rattle.pon_record.specs.Fields.{frame, onu_id}
use Rattle.pon_record.proofs.Put.{put_after}
use Rattle.pon_record.proofs.writing.entries.put_report.Goals as goal

pub returns-in_err-put_frame : goal.returns-in_err-put_frame
returns-in_err-put_frame c = IfOk-from_err c.from_residual.result _ c.from_residual.ensures.0

pub returns-in_err-put_onu : goal.returns-in_err-put_onu
returns-in_err-put_onu c = IfOk-from_err c.from_residual-in_err-put_onu.result _ c.from_residual-in_err-put_onu.ensures.0

pub returns-in_err-put_occupancies : goal.returns-in_err-put_occupancies
returns-in_err-put_occupancies c = IfOk-from_err c.from_residual-in_err-put_occupancies.result _ c.from_residual-in_err-put_occupancies.ensures.0

pub returns : goal.returns
returns c =
    let old = c.args.bytes.now.items in
    let a = frame.write c.args.frame in
    let b = onu_id.write c.args.onu in
    let two = put_after old a b c.put_frame.new.bytes.items c.put_onu.new.bytes.items c.in_ok-put_frame.ensures c.in_ok-put_onu.ensures in
    put_after old (a ++ b) (occupancies.write c.args.occ.now) c.put_onu.new.bytes.items c.put_occupancies.new.bytes.items two c.in_ok-put_occupancies.ensures
