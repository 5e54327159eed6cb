use Rattle.std.proofs.Common.{◌++◌}
use Rattle.std.proofs.lemmas.Result.{IfOk-from_err}
use Rattle.pon_record.specs.Fields.{frame}
use Rattle.pon_record.specs.MadeMaps.{certificate, map}
use Rattle.pon_record.proofs.Put.{put_after}
use Rattle.pon_record.proofs.writing.made.put_made.Goals as goal

pub returns-in_err-put_frame : goal.returns-in_err-put_frame
returns-in_err-put_frame c = IfOk-from_err c.from_residual.result _ c.from_residual.ensures.0

pub returns-in_err-put_map : goal.returns-in_err-put_map
returns-in_err-put_map c = IfOk-from_err c.from_residual-in_err-put_map.result _ c.from_residual-in_err-put_map.ensures.0

pub returns-in_err-put_cert : goal.returns-in_err-put_cert
returns-in_err-put_cert c = IfOk-from_err c.from_residual-in_err-put_cert.result _ c.from_residual-in_err-put_cert.ensures.0

pub put_cert-requires : goal.put_cert-requires
put_cert-requires c = c.requires

pub returns : goal.returns
returns c =
    let old = c.args.bytes.now.items in
    let v = c.args.value.now in
    let a = frame.write v.frame in
    let b = map.write v.map in
    let two = put_after old a b c.put_frame.new.bytes.items c.put_map.new.bytes.items c.in_ok-put_frame.ensures c.in_ok-put_map.ensures in
    put_after old (a ++ b) (certificate.write v.cert) c.put_map.new.bytes.items c.put_cert.new.bytes.items two c.in_ok-put_cert.ensures
