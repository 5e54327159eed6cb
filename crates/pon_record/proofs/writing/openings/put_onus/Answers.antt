use Rattle.std.proofs.Common.{◌++◌, append-nil, ap, sym, ◌∙◌}
use Rattle.std.specs.List.{flat_map}
use Rattle.std.proofs.lemmas.List.{take_all}
use Rattle.std.proofs.lemmas.Result.{IfOk-from_err}
use Rattle.pon_record.specs.Fields.{onu_id}
use Rattle.pon_record.proofs.PutLists.{one_read_put}
use Rattle.pon_record.proofs.writing.openings.put_onus.Goals as goal

pub loop-value-init : goal.loop-value-init
loop-value-init c = sym (append-nil c.args.bytes.now.items)

pub returns-in_err-put_onu : goal.returns-in_err-put_onu
returns-in_err-put_onu c = IfOk-from_err c.from_residual.result _ c.from_residual.ensures.0

pub loop-value-preserved : goal.loop-value-preserved
loop-value-preserved c =
    one_read_put onu_id.write c.args.bytes.now.items c.loop-value.bytes.items c.put_onu.new.bytes.items
    c.args.values.now c.loop-value.value-index c.value-item.result c.loop-value-test.true c.value-item.is c.loop-value.invariant c.in_ok-put_onu.ensures

pub returns : goal.returns
returns c = c.loop-value.invariant ∙ ap (λ xs. c.args.bytes.now.items ++ flat_map onu_id.write xs) (take_all c.loop-value.value-index c.args.values.now c.loop-value-test.false)
