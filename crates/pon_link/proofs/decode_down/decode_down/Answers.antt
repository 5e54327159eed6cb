use Rattle.std.proofs.Common.{arith}
use Rattle.pon_link.proofs.Answering.{down_record, down_fault}
use Rattle.pon_link.proofs.decode_down.decode_down.Goals as goal

pub returns-in-Ok-clause-ok : goal.returns-in-Ok-clause-ok
returns-in-Ok-clause-ok c = down_record c.args.bytes.now c.frame_in.result c.in-Ok.map _ _ (λ k. omega (arith, c.type_inv.bytes k)) c.requires c.in-Ok.ensures.ok c.frame_in.ensures

pub returns-in-Err-clause-err : goal.returns-in-Err-clause-err
returns-in-Err-clause-err c = down_fault c.args.bytes.now c.in-Err.fault c.down_fault.result c.requires c.in-Err.ensures.fault c.down_fault.ensures
