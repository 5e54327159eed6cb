use Rattle.pon_link.proofs.Reports.{head_refused}
use Rattle.pon_link.proofs.decode.head_in.Goals as goal

pub returns-in-Err : goal.returns-in-Err
returns-in-Err c = head_refused c.args.bytes.now c.in-Err.field-0 c.requires c.in-Err.ensures.fault
