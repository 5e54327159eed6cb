use Rattle.std.proofs.Common.{arith}
use Rattle.pon_desk.specs.Settling.{PortHistory}
use Rattle.pon_desk.specs.Walks.{left_of}
use Rattle.pon_desk.proofs.Settled.{miscounted, settled_at_end, taken_otherwise}
use Rattle.pon_desk.proofs.settling.settle_port.Goals.{then-not-is_at_end-via-then-not-is_at_end, then-not-is_at_end-via-else-not-is_at_end+then-receipts-taken}
use Rattle.pon_desk.proofs.settling.settle_port.Goals as goal

pub returns-then-not-is_at_end : goal.returns-then-not-is_at_end
returns-then-not-is_at_end c =
    let h : PortHistory = record { opened = c.args.opened.now; chapters = c.args.chapters.now; kept = c.args.kept.now } in
    elim c.then-not-is_at_end.branch [
      | then-not-is_at_end-via-then-not-is_at_end w ↦
          miscounted h c.args.port c.args.receipts.now (left_of c.new-walk.result) (left_of c.receipt_fault.new.walk) c.new-walk.ensures c.in_default.ensures c.in_default-receipt_fault.ensures.0 c.in_default-receipt_fault.ensures.1 w.if-not-is_at_end.ensures
      | then-not-is_at_end-via-else-not-is_at_end+then-receipts-taken w ↦
          taken_otherwise h c.args.port c.args.receipts.now (left_of c.new-walk.result) c.new-walk.ensures c.in_default.ensures c.in_default-receipt_fault.ensures.0 (λ same. omega (arith, same, w.taken.ensures, w.if-receipts-taken.true))
    ]

pub returns : goal.returns
returns c =
    let h : PortHistory = record { opened = c.args.opened.now; chapters = c.args.chapters.now; kept = c.args.kept.now } in
    settled_at_end h c.args.port c.args.receipts.now (left_of c.new-walk.result) (left_of c.receipt_fault.new.walk) c.new-walk.ensures c.in_default.ensures c.in_default-receipt_fault.ensures.0 c.in_default-receipt_fault.ensures.1 c.if-not-is_at_end.ensures
    (omega (arith, c.taken.ensures, c.if-receipts-taken.false))
