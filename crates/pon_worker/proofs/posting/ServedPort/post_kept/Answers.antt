use Rattle.pon_worker.proofs.Posted.{keeps_post}
use Rattle.pon_worker.proofs.posting.ServedPort.post_kept.Goals as goal

pub returns-clause-kept : goal.returns-clause-kept
returns-clause-kept g c =
    keeps_post c.args.self.now.port c.args.event c.args.seat.now c.post.new.seat c.keep.new.self c.in_ok-receipt.receipt c.in_ok-receipt.ensures.posted c.in_ok-receipt.ensures.counted c.in_ok-receipt.ensures.receipts c.keep.ensures.counts c.keep.ensures.kept
