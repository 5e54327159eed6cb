use Rattle.std.proofs.Common.{arith, take, drop}
use Rattle.std.proofs.lemmas.Grind.{common_steps}
use Rattle.std.proofs.lemmas.List.{take-append-drop}
use Rattle.pon_device.proofs.Pieces.{sent_more, appends_kept}
use Rattle.pon_device.proofs.traits.write_all.Goals as goal

pub loop-at-preserved : goal.loop-at-preserved
loop-at-preserved g c = record {
  inside = grind (arith, common_steps, c.in-Ok.ensures.count);
  sent = sent_more (g.W.DevWrite.contents c.args.writer.now) (g.W.DevWrite.contents c.loop-at.writer) (g.W.DevWrite.contents c.write.new.self) c.args.bytes.now c.loop-at.at c.in-Ok.n c.loop-at.invariant.sent c.in-Ok.ensures.bytes;
  well = grind (arith, c.in-Ok.ensures.failures);
}

pub returns-in-Err-clause-err : goal.returns-in-Err-clause-err
returns-in-Err-clause-err g c = (
  take c.loop-at.at c.args.bytes.now,
  drop c.loop-at.at c.args.bytes.now,
  appends_kept (g.W.DevWrite.contents c.args.writer.now) (g.W.DevWrite.contents c.loop-at.writer) (g.W.DevWrite.contents c.write.new.self) (take c.loop-at.at c.args.bytes.now) c.loop-at.invariant.sent c.in-Err.ensures.bytes,
  take-append-drop c.loop-at.at c.args.bytes.now,
)
