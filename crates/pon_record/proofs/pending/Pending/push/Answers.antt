use Rattle.std.proofs.Common.{sym, take, List, ℕ, refl, subst}
use Rattle.pon_device.specs.Device.{Appends}
use Rattle.pon_link.proofs.Left.{Sends, none_sent, not_idle, sent_more, sent_kept}
use Rattle.pon_record.proofs.pending.Pending.push.Goals as goal

pub loop-writer-init : goal.loop-writer-init
loop-writer-init g c = record {
  sent = none_sent (g.W.DevWrite.contents c.args.writer.now) c.args.self.now;
  well = refl;
}

pub loop-writer-preserved : goal.loop-writer-preserved
loop-writer-preserved g c =
    let took : Appends (g.W.DevWrite.contents c.loop-writer.writer) (g.W.DevWrite.contents c.write.new.self) (take c.in-Ok.n c.loop-writer.self)
    = subst (λ (t : List ℕ). Appends (g.W.DevWrite.contents c.loop-writer.writer) (g.W.DevWrite.contents c.write.new.self) (take c.in-Ok.n t)) c.left-in-loop-writer.ensures c.in-Ok.ensures.bytes in
    let more = sent_more (g.W.DevWrite.contents c.args.writer.now) (g.W.DevWrite.contents c.loop-writer.writer) (g.W.DevWrite.contents c.write.new.self) c.args.self.now c.loop-writer.self c.in-Ok.n c.loop-writer.invariant.sent took in
    record {
      sent = subst (λ (t : List ℕ). Sends (g.W.DevWrite.contents c.args.writer.now) (g.W.DevWrite.contents c.write.new.self) c.args.self.now t) (sym c.went_out.ensures) more;
      well = cc (c.in-Ok.ensures.failures);
    }

pub returns-in-Err : goal.returns-in-Err
returns-in-Err g c =
    let kept = sent_kept (g.W.DevWrite.contents c.args.writer.now) (g.W.DevWrite.contents c.loop-writer.writer) (g.W.DevWrite.contents c.write.new.self) c.args.self.now c.loop-writer.self c.loop-writer.invariant.sent c.in-Err.ensures.bytes in
    record {
      sent = record { sent = kept.sent; appends = kept.appends; together = kept.together };
      ok = tt;
      err = λ none. absurd (not_idle (g.W.DevWrite.contents c.loop-writer.writer) (g.W.DevWrite.contents c.loop-writer.writer) c.loop-writer.self c.loop-writer.self c.left.result.now (none_sent (g.W.DevWrite.contents c.loop-writer.writer) c.loop-writer.self) c.left.ensures c.loop-writer-test.ensures none);
      failures = rw c.loop-writer.invariant.well at c.in-Err.ensures.failures;
    }
