use Rattle.std.proofs.Common.{Result, Ok, Err, subst}
use Rattle.std.specs.Prelude.{OnOk}
use Rattle.std.proofs.lemmas.Result.{IfOk-from_err, MatchResult-from_err}
use Rattle.pon_device.specs.Device.{CountsFailure}
use Rattle.pon_record.specs.Recorders.{Stays}
use Rattle.pon_record.proofs.RecordedBytes.{stays, stays_kept}
use Rattle.pon_record.proofs.record_file.RecordFile.flush.Goals as goal

on_ok_from : {T E P : Type 0} (r : Result T E) → P → OnOk r P
on_ok_from (Ok x) p = p
on_ok_from (Err e) p = tt

pub returns-in_err-push-clause-recorded : goal.returns-in_err-push-clause-recorded
returns-in_err-push-clause-recorded g c =
    subst (λ f. Stays (g.W.DevWrite.contents f.device) f.left (g.W.DevWrite.contents c.push.new.writer) c.push.new.self) c.self.view_is
    (stays (g.W.DevWrite.contents c.self.inside.writer) (g.W.DevWrite.contents c.push.new.writer) c.self.inside.pending c.push.new.self c.push.ensures.sent)

pub returns-in_err-push-clause-ok : goal.returns-in_err-push-clause-ok
returns-in_err-push-clause-ok g c = IfOk-from_err c.from_residual.result _ c.from_residual.ensures.0

pub returns-in_err-push-clause-failures : goal.returns-in_err-push-clause-failures
returns-in_err-push-clause-failures g c =
    subst (λ f. CountsFailure (g.W.DevWrite.failures f.device) (g.W.DevWrite.failures c.push.new.writer) c.from_residual.result) c.self.view_is
    (MatchResult-from_err c.from_residual.result _ _ c.from_residual.ensures.0 (λ _. c.in_err-push.ensures.failures))

pub returns-clause-ok : goal.returns-clause-ok
returns-clause-ok g c = on_ok_from c.flush.result c.in_ok-push.ensures.ok

pub returns-clause-recorded : goal.returns-clause-recorded
returns-clause-recorded g c =
    subst (λ f. Stays (g.W.DevWrite.contents f.device) f.left (g.W.DevWrite.contents c.flush.new.self) c.push.new.self) c.self.view_is
    (stays_kept (g.W.DevWrite.contents c.self.inside.writer) (g.W.DevWrite.contents c.push.new.writer) (g.W.DevWrite.contents c.flush.new.self) c.self.inside.pending c.push.new.self c.in_ok-push.ensures.sent c.flush.ensures.bytes)

pub returns-clause-failures : goal.returns-clause-failures
returns-clause-failures g c =
    subst (λ f. CountsFailure (g.W.DevWrite.failures f.device) (g.W.DevWrite.failures c.flush.new.self) c.flush.result) c.self.view_is
    (subst (λ n. CountsFailure n (g.W.DevWrite.failures c.flush.new.self) c.flush.result) c.in_ok-push.ensures.failures c.flush.ensures.failures)
