use Rattle.std.proofs.Common.{List, [], ℕ, inr, subst}
use Rattle.std.specs.Prelude.{OnOk}
use Rattle.pon_admit.specs.declared.port_cfg.PortCfg.{PortCfg}
use Rattle.pon_admit.specs.declared.step.Step.{Step}
use Rattle.pon_history.specs.Chapters.{Chapter}
use Rattle.pon_recorder.specs.Recordings.{HasRecorded}
use Rattle.pon_recorder.specs.Whole.{all_kept}
use Rattle.pon_manage.specs.Planning.{IsStart}
use Rattle.pon_manage.specs.declared.flushed.FlushedPlant.{FlushedPlant}
use Rattle.pon_manage.proofs.FlushedPlans.{planned_flushed}
use Rattle.pon_manage.proofs.flushed_planning.plan_flushed.Goals as goal

pub returns-in-Ok-clause-text : goal.returns-in-Ok-clause-text
returns-in-Ok-clause-text g c =
    let first : FlushedPlant g.row.D.Denot = record { recorded = record { plant = c.in-Ok.plant; recorder = c.args.recorder } } in
    let last : FlushedPlant g.row.D.Denot = c.answer_input-lines.new.state in
    let tape = g.D.DevWrite.contents c.end_with-recording.result.device in
    let ended = c.end_with-recording.result.result in
    let ports = c.args.opening.ports.items in
    let steps = c.args.opening.steps.items in
    let begins = subst (λ (steps : List Step). IsStart ports steps c.in-Ok.plant) c.as_slice-2.ensures.value
    (subst (λ (ports : List (PortCfg × ℕ)). IsStart ports c.as_slice-2.result.now c.in-Ok.plant) c.as_slice.ensures.value c.in-Ok.ensures) in
    let kept = subst (λ (ports : List Chapter). OnOk ended (HasRecorded (g.D.DevWrite.contents last.recorded.recorder.file.device) last.recorded.recorder.file.left tape [] (all_kept ports))) c.into_ports.ensures c.end_with-recording.ensures.written in
    inr (planned_flushed g.D.DevWrite.contents first last c.answer_input-lines.ensures.path tape ports steps _ _ _ _ c.answer_input-lines.result ended
    begins c.answer_input-lines.ensures.text c.end_with-recording.ensures.sound kept)
