use Rattle.std.proofs.Common.{◌++◌, ◌∷◌, [], ap, map, refl, sym, ◌∙◌}
use Rattle.std.proofs.lemmas.List.{map-append}
use Rattle.std.proofs.lemmas.Result.{IfOk-from_err}
use Rattle.pon_recorder.proofs.recording_thread.Recording.taken_chapters.Goals as goal

pub returns-in_err-all-clause-ports : goal.returns-in_err-all-clause-ports
returns-in_err-all-clause-ports g c = IfOk-from_err c.from_residual.result _ c.from_residual.ensures.0

pub returns-in_err-all-clause-recorder : goal.returns-in_err-all-clause-recorder
returns-in_err-all-clause-recorder g c = refl

pub returns-in_err-all-clause-whole : goal.returns-in_err-all-clause-whole
returns-in_err-all-clause-whole g c = refl

pub returns-in_default-clause-recorder : goal.returns-in_default-clause-recorder
returns-in_default-clause-recorder g c = refl

pub returns-in_default-clause-whole : goal.returns-in_default-clause-whole
returns-in_default-clause-whole g c = refl

pub returns-in_err-push-clause-recorder : goal.returns-in_err-push-clause-recorder
returns-in_err-push-clause-recorder g c = refl

pub returns-in_err-push-clause-whole : goal.returns-in_err-push-clause-whole
returns-in_err-push-clause-whole g c = refl

pub returns-clause-recorder : goal.returns-clause-recorder
returns-clause-recorder g c = refl

pub returns-clause-whole : goal.returns-clause-whole
returns-clause-whole g c = refl

pub loop-inlet-init : goal.loop-inlet-init
loop-inlet-init g c = ap (map (λ taken. taken.port)) c.in_ok-all.ensures.items

pub loop-inlet-preserved : goal.loop-inlet-preserved
loop-inlet-preserved g c =
    ap (map (λ taken. taken.port)) c.in_ok-push.ensures.items
    ∙ map-append (λ taken. taken.port) c.loop-inlet.all.items (c.in-Some-taken_chapters.taken ∷ [])
    ∙ (λ j. c.loop-inlet.invariant j ++ c.in-Some-taken_chapters.ensures.chapters.0 j ∷ [])
    ∙ sym (map-append _ c.loop-inlet.yielded (c.in-Some.inlet ∷ []))

pub returns-in_err-push-clause-ports : goal.returns-in_err-push-clause-ports
returns-in_err-push-clause-ports g c = IfOk-from_err c.from_residual-in_err-push.result _ c.from_residual-in_err-push.ensures.0
