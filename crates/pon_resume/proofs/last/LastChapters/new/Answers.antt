use Rattle.std.proofs.Common.{◌≡◌, ◌++◌, ◌∷◌, [], ◌∙◌, None, ap, rules}
use Rattle.pon_audit.proofs.FirstFaults.{replicate_push}
use Rattle.pon_resume.proofs.last.LastChapters.new.Goals as goal

pub loop-port-preserved : goal.loop-port-preserved
loop-port-preserved c =
    let pushed : c.push.new.self.items ≡ c.loop-port.chapters.items ++ None ∷ [] = search rules in
    pushed ∙ ap (λ t. t ++ None ∷ []) c.loop-port.invariant ∙ replicate_push c.loop-port._port None
