use Rattle.std.proofs.Common.{◌≡◌, ◌++◌, ◌∷◌, [], ◌∙◌, None, ap, rules}
use Rattle.pon_audit.proofs.FirstFaults.{replicate_push}
use Rattle.pon_audit.proofs.ends.Ends.open.Goals as goal

pub loop-port-preserved : goal.loop-port-preserved
loop-port-preserved c =
    let pushed : c.push.new.self.items ≡ c.loop-port.places.items ++ None ∷ [] = search rules in
    pushed ∙ ap (λ t. t ++ None ∷ []) c.loop-port.invariant ∙ replicate_push c.loop-port._port None
