use Rattle.std.proofs.Common.{◌≡◌, true, rules}
use Rattle.std.specs.Prelude.{◌↔◌}
use Rattle.pon_audit.specs.Chains.{HasParts}
use Rattle.pon_audit.proofs.SameStates.{tells_state}
use Rattle.pon_audit.proofs.chain.opens_with.Goals as goal

pub returns : goal.returns
returns c =
    let o = c.args.chapter.now.body.opening in
    let tells = tells_state c.args.chapter.now.body.number o c.args.end.now c.requires.opens c.requires.end in
    let parts : (c.has_parts.result ≡ true) ↔ HasParts o c.args.end.now = search rules in
    (λ t. tells.0 (parts.0 t), λ e. parts.1 (tells.1 e))
