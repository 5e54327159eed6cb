use Rattle.std.proofs.Common.{◌∙◌, sym}
use Rattle.pon_audit.proofs.Equality.{onus_decide}
use Rattle.pon_audit.proofs.chain.are_same_onus.Goals as goal

pub returns : goal.returns
returns c =
    let same = onus_decide c.args.onus.now c.args.others.now in
    (λ t. same.0 (sym c.eq.ensures ∙ t), λ e. c.eq.ensures ∙ same.1 e)
