use Rattle.std.proofs.Common.{◌∙◌, sym}
use Rattle.pon_audit.proofs.Equality.{grants_decide}
use Rattle.pon_audit.proofs.chain.are_same_grants.Goals as goal

pub returns : goal.returns
returns c =
    let same = grants_decide c.args.grants.now c.args.others.now in
    (λ t. same.0 (sym c.eq.ensures ∙ t), λ e. c.eq.ensures ∙ same.1 e)
