use Rattle.std.proofs.Common.{◌≡◌, arith}
use Rattle.pon_audit.proofs.OpenedStates.{bare_if_opened, opened_if_bare}
use Rattle.pon_audit.proofs.openings.opens_first.Goals as goal

pub returns-else-number-ne0 : goal.returns-else-number-ne0
returns-else-number-ne0 c =
    let first : c.args.number ≡ 0 = omega arith in (
      λ t e. opened_if_bare c.args.opening.now (c.is_bare.ensures.0 t),
      λ h. c.is_bare.ensures.1 (bare_if_opened c.args.opening.now (h first)),
    )
