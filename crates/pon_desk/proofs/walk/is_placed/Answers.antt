use Rattle.std.proofs.Common.{◌≡◌, ap, arith}
use Rattle.pon_desk.specs.declared.receipt.Placed.{Placed}
use Rattle.pon_desk.proofs.walk.is_placed.Goals as goal

pub returns : goal.returns
returns c =
    let chapter : c.args.placed.now.chapter ≡ c.args.chapter = omega arith in
    let index : c.args.placed.now.index ≡ c.args.index = omega arith in (
      λ t. (λ i. record { chapter = chapter i; index = index i; entry = c.is_same.ensures.0 t i }),
      λ e. c.is_same.ensures.1 (ap (λ (p : Placed). p.entry) e),
    )
