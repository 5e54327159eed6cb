use Rattle.std.proofs.Common.{◌≡◌, ◌*◌, IfOk, rules, string_bytes, subst}
use Rattle.pon_manage.proofs.StateNumbers.{same_numbers}
use Rattle.pon_manage.proofs.show.numbers_text.Goals as goal

pub returns : goal.returns
returns c =
    subst (λ bs. IfOk c.format.result (λ text. string_bytes text ≡ bs))
    (same_numbers c.args.shown.now c.get-next.result c.get-guaranteed.result (256 * c.from.result) (search rules) (search rules) (search rules)) c.format.ensures.ok
