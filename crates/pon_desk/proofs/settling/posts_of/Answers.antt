use Rattle.std.proofs.Common.{◌≡◌, ◌-◌, refl, ap, sym, ◌∙◌, arith}
use Rattle.std.proofs.lemmas.Option.{slice_get_read}
use Rattle.pon_desk.specs.Receipts.{Receipt}
use Rattle.pon_desk.proofs.Settled.{few_of_seat, last_of_seat}
use Rattle.pon_desk.proofs.settling.posts_of.Goals as goal

pub overflow_add-result : goal.overflow_add-result
overflow_add-result c =
    let r = c.index-receipts-left.result in
    let nth = c.requires (c.loop-left.left - 1) r (slice_get_read c.args.receipts.now _ (c.loop-left.left - 1) r refl (omega arith) c.index-receipts-left.is) in
    let seat : r.seat ≡ c.args.seat = sym (ap (λ (x : Receipt). x.seat) c.receipt.view_is) ∙ c.if-receipt-seat.true in
    let last = last_of_seat c.args.receipts.now c.loop-left.left c.args.seat r (omega arith) (omega arith) c.index-receipts-left.is seat nth in
    let same : c.receipt.inside.nth ≡ r.nth = ap (λ (x : Receipt). x.nth) c.receipt.view_is in
    omega (arith, same, last, few_of_seat c.args.receipts.now c.loop-left.left c.args.seat, c.loop-left.auto.left-fits)

pub returns-then-receipt-seat : goal.returns-then-receipt-seat
returns-then-receipt-seat c =
    let r = c.index-receipts-left.result in
    let nth = c.requires (c.loop-left.left - 1) r (slice_get_read c.args.receipts.now _ (c.loop-left.left - 1) r refl (omega arith) c.index-receipts-left.is) in
    let seat : r.seat ≡ c.args.seat = sym (ap (λ (x : Receipt). x.seat) c.receipt.view_is) ∙ c.if-receipt-seat.true in
    let last = last_of_seat c.args.receipts.now c.loop-left.left c.args.seat r (omega arith) (omega arith) c.index-receipts-left.is seat nth in
    let same : c.receipt.inside.nth ≡ r.nth = ap (λ (x : Receipt). x.nth) c.receipt.view_is in
    omega (arith, same, last, c.loop-left.invariant)
