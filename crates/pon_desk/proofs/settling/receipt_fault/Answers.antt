use Rattle.std.proofs.Common.{◌≡◌, ◌≤◌, ◌∷◌, ◌++◌, List, length, take, map, Some, refl, sym, ap, ◌∙◌, arith, rules}
use Rattle.std.specs.Prelude.{slice_get}
use Rattle.std.specs.Cmp.{unsigned_Decides}
use Rattle.std.proofs.lemmas.List.{take_all}
use Rattle.std.proofs.lemmas.Option.{slice_get_read}
use Rattle.pon_desk.specs.Receipts.{Receipt}
use Rattle.pon_desk.specs.Settling.{posts_of}
use Rattle.pon_desk.specs.Walks.{left_of}
use Rattle.pon_desk.specs.declared.receipt.Placed.{Placed}
use Rattle.pon_desk.proofs.Settled.{all_right, entry_here, first_wrong, in_turn, more_passed, one_more_right}
use Rattle.pon_desk.proofs.settling.receipt_fault.Goals as goal

pub returns-then-not-passes : goal.returns-then-not-passes
returns-then-not-passes c =
    let rs = c.args.receipts.now in
    let r = c.index-receipts-k.result in
    let es = left_of c.args.walk.now in
    let at : slice_get rs c.loop-k.k ≡ Some r = slice_get_read rs _ c.loop-k.k r refl (omega arith) c.index-receipts-k.is in
    first_wrong es c.args.port rs c.loop-k.k r at
    (λ right. c.if-not-passes.ensures (sym (entry_here es c.args.port rs (left_of c.loop-k.walk) c.loop-k.k (omega arith) c.loop-k.invariant.passed) ∙ right.has_entry ∙ ap (λ (x : Receipt). Some x.placed) (sym c.receipt.view_is)))
    c.loop-k.invariant.right

pub posts_of-requires : goal.posts_of-requires
posts_of-requires c = in_turn (left_of c.args.walk.now) c.args.port c.args.receipts.now c.loop-k.k c.loop-k.invariant.right

pub returns-then-receipt-posts_of : goal.returns-then-receipt-posts_of
returns-then-receipt-posts_of c =
    let rs = c.args.receipts.now in
    let r = c.index-receipts-k.result in
    let at : slice_get rs c.loop-k.k ≡ Some r = slice_get_read rs _ c.loop-k.k r refl (omega arith) c.index-receipts-k.is in
    first_wrong (left_of c.args.walk.now) c.args.port rs c.loop-k.k r at
    (λ right. c.if-receipt-posts_of.true (ap (λ (x : Receipt). x.nth) c.receipt.view_is ∙ right.nth ∙ sym (c.posts_of.ensures ∙ ap (λ (x : Receipt). posts_of x.seat (take c.loop-k.k rs)) c.receipt.view_is)))
    c.loop-k.invariant.right

pub loop-k-preserved : goal.loop-k-preserved
loop-k-preserved c =
    let rs = c.args.receipts.now in
    let r = c.index-receipts-k.result in
    let es = left_of c.args.walk.now in
    let at : slice_get rs c.loop-k.k ≡ Some r = slice_get_read rs _ c.loop-k.k r refl (omega arith) c.index-receipts-k.is in
    let here = c.if-not-passes.ensures ∙ ap (λ (x : Receipt). x.placed ∷ left_of c.passes.new.self) c.receipt.view_is in
    let port : r.port ≡ c.args.port = sym (ap (λ (x : Receipt). x.port) c.receipt.view_is) ∙ (unsigned_Decides c.receipt.inside.port c.args.port).0 (search rules) in
    record {
      right = one_more_right es c.args.port rs c.loop-k.k r at (record {
        of_port = port;
        has_entry = entry_here es c.args.port rs (left_of c.loop-k.walk) c.loop-k.k (omega arith) c.loop-k.invariant.passed ∙ ap (λ (l : List Placed). slice_get l 0) here;
        nth = sym (ap (λ (x : Receipt). x.nth) c.receipt.view_is) ∙ c.if-receipt-posts_of.false ∙ c.posts_of.ensures ∙ ap (λ (x : Receipt). posts_of x.seat (take c.loop-k.k rs)) c.receipt.view_is;
      }) c.loop-k.invariant.right;
      passed = more_passed es c.args.port rs (left_of c.loop-k.walk) (left_of c.passes.new.self) c.loop-k.k r (omega arith) c.index-receipts-k.is c.loop-k.invariant.passed here;
    }

pub returns : goal.returns
returns c =
    let rs = c.args.receipts.now in
    let long : length rs ≤ c.loop-k.k = omega arith in (
      all_right (left_of c.args.walk.now) c.args.port rs (λ j below. c.loop-k.invariant.right j (omega (arith, below, long))),
      c.loop-k.invariant.passed ∙ ap (λ (l : List Receipt). map (λ (x : Receipt). x.placed) l ++ left_of c.loop-k.walk) (take_all c.loop-k.k rs long),
    )
