use Rattle.std.proofs.Common.{inl, inr, arith}
use Rattle.pon_xgtc.proofs.HeaderReading.{no_fault}
use Rattle.pon_link.proofs.Sizes.{big_head}
use Rattle.pon_link.proofs.form.down_size.Goals as goal
use Rattle.pon_link.proofs.form.down_size.Goals.{then-from-gt-MAX_STRUCTURES-via-then-from-gt-MAX_STRUCTURES, then-from-gt-MAX_STRUCTURES-via-else-from-gt-MAX_STRUCTURES+then-p-gt0}

pub returns-in-Err : goal.returns-in-Err
returns-in-Err c n a = no_fault c.args.map.now c.in-Err.field-0 _ a.1 a.2.header c.in-Err.ensures.fault

pub returns-then-from-gt-MAX_STRUCTURES : goal.returns-then-from-gt-MAX_STRUCTURES
returns-then-from-gt-MAX_STRUCTURES c n a =
    elim c.then-from-gt-MAX_STRUCTURES.branch [
      | then-from-gt-MAX_STRUCTURES-via-then-from-gt-MAX_STRUCTURES w ↦ big_head c.args.map.now _ _ n (λ k. omega (arith, c.type_inv.map k)) c.in-Ok.ensures.ok (inl (omega (arith, c.n.ensures.value, w.if-from-gt-MAX_STRUCTURES.true))) a
      | then-from-gt-MAX_STRUCTURES-via-else-from-gt-MAX_STRUCTURES+then-p-gt0 w ↦ big_head c.args.map.now _ _ n (λ k. omega (arith, c.type_inv.map k)) c.in-Ok.ensures.ok (inr (omega (arith, w.p.ensures, w.if-p-gt0.true))) a
    ]
