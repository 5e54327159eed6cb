use Rattle.std.proofs.Common.{◌≡◌, ◌+◌, ◌++◌, ◌∷◌, [], ap, sym, ◌∙◌, subst}
use Rattle.std.specs.Prelude.{Some}
use Rattle.rtrb.specs.Ring.{sent}
use Rattle.pon_ring.specs.Numbers.{AreBelow, last_number}
use Rattle.pon_ring.proofs.Numbers.{below_pushed, last_pushed}
use Rattle.pon_ring.proofs.ring_in.RingIn.push.Goals as goal

pub invariant_of-self : goal.invariant_of-self
invariant_of-self c =
    let old = sent c.args.self.now.producer in
    let more : sent c.push.new.self ≡ old ++ c.args.chapter ∷ [] = c.in-Ok.ensures.ok.0 in
    record {
      last_sent = sym (ap last_number more ∙ last_pushed old c.args.chapter ∙ ap Some (sym c.number-number.ensures));
      rising = subst (λ n. AreBelow (n + 1) (sent c.push.new.self)) (sym c.number-number.ensures) (subst (AreBelow (c.args.chapter.number + 1)) (sym more) (below_pushed old c.args.chapter c.requires));
    }
