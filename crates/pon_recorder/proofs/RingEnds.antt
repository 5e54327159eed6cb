-- The two ends of the ring of a port.
use Rattle.std.proofs.Common.{◌≡◌, ℕ, List, [], ◌∷◌, ◌++◌, length, ap, refl, subst, sym, ◌∙◌}
use Rattle.std.specs.Prelude.{Option}
use Rattle.std.specs.Option.{ForSome}
use Rattle.pon_ring.specs.Rings.{SameOut}
use Rattle.pon_ring.specs.declared.ring_out.RingOut.{RingOut}
use Rattle.pon_ring.proofs.Passing.{same_out_more}
use Rattle.pon_recorder.specs.Rings.{AreRingsOf, out_at}
use Rattle.pon_recorder.specs.declared.rings.PortRing.{PortRing}

-- the ring of the port that comes after these
out_after : (rs : List PortRing) (r : PortRing) (more : List PortRing) → out_at (rs ++ r ∷ more) (length rs) ≡ r.out
out_after [] r more = refl
out_after (x ∷ rs) r more = out_after rs r more

out_next : (all rs more : List PortRing) (r : PortRing) → rs ++ r ∷ more ≡ all → out_at all (length rs) ≡ r.out
out_next all rs more r are = subst (λ (l : List PortRing). out_at l (length rs) ≡ r.out) are (out_after rs r more)

-- the ring of the next port is named
pub ring_here : (ring : ℕ → Option RingOut) (all rs left more : List PortRing) (r : PortRing) (port : ℕ) → AreRingsOf ring all → rs ++ left ≡ all → left ≡ r ∷ more → port ≡ length rs → ring port ≡ r.out
ring_here ring all rs left more r port named are next here =
    named port ∙ ap (out_at all) here ∙ out_next all rs more r (ap (λ (l : List PortRing). rs ++ l) (sym next) ∙ are)

-- the end that pops is that of the same port after chapters were popped
pub still_named : (o : Option RingOut) (a b : RingOut) → ForSome o (λ r. SameOut r a) → SameOut a b → ForSome o (λ r. SameOut r b)
still_named o a b held same = λ r e. same_out_more r a b (held r e) same
