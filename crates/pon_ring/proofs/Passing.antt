-- Chapters that are passed to a sink one after another.
use Rattle.std.proofs.Common.{◌≡◌, List, [], ◌∷◌, ◌++◌, refl, sym, subst, ◌∙◌}
use Rattle.std.specs.Prelude.{IsSomeAnd, Option, Some, None}
use Rattle.pon_history.specs.Chapters.{Chapter}
use Rattle.pon_ring.specs.Passing.{PassesAll, SameRing}
use Rattle.pon_ring.specs.Rings.{AreEnds, SameIn, SameOut}
use Rattle.pon_ring.specs.Sinks.{IsRest, PassesOn, StartsWith}
use Rattle.pon_ring.specs.declared.ring_out.RingOut.{RingOut}
use Rattle.pon_ring.specs.declared.sink.Rest.{Rest}
use Rattle.pon_ring.specs.declared.ring_in.RingIn.{RingIn}
use Rattle.pon_ring.specs.declared.sink.Outlet.{Outlet}

-- chapters, followed by others
pub passes_more : (cs ds : List Chapter) (a b c : Option Outlet) → PassesAll a cs b → PassesAll b ds c → PassesAll a (cs ++ ds) c
passes_more [] ds a b c p q = subst (λ (o : Option Outlet). PassesAll o ds c) p q
passes_more (x ∷ cs) ds a b c p q = (p.0, p.1, passes_more cs ds p.0 b c p.2 q)

pub passes_one : (x : Chapter) (a b : Option Outlet) → PassesOn a x b → PassesAll a (x ∷ []) b
passes_one x a b p = (b, p, refl)

same_in : (a : RingIn) → SameIn a a
same_in a = ((refl, refl, refl, refl), refl)

same_in_more : (a b c : RingIn) → SameIn a b → SameIn b c → SameIn a c
same_in_more a b c p q = ((q.0.0 ∙ p.0.0, q.0.1 ∙ p.0.1, q.0.2 ∙ p.0.2, q.0.3 ∙ p.0.3), q.1 ∙ p.1)

keeps : (a : Option Outlet) → SameRing a a
keeps None = refl
keeps (Some a) = same_in a.ring

keeps_same : (a b : Option Outlet) → b ≡ a → SameRing a b
keeps_same a b same = subst (λ (o : Option Outlet). SameRing a o) (sym same) (keeps a)

keeps_one : (x : Chapter) (a b : Option Outlet) → PassesOn a x b → SameRing a b
keeps_one x None b p = p
keeps_one x (Some a) None p = absurd p
keeps_one x (Some a) (Some b) p = p.0

keeps_more : (a b c : Option Outlet) → SameRing a b → SameRing b c → SameRing a c
keeps_more None b c p q = subst (λ (o : Option Outlet). SameRing o c) p q
keeps_more (Some a) None c p q = absurd p
keeps_more (Some a) (Some b) None p q = absurd q
keeps_more (Some a) (Some b) (Some c) p q = same_in_more a.ring b.ring c.ring p q

-- the end of the ring stays
pub keeps_all : (cs : List Chapter) (a b : Option Outlet) → PassesAll a cs b → SameRing a b
keeps_all [] a b p = keeps_same a b p
keeps_all (x ∷ cs) a b p = keeps_more a p.0 b (keeps_one x a p.0 p.1) (keeps_all cs p.0 b p.2)

-- the end of the ring that a sink was made over comes back in its rest
pub ring_back : (ring : RingIn) (a b : Option Outlet) (rest : Rest) → IsSomeAnd a (StartsWith ring) → SameRing a b → IsRest b rest → SameIn ring rest.ring
ring_back ring None b rest starts same is = absurd starts
ring_back ring (Some a) None rest starts same is = absurd same
ring_back ring (Some a) (Some b) rest starts same is = subst (λ (r : RingIn). SameIn ring r) (sym is.0) (subst (λ (r : RingIn). SameIn r b.ring) starts.same same)

-- a sink that was made over a ring has one
pub has_ring : (ring : RingIn) (a b : Option Outlet) → IsSomeAnd a (StartsWith ring) → SameRing a b → b ≡ None → ⊥
has_ring ring None b starts same none = absurd starts
has_ring ring (Some a) None starts same none = absurd same
has_ring ring (Some a) (Some b) starts same none = cc

-- the other end is that of the same ring
pub ends_kept : (a b : RingIn) (o : RingOut) → AreEnds a o → SameIn a b → AreEnds b o
ends_kept a b o ends same = (ends.0 ∙ sym same.0.0, ends.1 ∙ sym same.0.1, ends.2 ∙ sym same.0.2, ends.3 ∙ sym same.0.3)

-- the end that pops stays the same over further calls
pub same_out_more : (a b c : RingOut) → SameOut a b → SameOut b c → SameOut a c
same_out_more a b c p q = ((q.0.0 ∙ p.0.0, q.0.1 ∙ p.0.1, q.0.2 ∙ p.0.2, q.0.3 ∙ p.0.3), q.1 ∙ p.1)
