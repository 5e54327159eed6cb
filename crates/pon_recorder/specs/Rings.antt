-- The rings of the ports of a run.
use Rattle.std.specs.Prelude.{ℕ, ◌≡◌, zero, suc, List, [], ◌∷◌, Option, None}
use Rattle.pon_ring.specs.declared.ring_out.RingOut.{RingOut}
use Rattle.pon_recorder.specs.declared.rings.PortRing.{PortRing}

-- the recorder's end of the ring of a port, if there is one
abbrev pub out_at : List PortRing → ℕ → Option RingOut
out_at [] port = None
out_at (r ∷ rs) zero = r.out
out_at (r ∷ rs) (suc port) = out_at rs port

-- these are the rings of the ports, in order
abbrev pub AreRingsOf : (ℕ → Option RingOut) → List PortRing → Type 0
AreRingsOf ring rings = (port : ℕ) → ring port ≡ out_at rings port
