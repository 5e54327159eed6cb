-- The guaranteed stage of the reference model of dynamic bandwidth assignment (ITU-T G.987.3). Rates and loads in kbit/s.
use Rattle.std.specs.Prelude.{ℕ, ◌-◌, min, max}
use Rattle.pon_descr.specs.Descriptor.{Descriptor, promised}

-- the guaranteed rate under a load: the fixed rate always, the assured rate as far as the load requires it
abbrev pub guaranteed : Descriptor → ℕ → ℕ
guaranteed d load = min (promised d) (max d.fixed load)

-- the greatest surplus that the load can use
abbrev pub cap : Descriptor → ℕ → ℕ
cap d load = min d.max (max load d.fixed) - guaranteed d load
