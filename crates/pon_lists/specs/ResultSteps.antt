-- Decoders whose steps return a value or a fault.
use Rattle.std.specs.Prelude.{Result, Ok, Err}

-- the next step applied to the value, or the first fault
infixl 10 ◌>>=◌
abbrev pub ◌>>=◌ : {A B E : Type 0} → Result A E → (A → Result B E) → Result B E
(Ok x) >>= f = f x
(Err e) >>= f = Err e
