-- Decoders whose steps return a value or nothing.
use Rattle.std.specs.Prelude.{Option, Some, None}

-- the next step applied to the value; nothing after nothing
infixl 10 ◌>>=◌
abbrev pub ◌>>=◌ : {A B : Type 0} → Option A → (A → Option B) → Option B
None >>= f = None
(Some x) >>= f = f x
