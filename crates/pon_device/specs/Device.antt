-- The effect of a call on the counts and the bytes of a device.
use Rattle.std.specs.Prelude.{ℕ, ◌≡◌, ◌+◌, ◌%◌, ◌^◌, Result, MatchResult}
pub use Rattle.std.specs.Io.KnownBytes.{Keeps, Appends, Consumes, IsAtEnd, WriteAppends, ReadConsumes}

-- one more call, counted modulo 2 ^ 64
abbrev pub CountsCall : ℕ → ℕ → Type 0
CountsCall old new = new ≡ (old + 1) % 2 ^ 64

-- one more failure exactly when the call fails, counted modulo 2 ^ 64
abbrev pub CountsFailure : {T E : Type 0} → ℕ → ℕ → Result T E → Type 0
CountsFailure old new r = MatchResult r (λ _. new ≡ old) (λ _. new ≡ (old + 1) % 2 ^ 64)
