-- Means with one decimal place.
use Rattle.std.specs.Prelude.{ℕ, ◌≡◌, ◌+◌, ◌*◌, ◌/◌}
use Rattle.pon_units.specs.declared.limits.TheConstants.{WORD_RATE}
use Rattle.pon_draw.specs.declared.mean.Mean.{Mean}

-- a mean in tenths, rounded half up
abbrev pub tenths_of : Mean → ℕ
tenths_of m = (20 * (m.sum * m.factor) + m.count * m.divisor) / (2 * (m.count * m.divisor))

-- the mean is this fraction
abbrev pub IsFraction : ℕ → ℕ → Mean → Type 0
IsFraction above below m = m.sum * m.factor * below ≡ above * (m.count * m.divisor)

-- the kilobytes that wait before these maps: a load is 256 kbit/s for each word, which has 4 bytes
abbrev pub IsWaiting : ℕ → ℕ → Mean → Type 0
IsWaiting loads maps m = IsFraction (4 * loads) (1000 * (WORD_RATE * maps)) m

-- the milliseconds, of 8 frames each, in which these words are granted once more for each word that waits; 0 if none waits
abbrev pub IsDelay : ℕ → ℕ → Mean → Type 0
IsDelay loads granted m = IsFraction loads (8 * (WORD_RATE * granted)) m
