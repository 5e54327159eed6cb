-- The height of a bar.
use Rattle.std.specs.Prelude.{ℕ, ◌+◌, ◌*◌, ◌-◌, ◌/◌, min}

-- the part of a height that a value is of a scale, rounded up; all of it above the scale
abbrev pub bar_height : ℕ → ℕ → ℕ → ℕ
bar_height value scale height = (min value scale * height + (scale - 1)) / scale
