-- Bytes that are given into a room of the caller.
use Rattle.std.specs.Prelude.{ℕ, ◌≡◌, ◌≢◌, ◌<◌, ◌++◌, List, length, drop}
use Rattle.pon_c.specs.declared.numbers.TheConstants.{OUT_OF_MEMORY, NO_ROOM}

-- the bytes are at the front of the room, and the rest of it is unchanged; or the room is smaller than they are, and
-- unchanged; `size` is their number
pub record IsFilled (bytes : List ℕ) (n size : ℕ) (before after : List ℕ) : Type 0 where
  pub count : size ≡ length bytes
  pub ok : n ≡ 0 → after ≡ bytes ++ drop size before
  pub err : n ≢ 0 → (n ≡ NO_ROOM) × (length before < size) × (after ≡ before)

-- the same, unless memory is refused
pub record IsGiven (bytes : List ℕ) (n size : ℕ) (before after : List ℕ) : Type 0 where
  pub filled : n ≢ OUT_OF_MEMORY → IsFilled bytes n size before after
  pub refused : n ≡ OUT_OF_MEMORY → after ≡ before
