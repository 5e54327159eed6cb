-- What is handed to the host.
use Rattle.std.specs.Prelude.{ℕ, ◌≡◌, ◌≤◌, ◌<◌, ◌++◌, List, length, drop}

-- the host learns the length of the answer; if it fits, it is at the front of the room, and nothing else changes
pub record HandsOut (answer before after : List ℕ) (told : ℕ) : Type 0 where
  pub count : told ≡ length answer
  pub fits : length answer ≤ length before → after ≡ answer ++ drop (length answer) before
  pub full : length before < length answer → after ≡ before

-- nothing is handed out
pub record HandsNothing (before after : List ℕ) (told_before told_after : ℕ) : Type 0 where
  pub room : after ≡ before
  pub told : told_after ≡ told_before
