-- A walk through the entries of a port.
use Rattle.std.specs.Prelude.{ℕ, ◌+◌, List, [], ◌++◌, drop, flat_map, length, Option, None, Some}
use denote.Ref.{Bor}
use Rattle.pon_history.specs.Chapters.{Chapter}
use Rattle.pon_desk.specs.Settling.{placed_from, placed_in}
use Rattle.pon_desk.specs.declared.receipt.Placed.{Placed}
use Rattle.pon_desk.specs.declared.walk.Walk.{Walk}

-- the entries of the kept chapter, if the walk has not reached it
abbrev pub left_kept : Option (Bor Chapter) → List Placed
left_kept None = []
left_kept (Some port) = placed_in port.now

-- the entries after the present chapter, each with its place
abbrev pub left_after : Walk → List Placed
left_after w = flat_map placed_in w.later.now ++ left_kept w.kept

-- the entries that are not passed yet
abbrev pub left_of : Walk → List Placed
left_of w = drop w.index (placed_from w.number 0 w.entries.now) ++ left_after w

-- the number of chapters after the present one
abbrev pub count_kept : Option (Bor Chapter) → ℕ
count_kept None = 0
count_kept (Some port) = 1

abbrev pub chapters_left : Walk → ℕ
chapters_left w = length w.later.now + count_kept w.kept
