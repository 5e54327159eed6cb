use Rattle.std.proofs.Common.{◌≡◌, ◌++◌, ◌∷◌, [], length, take}
use Rattle.std.specs.Prelude.{codes, flat_map, string_bytes}
use Rattle.pon_manage.specs.Rows.{named, row_line}
use Rattle.pon_manage.proofs.list.views_text.Given as goal

-- the number of Alloc-IDs, and the lines of the first ones
abbrev pub invariant-loop-view : goal.invariant-loop-view
invariant-loop-view l = string_bytes l.text ≡ named (codes "list ") (length l.views) (10 ∷ []) ++ flat_map row_line (take l.view-index l.views)
