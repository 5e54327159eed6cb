use Rattle.pon_check_file.specs.Parts.{left_of, parts_of}
use Rattle.pon_check_file.specs.CheckLines.{flags_from}
use Rattle.pon_check_file.proofs.Naming.{Given}
use Rattle.pon_check_file.proofs.set.flags_from.Given as goal

-- the flags so far, and those of the remaining items
abbrev pub invariant-loop-item : goal.invariant-loop-item
invariant-loop-item l = Given l.item l.count (flags_from 0 l.count (parts_of l.set)) l.flags.items (left_of l.indexes.left)
