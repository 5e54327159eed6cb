use Rattle.std.proofs.Common.{◌≡◌, ◌++◌, take}
use Rattle.std.specs.Prelude.{filter_map}
use Rattle.pon_resume.specs.Changes.{removal_for}
use Rattle.pon_resume.proofs.changes.add_removals.Given as goal

-- those of the rows so far
abbrev pub invariant-loop-row : goal.invariant-loop-row
invariant-loop-row l = l.changes.items ≡ l.fn.changes.items ++ filter_map (removal_for l.wanted) (take l.row-index l.rows)
