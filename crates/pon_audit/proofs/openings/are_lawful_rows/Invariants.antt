use Rattle.std.proofs.Common.{take}
use Rattle.std.specs.Prelude.{All}
use Rattle.pon_audit.specs.Openings.{RowIsLawful}
use Rattle.pon_audit.proofs.openings.are_lawful_rows.Given as goal

-- the rows so far are lawful
abbrev pub invariant-loop-row : goal.invariant-loop-row
invariant-loop-row l = All (RowIsLawful l.opening.next l.opening.window) (take l.row-index l.opening.rows)
