use Rattle.std.proofs.Common.{◌≡◌, map, take}
use Rattle.pon_admit.specs.Roster.{IsAdmitted}
use Rattle.pon_audit.specs.Openings.{admitted_row}
use Rattle.pon_audit.proofs.openings.admit_rows.Given as goal

-- the rows so far are admitted
abbrev pub invariant-loop-raw : goal.invariant-loop-raw
invariant-loop-raw l = IsAdmitted l.fn.rule l.fn.gap (map admitted_row (take l.raw-index l.rows)) × (l.roster ≡ record { rule = l.fn.rule; gap = l.fn.gap; rows = map admitted_row (take l.raw-index l.rows) })
