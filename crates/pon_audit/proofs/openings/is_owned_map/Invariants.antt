use Rattle.std.proofs.Common.{take}
use Rattle.std.specs.Prelude.{All}
use Rattle.pon_audit.specs.Openings.{GrantIsOwned}
use Rattle.pon_audit.proofs.openings.is_owned_map.Given as goal

-- the grants so far are owned
abbrev pub invariant-loop-granted : goal.invariant-loop-granted
invariant-loop-granted l = All (GrantIsOwned l.rows l.loads.accounts l.map.frame) (take l.granted-index l.map.grants)
