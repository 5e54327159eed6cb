use Rattle.std.proofs.Common.{take}
use Rattle.std.specs.Prelude.{All}
use Rattle.pon_audit.specs.Judging.{OpensAt}
use Rattle.pon_audit.proofs.chain.is_chained.Given as goal

-- the chapter opens with the ends so far
abbrev pub invariant-loop-end : goal.invariant-loop-end
invariant-loop-end l = All (OpensAt l.chapter) (take l.end-index l.ends)
