use Rattle.std.proofs.Common.{◌<◌, length}
use Rattle.std.specs.Prelude.{IfSome}
use Rattle.pon_look.proofs.finding.Search.place_in.Given as goal

-- the chapter found is one of these
abbrev pub invariant-loop-chapter : goal.invariant-loop-chapter
invariant-loop-chapter l = IfSome l.found (λ at. at.chapter < length l.chapters)
