use Rattle.std.proofs.Common.{◌≡◌, ◌+◌, take}
use Rattle.std.specs.Prelude.{sum_by}
use Rattle.pon_audit.specs.Verdicts.{maps_in}
use Rattle.pon_audit.proofs.progress.add_maps.Given as goal

-- the number of maps so far
abbrev pub invariant-loop-chapter : goal.invariant-loop-chapter
invariant-loop-chapter l = l.sum ≡ l.maps + sum_by maps_in (take l.chapter-index l.chapters)
