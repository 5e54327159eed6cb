use Rattle.std.proofs.Common.{◌≡◌, ◌≤◌, length}
use Rattle.std.specs.Prelude.{take}
use Rattle.pon_recorder.specs.PortMaps.{map_count}
use Rattle.pon_recorder.proofs.map_count.map_count.Given as goal

-- all maps are among the entries that are not read yet
abbrev pub invariant-loop-end : goal.invariant-loop-end
invariant-loop-end l = record {
  within : l.end ≤ length l.fn.chapter.entries;
  maps : map_count l.fn.chapter.entries ≡ map_count (take l.end l.fn.chapter.entries);
}

abbrev pub decreases-loop-end : goal.decreases-loop-end
decreases-loop-end l = l.end
