use Rattle.std.proofs.Common.{length}
use Rattle.pon_tests.proofs.loads.+are_in_map_order.Given as goal

-- the list of grants gets shorter
abbrev pub decreases-are_in_map_order : goal.decreases-are_in_map_order
decreases-are_in_map_order l = length l.grants.now
