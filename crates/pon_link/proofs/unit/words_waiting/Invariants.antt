use Rattle.std.proofs.Common.{◌≡◌, ◌==◌, drop}
use Rattle.std.specs.List.{list_any}
use Rattle.pon_link.specs.Units.{waiting}
use Rattle.pon_link.proofs.unit.words_waiting.Given as goal

abbrev pub invariant-loop-alloc_id : goal.invariant-loop-alloc_id
invariant-loop-alloc_id l = record {
  own : list_any (λ q. q.0 == l.id) (drop l.alloc_id-index l.queues) ≡ list_any (λ q. q.0 == l.id) l.queues;
  words : waiting (drop l.alloc_id-index l.queues) l.id ≡ waiting l.queues l.id;
}
