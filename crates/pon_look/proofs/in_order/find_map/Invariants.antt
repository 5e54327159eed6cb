use Rattle.std.specs.Prelude.{IfSome, Some}
use Rattle.pon_audit.specs.Auditing.{IsAuditing}
use Rattle.pon_look.specs.Finding.{IsFound}
use Rattle.pon_look.proofs.in_order.find_map.Given as goal

-- the audit goes on, and a map that was found is there
abbrev pub invariant-loop-batch : goal.invariant-loop-batch
invariant-loop-batch l = record {
  auditing : IsAuditing (Some l.fn.recording) l.auditing (Some l.reader.inner.now);
  found : IfSome l.found IsFound;
}
