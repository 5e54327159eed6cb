use Rattle.std.proofs.Common.{refl, ◌∙◌}
use Rattle.pon_look.proofs.Loops.{ends_so, goes_on}
use Rattle.pon_look.proofs.contents.audit_rest.Goals as goal

pub returns-in-Some-clause-verdict : goal.returns-in-Some-clause-verdict
returns-in-Some-clause-verdict g c = ends_so _ _ c.loop-batch.invariant.auditing c.in_ok-batch.ensures.judged c.in-Some.is

pub loop-batch-init : goal.loop-batch-init
loop-batch-init g c = record { auditing = λ start is. is; none_failed = refl }

pub next-requires : goal.next-requires
next-requires g c = (c.type_bounds.sync-typeof-rt, (c.requires.0, c.loop-batch.invariant.auditing c.requires.0 c.requires.1))

pub loop-batch-preserved : goal.loop-batch-preserved
loop-batch-preserved g c = record {
  auditing = goes_on _ _ c.loop-batch.invariant.auditing c.in_ok-batch.ensures.judged c.in_default.is;
  none_failed = c.in_ok-batch.ensures.failures ∙ c.loop-batch.invariant.none_failed;
}
