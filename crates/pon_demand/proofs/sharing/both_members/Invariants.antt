use Rattle.pon_descr.specs.declared.class.Class.TheVariants.{NonAssured, BestEffort}
use Rattle.pon_demand.proofs.MembersSoFar.{AreSoFar}
use Rattle.pon_demand.proofs.sharing.both_members.Given as goal

-- the members of each class among the demands so far
abbrev pub invariant-loop-demand : goal.invariant-loop-demand
invariant-loop-demand l = record {
  na : AreSoFar NonAssured l.demands l.demand-index l.na;
  be : AreSoFar BestEffort l.demands l.demand-index l.be;
}
