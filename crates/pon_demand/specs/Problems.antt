-- The two class problems of a map.
use Rattle.std.specs.Prelude.{◌≡◌}
use Rattle.pon_descr.specs.declared.class.Class.TheVariants.{NonAssured, BestEffort}
use Rattle.pon_cert.specs.Problem.{IsProblem}
use Rattle.pon_demand.specs.Input.{Input}
use Rattle.pon_demand.specs.Demands.{demands_of}
use Rattle.pon_demand.specs.Sharing.{items, member_ids, surplus}
use Rattle.pon_demand.specs.declared.problems.Problems.{Problems}

-- the demand of each admitted Alloc-ID, the members of the two classes, and the surplus
pub record AreProblems (s : Input) (p : Problems) : Type 0 where
  pub demands : p.demands.items ≡ demands_of s
  pub na_ids : p.na.ids.items ≡ member_ids NonAssured s.roster
  pub na_items : p.na.items.items ≡ items NonAssured s
  pub be_ids : p.be.ids.items ≡ member_ids BestEffort s.roster
  pub be_items : p.be.items.items ≡ items BestEffort s
  pub surplus : p.surplus ≡ surplus s
  -- the two problems are of the size that a checker accepts
  pub na_problem : IsProblem p.na.items.items p.surplus
  pub be_problem : IsProblem p.be.items.items p.surplus
