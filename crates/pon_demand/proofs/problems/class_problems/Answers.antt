use Rattle.std.proofs.Common.{◌≡◌, ◌∙◌, refl}
use Rattle.pon_descr.specs.declared.class.Class.TheVariants.{NonAssured, BestEffort}
use Rattle.pon_demand.specs.Demands.{demands_of}
use Rattle.pon_demand.specs.Sharing.{items, surplus}
use Rattle.pon_demand.proofs.ClassItems.{ids_demanded, items_demanded, problem_of, surplus_range}
use Rattle.pon_demand.proofs.problems.class_problems.Goals as goal

pub returns : goal.returns
returns c =
    let s = c.args.input.now in
    let k = c.requires.admitted in
    let all : c.as_slice.result.now ≡ demands_of s = c.as_slice.ensures.value ∙ c.in_ok-demands.ensures in
    let na_items : c.in_ok-both.both.na.items.items ≡ items NonAssured s = c.in_ok-both.ensures.na_items ∙ items_demanded s NonAssured _ all in
    let be_items : c.in_ok-both.both.be.items.items ≡ items BestEffort s = c.in_ok-both.ensures.be_items ∙ items_demanded s BestEffort _ all in
    record {
      demands = c.in_ok-demands.ensures;
      na_ids = c.in_ok-both.ensures.na_ids ∙ ids_demanded s NonAssured _ all;
      na_items = na_items;
      be_ids = c.in_ok-both.ensures.be_ids ∙ ids_demanded s BestEffort _ all;
      be_items = be_items;
      surplus = c.surplus_of-surplus.ensures;
      na_problem = rw (na_items, c.surplus_of-surplus.ensures) (problem_of s NonAssured (surplus s) refl k.few_allocs k.in_range (surplus_range s));
      be_problem = rw (be_items, c.surplus_of-surplus.ensures) (problem_of s BestEffort (surplus s) refl k.few_allocs k.in_range (surplus_range s));
    }
