use Rattle.std.proofs.Common.{◌≡◌, ◌∙◌, ℕ, ◌++◌, ◌∷◌, List, [], ap, append_assoc, arith, map, sym, take}
use Rattle.std.proofs.lemmas.List.{map_more, take_all}
use Rattle.pon_bwmap.specs.Alloc.{Alloc}
use Rattle.pon_units.specs.declared.Granted.{Granted}
use Rattle.pon_burst.specs.Maps.{structure_of}
use Rattle.pon_burst.proofs.MapRules.{within_frame}
use Rattle.pon_burst.proofs.laying.lay_bursts.Goals as goal

pub structure-requires : goal.structure-requires
structure-requires c = omega (arith, c.loop-granted.invariant.after.end, within_frame c.args.gap c.args.grants.now c.loop-granted.granted-index c.requires.fit)

pub loop-granted-preserved : goal.loop-granted-preserved
loop-granted-preserved c =
    let grants = c.args.grants.now in
    let i : ℕ = c.loop-granted.granted-index in
    let lt = c.loop-granted-test.true in
    let g = c.granted-item.result in
    let before = c.args.out.now.items in
    let structure = structure_of c.args.gap c.args.profile grants in
    let step = c.structure.ensures grants i c.requires.order lt c.granted-item.is c.loop-granted.invariant.after in
    record {
      after = step.1;
      structures = c.push_reserved.ensures.items
          ∙ (λ j. c.loop-granted.invariant.structures j ++ (step.0 ∙ ap structure c.granted-item.is) j ∷ [])
          ∙ append_assoc before (map structure (take i grants)) _
          ∙ ap (λ (l : List Alloc). before ++ l) (sym (map_more structure grants i g lt));
      room = omega (arith, c.push_reserved.ensures.capacity, c.loop-granted.invariant.room);
      count = omega (arith, c.push_reserved.ensures.len, c.loop-granted.invariant.count);
    }

pub returns-clause-structures : goal.returns-clause-structures
returns-clause-structures c =
    let all : take c.loop-granted.granted-index c.args.grants.now ≡ c.args.grants.now = take_all c.loop-granted.granted-index c.args.grants.now (omega arith) in
    c.loop-granted.invariant.structures ∙ ap (λ (gs : List Granted). c.args.out.now.items ++ map (structure_of c.args.gap c.args.profile c.args.grants.now) gs) all
