use Rattle.std.proofs.Common.{◌≡◌, ◌∙◌, ◌+◌, ◌++◌, ◌∷◌, List, [], ap, rules, subst, sym, take}
use Rattle.std.proofs.lemmas.List.{take_all, take_more}
use Rattle.std.proofs.lemmas.List.Elements.{All-take}
use Rattle.pon_guar.specs.Sums.{AreSummed, sums_beside}
use Rattle.pon_guar.specs.Window.{IsLawfulMap, WindowMap}
use Rattle.pon_guar.proofs.RunningSums.{summed_restored}
use Rattle.pon_guar.proofs.sums.sums_of.Goals as goal

pub loop-i-preserved : goal.loop-i-preserved
loop-i-preserved c =
    let maps = c.args.maps.now in
    let done = take c.loop-i.i maps in
    let m = c.index-maps-i.result in
    let sums = c.loop-i.sums.items in
    let more : take (c.loop-i.i + 1) maps ≡ done ++ m ∷ [] = take_more maps c.loop-i.i m (search rules) ∙ ap (λ x. done ++ x ∷ []) (sym c.index-maps-i.is) in
    let next : c.push.new.self.items ≡ sums ++ sums_beside done sums m.grants ∷ [] = search rules in
    record {
      count = search rules;
      summed = subst (λ s. AreSummed (take (c.loop-i.i + 1) maps) s) (sym next) (subst (λ ms. AreSummed ms (sums ++ sums_beside done sums m.grants ∷ [])) (sym more)
          (summed_restored m done sums c.loop-i.invariant.summed (search rules) (search rules)));
    }

pub next_sums-requires-clause-lawful : goal.next_sums-requires-clause-lawful
next_sums-requires-clause-lawful c = All-take IsLawfulMap c.loop-i.i c.args.maps.now c.requires

pub returns-clause-summed : goal.returns-clause-summed
returns-clause-summed c = subst (λ (maps : List WindowMap). AreSummed maps c.loop-i.sums.items) (take_all c.loop-i.i c.args.maps.now c.loop-i-test.false) c.loop-i.invariant.summed
