use Rattle.std.proofs.Common.{arith, rules}
use Rattle.std.proofs.lemmas.List.{drop-drop, length-drop}
use Rattle.std.proofs.lemmas.List.Elements.{All-drop}
use Rattle.pon_guar.specs.Window.{IsLawfulMap}
use Rattle.pon_guar.proofs.RunningSums.{summed_drop}
use Rattle.pon_guar.proofs.window.Window.words_since.Goals as goal

pub words_granted-requires-clause-summed : goal.words_granted-requires-clause-summed
words_granted-requires-clause-summed c =
    let maps = c.self.inside.maps.items in
    let sums = c.self.inside.sums.items in
    let past = c.self.inside.past in
    rw (c.from_index-maps.ensures, c.from_index-sums.ensures, c.deref.ensures.value, c.deref-2.ensures.value, ← drop-drop c.args.place past maps, ← drop-drop c.args.place past sums)
    (summed_drop c.args.place _ _ (c.self.invariant.summed (search rules)) (omega (arith, length-drop past maps, length-drop past sums)))

pub words_granted-requires-clause-lawful : goal.words_granted-requires-clause-lawful
words_granted-requires-clause-lawful c =
    rw (c.from_index-maps.ensures, c.deref.ensures.value, ← drop-drop c.args.place c.self.inside.past c.self.inside.maps.items)
    (All-drop IsLawfulMap c.args.place _ c.self.invariant.window.maps)
