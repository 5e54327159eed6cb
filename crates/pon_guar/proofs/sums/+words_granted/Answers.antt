use Rattle.std.proofs.Common.{◌∙◌, arith, rules, subst, sym}
use Rattle.std.specs.Prelude.{All}
use Rattle.std.proofs.lemmas.List.Elements.{All-tail}
use Rattle.pon_guar.specs.Window.{IsLawfulMap}
use Rattle.pon_guar.proofs.RunningSums.{granted_is, granted_later, summed_parts}
use Rattle.pon_guar.proofs.sums.+words_granted.Goals as goal

pub words_granted-requires : goal.words_granted-requires
words_granted-requires t c =
    let maps = c.in-Some.ensures.cases in
    let sums = c.in-Some-split_first.ensures.cases in (
      search rules,
      (
        omega (arith, maps.1, c.requires.few),
        (
          omega (arith, maps.1, sums.1, c.requires.as_many),
          (
            All-tail IsLawfulMap c.in-Some.parts.0.now c.in-Some.parts.1.now (subst (All IsLawfulMap) maps.0 c.requires.lawful),
            (summed_parts c.args.maps.now c.in-Some.parts.1.now c.in-Some.parts.0.now c.args.sums.now c.in-Some-split_first.parts.1.now c.in-Some-split_first.parts.0.now maps.0 sums.0 c.requires.summed).1,
          ),
        ),
      ),
    )

pub returns-in-None-sum_before : goal.returns-in-None-sum_before
returns-in-None-sum_before t c =
    c.words_granted.ensures
    ∙ granted_later c.args.maps.now c.in-Some.parts.1.now c.in-Some.parts.0.now c.args.sums.now c.in-Some-split_first.parts.1.now c.in-Some-split_first.parts.0.now c.in-Some.ensures.cases.0 c.in-Some-split_first.ensures.cases.0 c.requires.summed
    c.args.onu c.args.alloc_id (sym c.sum_before.ensures ∙ c.in-None-sum_before.is)

pub returns : goal.returns
returns t c =
    granted_is c.args.maps.now c.in-Some.parts.1.now c.in-Some.parts.0.now c.args.sums.now c.in-Some-split_first.parts.1.now c.in-Some-split_first.parts.0.now c.in-Some.ensures.cases.0 c.in-Some-split_first.ensures.cases.0 c.requires.summed
    c.args.onu c.args.alloc_id c.in-Some-sum_before.before c.in-Some-sum_now.sum c.requires.as_many c.requires.few (search rules)
    (sym c.sum_before.ensures ∙ c.in-Some-sum_before.is) (sym c.sum_now.ensures ∙ c.in-Some-sum_now.is)
