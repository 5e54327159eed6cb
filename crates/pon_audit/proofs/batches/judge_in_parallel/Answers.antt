use Rattle.std.proofs.Common.{◌∙◌, ap}
use Rattle.pon_audit.specs.Judging.{IsJudgment}
use Rattle.pon_audit.proofs.EachOk.{all_answered}
use Rattle.pon_audit.proofs.batches.judge_in_parallel.Goals as goal

pub returns : goal.returns
returns g c =
    let made = c.in_ok-collect.ensures in
    let chain = made.1 in
    let slice = ap (λ it. it.base.slice.now) c.map.ensures.base ∙ ap (λ it. it.slice.now) c.with_min_len.ensures.base ∙ c.par_iter.ensures in
    all_answered _ IsJudgment (λ v. v.items) c.args.chapters.now chain.0 made.0 c.in_ok-collect.field-0 _ (chain.1 ∙ slice) chain.2 made.2
