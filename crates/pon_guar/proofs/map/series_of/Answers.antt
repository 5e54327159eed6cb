use Rattle.std.proofs.Common.{◌∙◌, ap, take}
use Rattle.pon_guar.proofs.Series.{own_series}
use Rattle.pon_guar.proofs.map.series_of.Goals as goal

pub returns-clause-grants : goal.returns-clause-grants
returns-clause-grants c =
    c.split_at-2.ensures.front
    ∙ ap (λ n. take n c.split_at.result.1.now) c.series_len.ensures.len
    ∙ own_series c.args.onu c.args.grants.now c.split_at.result.1.now c.requires (c.split_at.ensures.back ∙ c.count_below-first.ensures.others)
