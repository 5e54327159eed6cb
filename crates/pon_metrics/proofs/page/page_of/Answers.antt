use Rattle.std.proofs.Common.{◌≡◌, ◌∙◌, ◌++◌, ap, get_or, rules, string_bytes, sym, take}
use Rattle.std.proofs.lemmas.List.{flat_map_more, take_more}
use Rattle.std.specs.Prelude.{flat_map}
use Rattle.pon_metrics.specs.Metrics.{metrics}
use Rattle.pon_metrics.specs.Page.{build_text, metric_text}
use Rattle.pon_metrics.specs.declared.metric.Metric.TheVariants.{Up}
use Rattle.pon_metrics.proofs.page.page_of.Goals as goal

pub loop-metric-preserved : goal.loop-metric-preserved
loop-metric-preserved c =
    let i = c.loop-metric.metric-index in
    let head = build_text c.args.version.now in
    let f = metric_text c.args.ports.now in
    let lines : string_bytes c.in_ok-lines.lines ≡ f (get_or metrics i Up) = search rules in
    let pushed : string_bytes c.push_str.new.self ≡ string_bytes c.loop-metric.text ++ string_bytes c.in_ok-lines.lines = search rules in
    pushed ∙ (λ k. c.loop-metric.invariant k ++ lines k) ∙ flat_map_more f head (take i metrics) (get_or metrics i Up)
    ∙ ap (λ xs. head ++ flat_map f xs) (sym (take_more metrics i Up (search rules)))
