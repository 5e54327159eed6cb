use Rattle.std.proofs.Common.{◌≡◌, ◌++◌, string_bytes, take}
use Rattle.std.specs.Prelude.{flat_map}
use Rattle.pon_metrics.specs.Metrics.{metrics}
use Rattle.pon_metrics.specs.Page.{build_text, metric_text}
use Rattle.pon_metrics.proofs.page.page_of.Given as goal

-- the version, and the lines of the metrics so far
abbrev pub invariant-loop-metric : goal.invariant-loop-metric
invariant-loop-metric l = string_bytes l.text ≡ build_text l.fn.version ++ flat_map (metric_text l.ports) (take l.metric-index metrics)
