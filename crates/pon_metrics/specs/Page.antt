-- The page of metrics, in the text format 0.0.4 of Prometheus.
use Rattle.std.specs.Prelude.{ℕ, suc, List, [], ◌∷◌, ◌++◌, codes, decimal, flat_map, Option, Some, None}
use Rattle.pon_metrics.specs.declared.port.PortMetrics.{PortMetrics}
use Rattle.pon_metrics.specs.declared.metric.Metric.{Metric}
use Rattle.pon_metrics.specs.Metrics.{factor_of, help_of, kind_of, metrics, name_of, value_of}

-- NAME{port="P"} VALUE, and a line feed; nothing if there is no value
abbrev pub sample_of : Metric → ℕ → Option ℕ → List ℕ
sample_of m port None = []
sample_of m port (Some value) =
    name_of m ++ (codes "{port=\"" ++ (decimal port ++ (codes "\"} " ++ (decimal value ++ (factor_of m ++ 10 ∷ [])))))

-- a line for each port that has a value, numbered from this number on
abbrev pub samples_from : Metric → ℕ → List PortMetrics → List ℕ
samples_from m port [] = []
samples_from m port (p ∷ ps) = sample_of m port (value_of m p) ++ samples_from m (suc port) ps

-- # HELP NAME TEXT, and # TYPE NAME TYPE
abbrev pub head_of : Metric → List ℕ
head_of m =
    codes "# HELP " ++ (name_of m ++ (32 ∷ help_of m ++ (10 ∷ codes "# TYPE " ++ (name_of m ++ (32 ∷ kind_of m ++ 10 ∷ [])))))

-- the lines of a metric
abbrev pub metric_text : List PortMetrics → Metric → List ℕ
metric_text ports m = head_of m ++ samples_from m 0 ports

-- the version of the program
abbrev pub build_text : List ℕ → List ℕ
build_text version =
    codes "# HELP olt_build_info The version of the program.\n# TYPE olt_build_info gauge\nolt_build_info{version=\""
    ++ (version ++ codes "\"} 1\n")

-- the version, and then the lines of each metric
abbrev pub page_of : List ℕ → List PortMetrics → List ℕ
page_of version ports = build_text version ++ flat_map (metric_text ports) metrics
