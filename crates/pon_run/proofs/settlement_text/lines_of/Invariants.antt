use Rattle.std.proofs.Common.{◌≡◌, ◌++◌}
use Rattle.std.specs.Prelude.{drop, string_bytes}
use Rattle.pon_run.specs.Settlements.{settlement_lines}
use Rattle.pon_run.proofs.settlement_text.lines_of.Given as goal

abbrev pub invariant-loop-settlement : goal.invariant-loop-settlement
invariant-loop-settlement l = string_bytes l.text ++ settlement_lines (drop l.settlement-index l.all) ≡ settlement_lines l.all
