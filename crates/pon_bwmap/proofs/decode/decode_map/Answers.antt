use Rattle.std.proofs.Common.{◌+◌, ℕ, ap, rules, ◌∙◌}
use Rattle.pon_bwmap.proofs.WholeMap.{fault_after_head, fault_passed, rows_after_head}
use Rattle.pon_bwmap.proofs.decode.decode_map.Goals as goal

pub returns-in_err-head-clause-fault : goal.returns-in_err-head-clause-fault
returns-in_err-head-clause-fault c = fault_passed c.args.bytes.now c.from_residual.result c.in_err-head.field-0.0 (search rules) c.in_err-head.ensures.fault

pub returns-in_err-map-clause-fault : goal.returns-in_err-map-clause-fault
returns-in_err-map-clause-fault c =
    fault_passed c.args.bytes.now c.from_residual-in_err-map.result c.in_err-map.field-0.0 (search rules)
    (fault_after_head c.args.bytes.now c.in_ok-head.head c.in_ok-head.in_head c.from-count.result c.in_err-map.field-0.0 c.in_ok-head.ensures.ok (c.from-count.ensures ∙ c.n.ensures.value) c.in_err-map.ensures.fault)

pub returns-clause-ok : goal.returns-clause-ok
returns-clause-ok c = record {
  head = c.in_ok-head.head;
  in_head = c.in_ok-head.in_head;
  in_rows = c.in_ok-map.in_rows;
  reads_head = c.in_ok-head.ensures.ok;
  reads_rows = rows_after_head c.args.bytes.now c.in_ok-head.head c.from-count.result c.in_ok-map.map c.in_ok-map.in_rows (c.from-count.ensures ∙ c.n.ensures.value) c.in_ok-map.ensures.ok;
  corrected_is = ap (λ (n : ℕ). n + c.in_ok-map.in_rows) c.from.ensures;
  used_is = c.size.ensures;
}
