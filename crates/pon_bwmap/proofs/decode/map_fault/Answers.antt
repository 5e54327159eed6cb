use Rattle.std.proofs.Common.{◌≡◌, true, false, IsNone, ◌∙◌, subst, Option}
use Rattle.pon_bwmap.specs.declared.fault.MapFault.{MapFault}
use Rattle.pon_bwmap.proofs.WholeMap.{begins_with_map}
use Rattle.pon_bwmap.proofs.decode.map_fault.Goals as goal
use Rattle.pon_bwmap.proofs.decode.map_fault.Goals.{in-Ok-read_rows, in-Err-Memory, in-Err-read_rows}

pub returns-clause-none : goal.returns-clause-none
returns-clause-none c none =
    elim c.match-read_rows.branch [
      | in-Ok-read_rows w ↦ let k = w.in-Ok-read_rows.ensures.ok in begins_with_map c.args.bytes.now _ _ c.from.result _ _ c.in-Ok.ensures.ok (c.from.ensures ∙ c.n.ensures.value) k
      | in-Err-Memory w ↦ let k = rw w.in-Err-Memory.field-0-is at w.in-Err-Memory.ensures.fault in begins_with_map c.args.bytes.now _ _ c.from.result k.0 k.1 c.in-Ok.ensures.ok (c.from.ensures ∙ c.n.ensures.value) k.2
      | in-Err-read_rows w ↦ let no : true ≡ false = subst (λ (o : Option MapFault). IsNone o) w.result-is none in (cc)
    ]
