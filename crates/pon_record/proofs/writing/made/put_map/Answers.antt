use Rattle.std.proofs.Common.{◌++◌, ap, ◌∙◌, List, ℕ}
use Rattle.pon_record.proofs.Put.{map_in_room}
use Rattle.pon_record.proofs.writing.made.put_map.Goals as goal

pub returns : goal.returns
returns c =
    c.in_ok-extend_from_slice.ensures.items
    ∙ ap (λ (l : List ℕ). c.args.bytes.now.items ++ l) (map_in_room c.write_map-size.new.room _ c.args.value.now c.write_map-size.result c.write_map-size.ensures.count c.write_map-size.ensures.bytes)
