use Rattle.std.proofs.Common.{◌≡◌, ◌∙◌, ap, get_or}
use Rattle.pon_bwmap.specs.MapBytes.{structure_bytes}
use Rattle.pon_bwmap.proofs.MapWriting.{structure_written, rest_kept}
use Rattle.pon_bwmap.proofs.encode.write_map.Goals as goal

pub loop-k-preserved : goal.loop-k-preserved
loop-k-preserved c =
    let rows = c.rows-rows.result.now in
    let row = c.index-rows-k.result in
    let is : c.structure.result ≡ structure_bytes (get_or rows c.loop-k.k row) = c.structure.ensures ∙ ap structure_bytes c.index-rows-k.is in
    record {
      written = structure_written c.loop-k.room c.put-in-loop-k.new.room c.structure.result _ rows c.loop-k.k row c.loop-k-test.true is c.put-in-loop-k.ensures.front c.loop-k.invariant.written;
      kept = rest_kept c.loop-k.room c.put-in-loop-k.new.room c.args.room.now c.structure.result c.loop-k.k row c.structure.ensures c.put-in-loop-k.ensures.back c.loop-k.invariant.kept;
    }
