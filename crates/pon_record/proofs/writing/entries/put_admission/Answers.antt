use Rattle.std.proofs.Common.{◌++◌}
use Rattle.pon_record.specs.Fields.{alloc_id, descriptor, onu_id}
use Rattle.pon_record.proofs.Put.{put_after}
use Rattle.pon_record.proofs.writing.entries.put_admission.Goals as goal

pub returns : goal.returns
returns c =
    let old = c.args.bytes.now.items in
    let row = c.args.row.now in
    let to1 = put_after old (onu_id.write row.onu) (alloc_id.write row.alloc_id) c.put_onu.new.bytes.items c.put_alloc_id.new.bytes.items c.in_ok-put_onu.ensures c.in_ok-put_alloc_id.ensures in
    put_after old ((onu_id.write row.onu) ++ alloc_id.write row.alloc_id) (descriptor.write row.descriptor) c.put_alloc_id.new.bytes.items c.put_descriptor.new.bytes.items to1 c.in_ok-put_descriptor.ensures
