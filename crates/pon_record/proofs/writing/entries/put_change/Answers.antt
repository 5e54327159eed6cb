use Rattle.pon_record.specs.Fields.{alloc_id, descriptor}
use Rattle.pon_record.proofs.Put.{put_after}
use Rattle.pon_record.proofs.writing.entries.put_change.Goals as goal

pub returns : goal.returns
returns c =
    let old = c.args.bytes.now.items in
    put_after old (alloc_id.write c.args.alloc_id) (descriptor.write c.args.descriptor.now) c.put_alloc_id.new.bytes.items c.put_descriptor.new.bytes.items c.in_ok-put_alloc_id.ensures c.in_ok-put_descriptor.ensures
