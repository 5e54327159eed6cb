use Rattle.std.proofs.Common.{◌++◌, ap, refl, ◌∙◌}
use Rattle.std.specs.Prelude.{Option}
use Rattle.std.specs.Int.{w8, to_be_bytes}
use Rattle.pon_guar.specs.declared.account.Account.{Account}
use Rattle.pon_guar.specs.Book.{known_report, since_of_account}
use Rattle.pon_record.specs.Fields.{alloc_id, descriptor, frame, onu_id, report}
use Rattle.pon_record.specs.Bodies.{recorded_row}
use Rattle.pon_record.proofs.Put.{put_after}
use Rattle.pon_record.proofs.writing.openings.put_row.Goals as goal

pub returns : goal.returns
returns c =
    let old = c.args.bytes.now.items in
    let r = recorded_row c.args.loads.now.accounts (c.args.value.now, c.args.carry) in
    let t1 = put_after old (onu_id.write r.onu) (alloc_id.write r.alloc_id) c.put_onu.new.bytes.items c.put_alloc_id.new.bytes.items c.in_ok-put_onu.ensures c.in_ok-put_alloc_id.ensures in
    let a1 = onu_id.write r.onu ++ alloc_id.write r.alloc_id in
    let t2 = put_after old a1 (descriptor.write r.descriptor) c.put_alloc_id.new.bytes.items c.put_descriptor.new.bytes.items t1 c.in_ok-put_descriptor.ensures in
    let a2 = a1 ++ descriptor.write r.descriptor in
    let described = c.put_descriptor.new.bytes.items in
    let t3 = put_after old a2 (frame.write r.since) described (described ++ frame.write r.since) t2 refl in
    let a3 = a2 ++ frame.write r.since in
    let e4 = c.in_ok-put_account.ensures ∙ ap (λ (a : Option Account). (described ++ frame.write (since_of_account a)) ++ report.write (known_report a)) c.account.ensures in
    let t4 = put_after old a3 (report.write r.counted) (described ++ frame.write r.since) c.put_account.new.bytes.items t3 e4 in
    put_after old (a3 ++ report.write r.counted) (to_be_bytes w8 r.carry) c.put_account.new.bytes.items c.put_u8.new.bytes.items t4 c.in_ok-put_u8.ensures
