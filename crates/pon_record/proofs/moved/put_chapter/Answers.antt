use Rattle.std.proofs.Common.{◌≡◌, ◌+◌, length, refl, rules}
use Rattle.pon_record.proofs.MovedBodies.{chapter_put, head_of}
use Rattle.pon_record.proofs.moved.put_chapter.Goals as goal

pub put_head-requires : goal.put_head-requires
put_head-requires c =
    let same : c.as_slice-rows.result.now ≡ c.args.chapter.now.body.opening.rows = search rules in
    let size = length c.split_at.result.1.now + length c.as_slice-rows.result.now + 1 in
    (head_of c.args.chapter.now.body c.args.bytes.now c.split_at.result.1.now c.as_slice-rows.result.now size c.requires.fits c.requires.is c.split_at.ensures.back same refl).small

pub returns : goal.returns
returns c =
    let same : c.as_slice-rows.result.now ≡ c.args.chapter.now.body.opening.rows = search rules in
    let size = length c.split_at.result.1.now + length c.as_slice-rows.result.now + 1 in
    let head = head_of c.args.chapter.now.body c.args.bytes.now c.split_at.result.1.now c.as_slice-rows.result.now size c.requires.fits c.requires.is c.split_at.ensures.back same refl in
    chapter_put c.args.chapter.now.body size c.args.out.now.items c.put_head.new.out.items c.put_body.new.out.items head c.in_ok-put_head.ensures c.in_ok-put_body.ensures
