use Rattle.std.proofs.Common.{ap}
use Rattle.pon_state.specs.Entry.{Entry}
use Rattle.pon_desk.specs.Posts.{IsSomeRefusal}
use Rattle.pon_manage.proofs.DeskPosts.{kept_post, refused_post}
use Rattle.pon_manage.proofs.at_desk.AtDesk.answer_event.Goals as goal

pub returns-in-Ok-clause-ok : goal.returns-in-Ok-clause-ok
returns-in-Ok-clause-ok g c =
    kept_post c.args.port c.args.event c.args.seat.now c.post.new.seat c.keep.new.self c.in-Ok.receipt c.index.result c.entry.result.now.reply c.args.replies.now.items c.append_reply-appended.new.replies.items c.append_reply-appended.result
    c.in-Ok.ensures.posted c.in-Ok.ensures.names c.in-Ok.ensures.counted c.keep.ensures.number c.keep.ensures.counts c.keep.ensures.kept c.index.ensures (ap (λ (e : Entry). e.reply) c.entry.ensures) c.append_reply-appended.ensures.ok

pub returns-in_default-clause-ok : goal.returns-in_default-clause-ok
returns-in_default-clause-ok g c =
    let some : IsSomeRefusal c.args.event c.in-Err-Refused.refusal = rw c.in-Err-Refused.field-0-is at c.in-Err-Refused.ensures.refused in
    refused_post c.args.port c.args.event c.args.seat.now c.post.new.seat c.in-Err-Refused.refusal c.args.replies.now.items c.append_refusal.new.replies.items c.append_refusal.result some c.in_default.not-OutOfMemory c.in-Err-Refused.ensures.err c.append_refusal.ensures.ok
