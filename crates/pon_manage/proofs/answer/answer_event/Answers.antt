use Rattle.std.proofs.Common.{◌≡◌, subst, sym}
use Rattle.std.specs.Prelude.{IfOk, Ok, slice_get}
use Rattle.pon_plant.proofs.Turning.{keeps_step}
use Rattle.pon_manage.proofs.AnswerLaws.{at, kept_refusal, kept_text, refused_text, reply_there, told_refusal}
use Rattle.pon_manage.proofs.answer.answer_event.Goals as goal

pub last_entry-requires : goal.last_entry-requires
last_entry-requires c = reply_there c.args.plant.now c.keep.new.self (at c.port_no-port.result c.args.event) c.in-Ok.ensures.ok

pub returns-in_ok-append_reply-in-Ok-clause-ok : goal.returns-in_ok-append_reply-in-Ok-clause-ok
returns-in_ok-append_reply-in-Ok-clause-ok c =
    rw (← c.port_no-port.ensures) (kept_text {T = Unit {0}} {E = Unit {0}} c.args.plant.now c.keep.new.self c.port_no-port.result c.args.event c.in-Ok.index c.last_entry.result.now.reply c.args.replies.now.items c.append_reply.new.replies.items (Ok (tt {0}))
    c.in-Ok.ensures.ok c.in-Ok.ensures.index c.last_entry.ensures c.in_ok-append_reply-in-Ok.ensures.ok)

pub returns-in_ok-append_reply-in-Ok-clause-refusal : goal.returns-in_ok-append_reply-in-Ok-clause-refusal
returns-in_ok-append_reply-in-Ok-clause-refusal c =
    rw (← c.port_no-port.ensures) (sym (kept_refusal c.args.plant.now c.keep.new.self c.port_no-port.result c.args.event c.in-Ok.ensures.ok))

pub returns-in_ok-append_reply-in-Ok-clause-path : goal.returns-in_ok-append_reply-in-Ok-clause-path
returns-in_ok-append_reply-in-Ok-clause-path c = keeps_step c.args.plant.now c.keep.new.self (at c.port_no-port.result c.args.event) c.in-Ok.ensures.ok

pub returns-in_err-append_reply-in-Ok-clause-path : goal.returns-in_err-append_reply-in-Ok-clause-path
returns-in_err-append_reply-in-Ok-clause-path c = keeps_step c.args.plant.now c.keep.new.self (at c.port_no-port.result c.args.event) c.in-Ok.ensures.ok

pub returns-in_default-clause-ok : goal.returns-in_default-clause-ok
returns-in_default-clause-ok c =
    rw (← c.port_no-port.ensures) (refused_text c.args.plant.now c.keep.new.self c.port_no-port.result c.args.event c.in-Err-Refused.refusal c.args.replies.now.items c.refuse.new.replies.items c.refuse.result
    (rw c.in-Err-Refused.field-0-is at c.in-Err-Refused.ensures.refused) (rw c.in-Err-Refused.field-0-is at c.in_default.not-OutOfMemory) c.in-Err-Refused.ensures.err
    (rw c.in-Err-Refused.field-0-is at c.refuse.ensures.ok))

pub returns-in_default-clause-refusal : goal.returns-in_default-clause-refusal
returns-in_default-clause-refusal c =
    rw (← c.port_no-port.ensures) (subst (λ told. IfOk c.refuse.result (λ r. r ≡ told))
    (sym (told_refusal (slice_get c.args.plant.now c.port_no-port.result) c.args.event c.in-Err-Refused.refusal
    (rw c.in-Err-Refused.field-0-is at c.in-Err-Refused.ensures.refused) (rw c.in-Err-Refused.field-0-is at c.in_default.not-OutOfMemory)))
    (rw c.in-Err-Refused.field-0-is at c.refuse.ensures.refusal))
