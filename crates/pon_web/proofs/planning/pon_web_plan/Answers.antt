use Rattle.std.proofs.Common.{◌≡◌, [], ◌∷◌, refl, rules, subst}
use Rattle.std.specs.Prelude.{Some, Ok}
use Rattle.pon_manage.specs.Planning.{PlannedAfter}
use Rattle.pon_web.specs.Handing.{HandsOut}
use Rattle.pon_web.specs.Planning.{only_port}
use Rattle.pon_web.proofs.Replies.{replies}
use Rattle.pon_web.proofs.planning.pon_web_plan.Goals as goal

pub returns-in-Ok-clause-told : goal.returns-in-Ok-clause-told
returns-in-Ok-clause-told c = λ _.
    let end = c.in-Ok.field-0 in
    let given = c.new-reader.result.inner.now in
    let held = c.new-writer.result.taken in
    let steps = c.new-2.result.items in
    let left = c.plan.new.reader.inner.now in
    let taken = c.plan.new.writer.taken in
    let of_port : PlannedAfter (only_port ∷ []) steps (Some given) (Some left) (Some held) (Some taken) (Ok end)
    = subst (λ p. PlannedAfter (p ∷ []) steps (Some given) (Some left) (Some held) (Some taken) (Ok end)) c.only_port.ensures c.in-Ok.ensures.text in
    let of_steps : PlannedAfter (only_port ∷ []) [] (Some given) (Some left) (Some held) (Some taken) (Ok end)
    = subst (λ s. PlannedAfter (only_port ∷ []) s (Some given) (Some left) (Some held) (Some taken) (Ok end)) c.new-2.ensures.items of_port in
    let of_nothing : PlannedAfter (only_port ∷ []) [] (Some given) (Some left) (Some []) (Some taken) (Ok end)
    = subst (λ h. PlannedAfter (only_port ∷ []) [] (Some given) (Some left) (Some h) (Some taken) (Ok end)) c.new-writer.ensures.taken of_steps in
    let all : given ≡ c.args.lines.now = search rules in
    let of_lines : PlannedAfter (only_port ∷ []) [] (Some c.args.lines.now) (Some left) (Some []) (Some taken) (Ok end)
    = subst (λ l. PlannedAfter (only_port ∷ []) [] (Some l) (Some left) (Some []) (Some taken) (Ok end)) all of_nothing in
    let text : HandsOut taken c.args.room.now c.hand_out.new.room c.hand_out.new.length
    = subst (λ t. HandsOut t c.args.room.now c.hand_out.new.room c.hand_out.new.length) c.bytes.ensures c.hand_out.ensures in
    record {
      replies = taken;
      is = replies (only_port ∷ []) end c.args.lines.now left taken of_lines c.in-Ok.ensures.end;
      status_is = refl;
      text = text;
    }
