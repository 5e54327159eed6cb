use Rattle.std.proofs.Common.{ap, ◌∙◌}
use Rattle.pon_c.proofs.Recorded.{given_of}
use Rattle.pon_c.proofs.turning.put_recording.Goals as goal

pub returns-in-Ok : goal.returns-in-Ok
returns-in-Ok c = given_of _ _ c.fill.result c.fill.new.size c.args.room.now c.fill.new.room (c.bytes.ensures ∙ ap (λ d. d.taken) c.writer.ensures ∙ c.in-Ok.ensures) c.fill.ensures.filled c.fill.ensures.number
