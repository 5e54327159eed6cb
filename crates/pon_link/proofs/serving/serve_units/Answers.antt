use Rattle.std.proofs.Common.{ℕ, List, Ok, Err, refl, sym, ap, ◌∙◌, subst, arith}
use Rattle.pon_lists.specs.Bytes.{AreBytes}
use Rattle.pon_link.specs.Reading.{ReaderState, IsOpen, HasFault, Pulls}
use Rattle.pon_link.specs.declared.fault.LinkFault.{LinkFault}
use Rattle.pon_link.specs.declared.pull.Pulled.{Pulled}
use Rattle.pon_link.specs.declared.pull.PullFault.{PullFault}
use Rattle.pon_link.specs.Serving.{HasServed}
use Rattle.pon_link.proofs.Rounds.{starts_open, ends_here, none_served, read_more, read_kept, goes_on, stops}
use Rattle.pon_link.proofs.serving.serve_units.Goals as goal

pub loop-turn-init : goal.loop-turn-init
loop-turn-init g c =
    let left = g.R.DevRead.remaining c.args.reader.now in
    let out = g.W.DevWrite.contents c.args.writer.now in
    let new = sym c.new-down.ensures in record {
      is_open = subst IsOpen new starts_open;
      direction = ap (λ (s : ReaderState). s.direction) c.new-down.ensures;
      small = subst (λ (s : ReaderState). AreBytes s.held) new (λ k. omega arith);
      served = subst (λ (s : ReaderState). HasServed left left out out c.args.units.now c.args.units.now s.held) new (none_served left out c.args.units.now);
      failed_reads = refl;
      failed_writes = refl;
      reads = omega arith;
      round = λ some. absurd (omega (arith, some));
    }

pub returns-in-Err-Link-clause-answers : goal.returns-in-Err-Link-clause-answers
returns-in-Err-Link-clause-answers g c =
    let far = c.loop-turn.invariant in
    let a = g.R.DevRead.remaining c.args.reader.now in
    let b = g.R.DevRead.remaining c.loop-turn.reader in
    let z = g.R.DevRead.remaining c.pull.new.reader in
    let out_old = g.W.DevWrite.contents c.args.writer.now in
    let out_new = g.W.DevWrite.contents c.loop-turn.writer in
    let v = subst (λ (p : PullFault). Pulls c.loop-turn.down c.pull.new.self b z (Err p)) c.in-Err-Link.field-0-is c.in-Err-Link.ensures.value in (
      c.pull.new.self,
      subst (λ (held : List ℕ). HasServed a z out_old out_new c.args.units.now c.loop-turn.units held) (sym v.1) (read_kept a b z out_old out_new c.args.units.now c.loop-turn.units c.loop-turn.down.held far.served v.2),
      c.pull.ensures.down,
      subst (λ (fault : LinkFault). HasFault c.pull.new.self fault) (sym c.in-Err-Link.fault-is) v.0,
      λ over. ends_here c.loop-turn.down c.pull.new.self z _ far.small far.is_open v.3,
    )

pub returns-in-Err-clause-answers : goal.returns-in-Err-clause-answers
returns-in-Err-clause-answers g c =
    let far = c.loop-turn.invariant in
    let a = g.R.DevRead.remaining c.args.reader.now in
    let b = g.R.DevRead.remaining c.loop-turn.reader in
    let z = g.R.DevRead.remaining c.pull.new.reader in
    let out_old = g.W.DevWrite.contents c.args.writer.now in
    let out_mid = g.W.DevWrite.contents c.loop-turn.writer in
    let out_new = g.W.DevWrite.contents c.answer_held.new.writer in
    let v = subst (λ (p : Pulled). Pulls c.loop-turn.down c.pull.new.self b z (Ok p)) c.in-Ok-Bytes.field-0-is c.in-Ok-Bytes.ensures.value in
    let served = subst (λ (s : ReaderState). HasServed a z out_old out_mid c.args.units.now c.loop-turn.units s.held) (sym v.2) (read_more a b z out_old out_mid c.args.units.now c.loop-turn.units c.loop-turn.down.held v.0 far.served v.3) in
    stops c.in-Err.fault c.pull.new.self c.answer_held.new.down a z out_old out_mid out_new c.args.units.now c.loop-turn.units c.answer_held.new.units c.answer_held.ensures.down (ap (λ (s : ReaderState). s.ended) v.2 ∙ far.is_open.unended) served c.in-Err.ensures.answers

pub loop-turn-preserved : goal.loop-turn-preserved
loop-turn-preserved g c =
    let far = c.loop-turn.invariant in
    let a = g.R.DevRead.remaining c.args.reader.now in
    let b = g.R.DevRead.remaining c.loop-turn.reader in
    let z = g.R.DevRead.remaining c.pull.new.reader in
    let out_old = g.W.DevWrite.contents c.args.writer.now in
    let out_mid = g.W.DevWrite.contents c.loop-turn.writer in
    let out_new = g.W.DevWrite.contents c.answer_held.new.writer in
    let v = subst (λ (p : Pulled). Pulls c.loop-turn.down c.pull.new.self b z (Ok p)) c.in-Ok-Bytes.field-0-is c.in-Ok-Bytes.ensures.value in
    let served = subst (λ (s : ReaderState). HasServed a z out_old out_mid c.args.units.now c.loop-turn.units s.held) (sym v.2) (read_more a b z out_old out_mid c.args.units.now c.loop-turn.units c.loop-turn.down.held v.0 far.served v.3) in
    let on = goes_on c.pull.new.self c.answer_held.new.down a z out_old out_mid out_new c.args.units.now c.loop-turn.units c.answer_held.new.units c.answer_held.ensures.down c.answer_held.ensures.bytes served c.in-Ok.ensures.answers in
    let read = c.pull.ensures.one_read far.is_open in record {
      is_open = on.is_open;
      direction = on.direction;
      small = on.small;
      served = on.served;
      failed_reads = c.in-Ok-Bytes.ensures.failures ∙ far.failed_reads;
      failed_writes = c.in-Ok.ensures.failures ∙ far.failed_writes;
      reads = omega (arith, far.reads, read);
      round = λ some. omega (arith, read);
    }
