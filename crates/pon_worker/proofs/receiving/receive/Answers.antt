use Rattle.std.proofs.Common.{List, ℕ, ◌++◌, sym, ap, subst, ◌∙◌, arith, length, length-append}
use Rattle.std.proofs.Common.{inl, inr, Ok, Option}
use Rattle.std.proofs.KnownBytes.{Consumes-nil, Consumes-trans, Consumes-kept}
use Rattle.pon_device.specs.Device.{Consumes}
use Rattle.pon_link.specs.Reading.{ReaderState, Returns, HasFault}
use Rattle.pon_link.specs.UpRecords.{IsRecord}
use Rattle.pon_link.specs.declared.record.UpRecord.{UpRecord}
use Rattle.pon_worker.proofs.Bursts.{held_within}
use Rattle.pon_worker.proofs.receiving.receive.Goals as goal

pub loop-record-init : goal.loop-record-init
loop-record-init g c =
    let left = g.R.DevRead.remaining c.args.reader.now in record {
      up = ap (λ (s : ReaderState). s.direction) c.requires;
      open_end = ap (λ (s : ReaderState). s.ended) c.requires;
      held = subst (λ (s : ReaderState). Consumes left left s.held) (sym c.requires) (Consumes-nil left);
    }

pub returns-in-Ok-Some-clause-ok : goal.returns-in-Ok-Some-clause-ok
returns-in-Ok-Some-clause-ok g c =
    let v = subst (λ (o : Option UpRecord). Returns IsRecord c.loop-record.up c.next.new.self (Ok o)) c.in-Ok-Some.field-0-is c.in-Ok-Some.ensures.outcome in
    (c.loop-record.up.held, v.0, c.loop-record.invariant.held)

pub loop-record-preserved : goal.loop-record-preserved
loop-record-preserved g c =
    let v = c.in-Ok.ensures.ok in
    let far = c.loop-record.invariant in
    let same = (subst (λ (o : Option UpRecord). Returns IsRecord c.loop-record.up c.next.new.self (Ok o)) c.in-Ok-None.field-0-is c.in-Ok-None.ensures.outcome).1 in
    let left = g.R.DevRead.remaining c.args.reader.now in
    let now = g.R.DevRead.remaining c.pull.new.reader in
    let more = Consumes-trans left (g.R.DevRead.remaining c.loop-record.reader) now c.loop-record.up.held v.0 far.held v.2 in record {
      up = ap (λ (s : ReaderState). s.direction) (v.1) ∙ ap (λ (s : ReaderState). s.direction) same ∙ far.up;
      open_end = ap (λ (s : ReaderState). s.ended) (v.1) ∙ ap (λ (s : ReaderState). s.ended) same ∙ far.open_end;
      held = subst (λ (s : ReaderState). Consumes left now s.held) (sym v.1) (subst (λ (s : ReaderState). Consumes left now (s.held ++ v.0)) (sym same) more);
    }

pub loop-record-smaller : goal.loop-record-smaller
loop-record-smaller g c =
    let v = c.in-Ok.ensures.ok in
    let old = subst (λ (o : Option UpRecord). Returns IsRecord c.loop-record.up c.next.new.self (Ok o)) c.in-Ok-None.field-0-is c.in-Ok-None.ensures.outcome in
    let within = held_within c.loop-record.up c.loop-record.invariant.up old.0 in
    let same = ap (λ (s : ReaderState). length s.held) old.1 in
    let more = ap (λ (s : ReaderState). length s.held) v.1 in
    omega (arith, within, same, more, v.3, length-append c.next.new.self.held v.0)

pub returns-in-Err-pull-clause-err : goal.returns-in-Err-pull-clause-err
returns-in-Err-pull-clause-err g c =
    let v = c.in-Err-pull.ensures.err in
    let far = c.loop-record.invariant in
    let same = (subst (λ (o : Option UpRecord). Returns IsRecord c.loop-record.up c.next.new.self (Ok o)) c.in-Ok-None.field-0-is c.in-Ok-None.ensures.outcome).1 in
    let left = g.R.DevRead.remaining c.args.reader.now in
    let now = g.R.DevRead.remaining c.pull.new.reader in
    let all = Consumes-kept left (g.R.DevRead.remaining c.loop-record.reader) now c.loop-record.up.held far.held v.2 in (
      v.0,
      subst (λ (t : List ℕ). Consumes left now t) (sym (v.1 ∙ ap (λ (s : ReaderState). s.held) same)) all,
    )

pub returns-in-Err-clause-err : goal.returns-in-Err-clause-err
returns-in-Err-clause-err g c =
    let v = c.in-Err.ensures.outcome in
    let left = g.R.DevRead.remaining c.args.reader.now in
    let now = g.R.DevRead.remaining c.loop-record.reader in (
      inr (inl (c.cause_of.ensures, ap (λ (s : ReaderState). s.ended) v.1 ∙ c.loop-record.invariant.open_end, (c.in-Err.field-0, subst (λ (s : ReaderState). HasFault s c.in-Err.field-0) (sym v.1) v.0))),
      subst (λ (s : ReaderState). Consumes left now s.held) (sym v.1) c.loop-record.invariant.held,
    )
