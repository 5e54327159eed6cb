use Rattle.std.proofs.Common.{refl, sym, ap, subst, ◌∙◌, arith}
use Rattle.std.proofs.Common.{inl, inr, Ok, Err}
use Rattle.std.proofs.KnownBytes.{Keeps-refl, Keeps-trans}
use Rattle.pon_link.specs.Reading.{CountsDevice, ReaderState, IsOpen, Pulls, holds_more}
use Rattle.pon_link.specs.declared.pull.Pulled.{Pulled}
use Rattle.pon_link.specs.declared.pull.PullFault.{PullFault}
use Rattle.pon_worker.proofs.Bursts.{begins_still, ends_here, kept_read, more_held}
use Rattle.pon_worker.proofs.receiving.pull.Goals as goal

pub loop-try-init : goal.loop-try-init
loop-try-init g c = record { same = refl; failed = omega arith; round = λ some. absurd (omega (arith, some)); kept = Keeps-refl (g.R.DevRead.remaining c.args.reader.now) }

pub returns-in-Ok-Bytes-clause-ok : goal.returns-in-Ok-Bytes-clause-ok
returns-in-Ok-Bytes-clause-ok g c =
    let held = c.loop-try.invariant in
    let v = subst (λ (p : Pulled). Pulls c.loop-try.up c.pull.new.self (g.R.DevRead.remaining c.loop-try.reader) (g.R.DevRead.remaining c.pull.new.reader) (Ok p)) c.in-Ok-Bytes.field-0-is c.in-Ok-Bytes.ensures.value in (
      v.0,
      v.2 ∙ ap (λ (s : ReaderState). holds_more s v.0) held.same,
      kept_read (g.R.DevRead.remaining c.args.reader.now) (g.R.DevRead.remaining c.loop-try.reader) (g.R.DevRead.remaining c.pull.new.reader) v.0 held.kept v.3,
      more_held c.loop-try.up c.in-Ok-Bytes.field-0-0 v.0 (ap (λ (s : ReaderState). s.direction) held.same ∙ c.requires.up) (subst IsOpen (sym held.same) c.requires.«open») v.1 v.4,
    )

pub returns-in-Ok-End-clause-err : goal.returns-in-Ok-End-clause-err
returns-in-Ok-End-clause-err g c =
    let held = c.loop-try.invariant in
    let v = subst (λ (p : Pulled). Pulls c.loop-try.up c.pull.new.self (g.R.DevRead.remaining c.loop-try.reader) (g.R.DevRead.remaining c.pull.new.reader) (Ok p)) c.in-Ok-End.field-0-is c.in-Ok-End.ensures.value in
    let begins = begins_still c.args.up.now c.pull.new.self c.requires.up c.requires.«open» (ap (λ (s : ReaderState). s.held) (v.2 ∙ held.same)) in (
      inr (inr (c.cause_of.ensures, begins, v.4)),
      ap (λ (s : ReaderState). s.held) (v.2 ∙ held.same),
      Keeps-trans (g.R.DevRead.remaining c.args.reader.now) (g.R.DevRead.remaining c.loop-try.reader) (g.R.DevRead.remaining c.pull.new.reader) held.kept v.3,
    )

pub returns-in-Err-Link-clause-err : goal.returns-in-Err-Link-clause-err
returns-in-Err-Link-clause-err g c =
    let held = c.loop-try.invariant in
    let v = subst (λ (p : PullFault). Pulls c.loop-try.up c.pull.new.self (g.R.DevRead.remaining c.loop-try.reader) (g.R.DevRead.remaining c.pull.new.reader) (Err p)) c.in-Err-Link.field-0-is c.in-Err-Link.ensures.value in
    let at_end = ends_here c.loop-try.up c.pull.new.self (g.R.DevRead.remaining c.pull.new.reader) c.in-Err-Link.field-0-0 (ap (λ (s : ReaderState). s.direction) held.same ∙ c.requires.up) (subst IsOpen (sym held.same) c.requires.«open») v.3 in
    let begins = begins_still c.args.up.now c.pull.new.self c.requires.up c.requires.«open» (v.1 ∙ ap (λ (s : ReaderState). s.held) held.same) in (
      inr (inr (c.cause_of-in-Err-Link.ensures, begins, at_end)),
      v.1 ∙ ap (λ (s : ReaderState). s.held) held.same,
      Keeps-trans (g.R.DevRead.remaining c.args.reader.now) (g.R.DevRead.remaining c.loop-try.reader) (g.R.DevRead.remaining c.pull.new.reader) held.kept v.2,
    )

pub loop-try-preserved : goal.loop-try-preserved
loop-try-preserved g c =
    let held = c.loop-try.invariant in
    let v = subst (λ (p : PullFault). Pulls c.loop-try.up c.pull.new.self (g.R.DevRead.remaining c.loop-try.reader) (g.R.DevRead.remaining c.pull.new.reader) (Err p)) c.in-Err-Device.field-0-is c.in-Err-Device.ensures.value in
    let device = subst (λ (p : PullFault). CountsDevice (g.R.DevRead.failures c.loop-try.reader) (g.R.DevRead.failures c.pull.new.reader) (Err p)) c.in-Err-Device.field-0-is c.in-Err-Device.ensures.failures in record {
      same = v.1 ∙ held.same;
      failed = omega (arith, held.failed, device);
      round = λ some. omega (arith, device);
      kept = Keeps-trans (g.R.DevRead.remaining c.args.reader.now) (g.R.DevRead.remaining c.loop-try.reader) (g.R.DevRead.remaining c.pull.new.reader) held.kept v.2;
    }

pub returns-clause-err : goal.returns-clause-err
returns-clause-err g c =
    let held = c.loop-try.invariant in (
      inl (c.cause_of-2.ensures, subst IsOpen (sym held.same) c.requires.«open»),
      ap (λ (s : ReaderState). s.held) held.same,
      held.kept,
    )

pub returns-clause-failures : goal.returns-clause-failures
returns-clause-failures g c =
    let far = c.loop-try.invariant in
    λ is. omega (arith, far.failed, far.round, c.loop-try.auto._try-end, c.loop-try-test.false)
