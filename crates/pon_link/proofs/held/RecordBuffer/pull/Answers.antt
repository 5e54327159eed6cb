use Rattle.std.proofs.Common.{◌≡◌, ◌<◌, ◌≤◌, ◌∙◌, List, [], ap, arith, false, inl, inr, length, refl, rules, subst, sym, take, ℕ}
use Rattle.std.proofs.lemmas.List.{length-take-le, take-append-le}
use Rattle.std.specs.Prelude.{Option, Some, None}
use Rattle.pon_device.specs.Device.{Consumes, Keeps}
use Rattle.pon_device.proofs.DeviceBytes.{keeps_itself}
use Rattle.pon_link.specs.Reading.{IsOpen, MayBecomeRecord, ReaderState, holds_more}
use Rattle.pon_link.proofs.Growth.{taken_within}
use Rattle.pon_link.proofs.Sizes.{within_more}
use Rattle.pon_link.proofs.held.RecordBuffer.pull.Goals as goal

positive : (n : ℕ) → (n ≡ 0 → ⊥) → 0 < n
positive n h = omega (arith, h)

-- a reader that needs bytes takes them
takes_bytes : (s : ReaderState) (needed : ℕ) → s.ended ≡ false → (0 < needed → MayBecomeRecord s.direction s.held) → (needed ≡ 0 → ⊥) → IsOpen s
takes_bytes s needed unended begins some = record { unended = unended; beginning = begins (positive needed some) }

pub hold_all-requires : goal.hold_all-requires
hold_all-requires g c =
    let begun = c.needed-needed.ensures.some (positive c.needed-needed.result c.if-needed-eq0.false) in (
      search rules,
      (
        takes_bytes c.args.self.now c.needed-needed.result c.in_default.ensures.value.1 c.needed-needed.ensures.some c.if-needed-eq0.false,
        within_more c.args.self.now.direction c.args.self.now.held _ c.needed-needed.result begun c.needed-needed.ensures.untold c.needed-needed.ensures.told (taken_within c.in-Ok.n c.needed-needed.result _ _ c.in-Ok.ensures.count),
      ),
    )

pub returns-in-Some-end-clause-waits : goal.returns-in-Some-end-clause-waits
returns-in-Some-end-clause-waits g c = λ closed. absurd (closed (takes_bytes c.args.self.now c.needed-needed.result c.in_default.ensures.value.1 c.needed-needed.ensures.some c.if-needed-eq0.false))

pub returns-in-Some-end-clause-one_read : goal.returns-in-Some-end-clause-one_read
returns-in-Some-end-clause-one_read g c = λ opened. c.read.ensures.calls

pub returns-in-None-end-clause-waits : goal.returns-in-None-end-clause-waits
returns-in-None-end-clause-waits g c = λ closed. absurd (closed (takes_bytes c.args.self.now c.needed-needed.result c.in_default.ensures.value.1 c.needed-needed.ensures.some c.if-needed-eq0.false))

pub returns-in-None-end-clause-one_read : goal.returns-in-None-end-clause-one_read
returns-in-None-end-clause-one_read g c = λ opened. c.read.ensures.calls

pub returns-in-Ok-clause-waits : goal.returns-in-Ok-clause-waits
returns-in-Ok-clause-waits g c = λ closed. absurd (closed (takes_bytes c.args.self.now c.needed-needed.result c.in_default.ensures.value.1 c.needed-needed.ensures.some c.if-needed-eq0.false))

pub returns-in-Ok-clause-one_read : goal.returns-in-Ok-clause-one_read
returns-in-Ok-clause-one_read g c = λ opened. c.read.ensures.calls

pub returns-in-Err-clause-waits : goal.returns-in-Err-clause-waits
returns-in-Err-clause-waits g c = λ closed. absurd (closed (takes_bytes c.args.self.now c.needed-needed.result c.in_default.ensures.value.1 c.needed-needed.ensures.some c.if-needed-eq0.false))

pub returns-in-Err-clause-one_read : goal.returns-in-Err-clause-one_read
returns-in-Err-clause-one_read g c = λ opened. c.read.ensures.calls

pub returns-in-Some-clause-value : goal.returns-in-Some-clause-value
returns-in-Some-clause-value g c = (c.in-Some.ensures.value, refl, keeps_itself (g.R.DevRead.remaining c.args.reader.now), inl (c.in-Some.ensures.value, refl))

pub returns-in-Err-clause-value : goal.returns-in-Err-clause-value
returns-in-Err-clause-value g c = (takes_bytes c.args.self.now c.needed-needed.result c.in_default.ensures.value.1 c.needed-needed.ensures.some c.if-needed-eq0.false, refl, c.in-Err.ensures.bytes)

returns_nothing : (old new : Option (List ℕ)) → Consumes old new [] → Keeps old new
returns_nothing None new c = tt
returns_nothing (Some o) None c = absurd c
returns_nothing (Some o) (Some n) c = sym c

nothing_read : (old new : Option (List ℕ)) (xs : List ℕ) (n : ℕ) → n ≡ 0 → Consumes old new (take n xs) → Keeps old new
nothing_read old new xs n zero c = returns_nothing old new (subst (λ n. Consumes old new (take n xs)) zero c)

pub returns-in-Ok-clause-value : goal.returns-in-Ok-clause-value
returns-in-Ok-clause-value g c =
    let le : c.in-Ok.n ≤ length c.read.new.buf = search rules in
    let some : 0 < c.in-Ok.n = search rules in (
      take c.in-Ok.n c.read.new.buf,
      length-take-le c.in-Ok.n c.read.new.buf le,
      c.hold_all.ensures.held ∙ ap (holds_more c.args.self.now) (take-append-le c.in-Ok.n c.read.new.buf _ le),
      c.in-Ok.ensures.bytes.0,
      inr (takes_bytes c.args.self.now c.needed-needed.result c.in_default.ensures.value.1 c.needed-needed.ensures.some c.if-needed-eq0.false, some),
    )

pub returns-in-Some-end-clause-value : goal.returns-in-Some-end-clause-value
returns-in-Some-end-clause-value g c =
    let zero : c.in-Ok-eq0.field-0 ≡ 0 = search rules in
    let some : 0 < length c.read.new.buf = search rules in (
      c.in-Some-end.ensures.value.0,
      c.in-Some-end.ensures.value.1,
      nothing_read (g.R.DevRead.remaining c.args.reader.now) (g.R.DevRead.remaining c.read.new.self) c.read.new.buf c.in-Ok-eq0.field-0 zero c.in-Ok-eq0.ensures.bytes.0,
      inr (takes_bytes c.args.self.now c.needed-needed.result c.in_default.ensures.value.1 c.needed-needed.ensures.some c.if-needed-eq0.false, c.in-Ok-eq0.ensures.bytes.1 zero some),
    )

pub returns-in-None-end-clause-value : goal.returns-in-None-end-clause-value
returns-in-None-end-clause-value g c =
    let zero : c.in-Ok-eq0.field-0 ≡ 0 = search rules in
    let some : 0 < length c.read.new.buf = search rules in (
      c.in-None-end.ensures.value.0,
      takes_bytes c.args.self.now c.needed-needed.result c.in_default.ensures.value.1 c.needed-needed.ensures.some c.if-needed-eq0.false,
      c.in-None-end.ensures.value.1,
      nothing_read (g.R.DevRead.remaining c.args.reader.now) (g.R.DevRead.remaining c.read.new.self) c.read.new.buf c.in-Ok-eq0.field-0 zero c.in-Ok-eq0.ensures.bytes.0,
      c.in-Ok-eq0.ensures.bytes.1 zero some,
    )
