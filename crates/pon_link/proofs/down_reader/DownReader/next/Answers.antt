use Rattle.std.proofs.Common.{◌≡◌, List, ℕ, refl, ap, sym, ◌∙◌, subst, arith}
use Rattle.pon_link.specs.Reading.{ReaderState, HasFault, IsOpen}
use Rattle.pon_link.specs.DownRecords.{IsDownRecord, KeepsDown}
use Rattle.pon_link.proofs.Answering.{down_kept}
use Rattle.pon_link.proofs.Outcomes.{faultless, down_sound, sticky_down}
use Rattle.pon_link.proofs.down_reader.DownReader.next.Goals as goal

pub returns-in-Some-clause-outcome : goal.returns-in-Some-clause-outcome
returns-in-Some-clause-outcome c = (subst (λ (r : ReaderState). HasFault r c.in-Some.fault) c.self.view_is c.in-Some.ensures.value, refl)

pub returns-in-Some-clause-sticky : goal.returns-in-Some-clause-sticky
returns-in-Some-clause-sticky c f h =
    sticky_down c.self.inside.reading c.self.inside.reading _ f c.self.invariant c.fault.ensures.bytes (c.in-Some.ensures.value, refl) (subst (λ (r : ReaderState). HasFault r f) (sym c.self.view_is) h)

pub returns-then-needed-gt0-clause-sticky : goal.returns-then-needed-gt0-clause-sticky
returns-then-needed-gt0-clause-sticky c f h =
    let begun : IsOpen c.self.inside.reading = record { unended = c.in_default.ensures.value.1; beginning = c.needed.ensures.some (omega (arith, c.if-needed-gt0.true)) } in
    absurd (faultless c.self.inside.reading f (λ _. c.fault.ensures.bytes) begun (subst (λ (r : ReaderState). HasFault r f) (sym c.self.view_is) h))

pub returns-in-Ok-clause-sticky : goal.returns-in-Ok-clause-sticky
returns-in-Ok-clause-sticky c f h =
    let held : IsDownRecord c.self.inside.reading.held c.in-Ok.record = subst (λ (t : List ℕ). IsDownRecord t c.in-Ok.record) c.bytes.ensures.value c.in-Ok.ensures.ok in
    absurd (down_sound c.self.inside.reading c.in-Ok.record f c.self.invariant c.fault.ensures.bytes held (subst (λ (r : ReaderState). HasFault r f) (sym c.self.view_is) h))

pub returns-in-Err-clause-outcome : goal.returns-in-Err-clause-outcome
returns-in-Err-clause-outcome c =
    let held : c.bytes.result.now ≡ c.args.self.now.held = c.bytes.ensures.value ∙ ap (λ (r : ReaderState). r.held) c.self.view_is in
    down_kept c.args.self.now c.in-Err.fault (sym (ap (λ (r : ReaderState). r.direction) c.self.view_is) ∙ c.self.invariant)
    (subst (λ (t : List ℕ). KeepsDown t c.in-Err.fault) held c.in-Err.ensures.err)

pub returns-in-Err-clause-sticky : goal.returns-in-Err-clause-sticky
returns-in-Err-clause-sticky c f h =
    let kept = down_kept c.self.inside.reading c.in-Err.fault c.self.invariant (subst (λ (t : List ℕ). KeepsDown t c.in-Err.fault) c.bytes.ensures.value c.in-Err.ensures.err) in
    sticky_down c.self.inside.reading c.self.inside.reading _ f c.self.invariant c.fault.ensures.bytes kept (subst (λ (r : ReaderState). HasFault r f) (sym c.self.view_is) h)
