use Rattle.std.proofs.Common.{◌≡◌, false, List, ℕ, MatchOption, ap, sym, ◌∙◌, subst}
use Rattle.pon_link.specs.Reading.{ReaderState, KeepsForm, HasFault}
use Rattle.pon_link.proofs.Answering.{form_fault_shown}
use Rattle.pon_link.proofs.held.RecordBuffer.fault.Goals as goal

pub returns-clause-value : goal.returns-clause-value
returns-clause-value g c =
    let s = c.self.inside in
    let view : ReaderState = record { direction = s.direction; held = s.bytes.items; ended = s.ended } in
    let held : c.bytes-bytes.result.now ≡ s.bytes.items = c.bytes-bytes.ensures.value ∙ sym (ap (λ (r : ReaderState). r.held) c.self.view_is) in
    let told : MatchOption c.form_fault.result (KeepsForm s.direction s.bytes.items) (λ f. HasFault (record { direction = s.direction; held = s.bytes.items; ended = false }) f)
    = subst (λ (t : List ℕ). MatchOption c.form_fault.result (KeepsForm s.direction t) (λ f. HasFault (record { direction = s.direction; held = t; ended = false }) f)) held c.form_fault.ensures.value in
    subst (λ (r : ReaderState). MatchOption c.form_fault.result (KeepsForm r.direction r.held × (r.ended ≡ false)) (λ f. HasFault r f)) c.self.view_is
    (form_fault_shown (record { direction = s.direction; held = s.bytes.items; ended = s.ended }) c.form_fault.result c.if-self.false told)
