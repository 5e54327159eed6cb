use Rattle.std.proofs.Common.{◌≡◌, ◌≢◌, ◌↔◌, ◌∙◌, Bool, true, false, true≢false, List, [], ℕ, Result, Ok, Err, length, ap, refl, rules, subst, sym}
use Rattle.std.specs.Prelude.{◌==◌}
use Rattle.std.proofs.lemmas.Bool.{eqb-true}
use Rattle.std.proofs.lemmas.List.{nil_from_length}
use Rattle.std.proofs.lemmas.Result.{IfOk-from_err}
use Rattle.pon_record.specs.declared.record_fault.RecordFault.{RecordFault}
use Rattle.pon_record.specs.declared.record_fault.RecordFault.TheVariants.{Busy, Device, Memory}
use Rattle.pon_record.specs.Recorders.{CountsDevice, IsTaken}
use Rattle.pon_record.specs.Bodies.{chapter_body}
use Rattle.pon_record.proofs.RecordedBytes.{grows}
use Rattle.pon_record.proofs.record_file.RecordFile.append.Goals as goal

none_left : (shown left : List ℕ) → shown ≡ left → true ≡ (length shown == 0) → left ≡ []
none_left shown left same empty = sym same ∙ nil_from_length shown (eqb-true _ _ (sym empty))

some_left : (shown left : List ℕ) → shown ≡ left → false ≡ (length shown == 0) → left ≢ []
some_left shown left same full none = true≢false (sym (ap (λ (l : List ℕ). length l == 0) (same ∙ none)) ∙ sym full)

abbrev is_busy : Result (Unit {0}) RecordFault → Bool
is_busy (Ok x) = false
is_busy (Err Busy) = true
is_busy (Err Memory) = false
is_busy (Err Device) = false

-- nothing was left
not_busy : (r : Result (Unit {0}) RecordFault) (left : List ℕ) → left ≡ [] → is_busy r ≡ false → (r ≡ Err Busy) ↔ (left ≢ [])
not_busy r left none other = (λ busy. absurd (true≢false (sym (ap is_busy busy) ∙ other)), λ some. absurd (some none))

not_taken : {P : Type 0} (r : Result (Unit {0}) RecordFault) → r ≡ Err Memory → IsTaken r → P
not_taken r is taken = absurd (subst IsTaken is taken)

pub returns-in-Ok-clause-taken : goal.returns-in-Ok-clause-taken
returns-in-Ok-clause-taken g c =
    let none = none_left c.left.result.now c.args.self.now.left c.left.ensures c.if-not-is_empty.ensures in
    λ taken. grows (g.W.DevWrite.contents c.args.self.now.device) (g.W.DevWrite.contents c.write_next.new.self.device) c.args.self.now.left c.write_next.new.self.left
    _ (chapter_body c.args.port c.args.chapter.now) none c.in_ok-bytes.ensures c.write_next.ensures.sent

pub returns-in-Err-clause-taken : goal.returns-in-Err-clause-taken
returns-in-Err-clause-taken g c =
    let none = none_left c.left.result.now c.args.self.now.left c.left.ensures c.if-not-is_empty.ensures in
    λ taken. grows (g.W.DevWrite.contents c.args.self.now.device) (g.W.DevWrite.contents c.write_next.new.self.device) c.args.self.now.left c.write_next.new.self.left
    _ (chapter_body c.args.port c.args.chapter.now) none c.in_ok-bytes.ensures c.write_next.ensures.sent

pub returns-then-not-is_empty-clause-taken : goal.returns-then-not-is_empty-clause-taken
returns-then-not-is_empty-clause-taken g c = λ taken. absurd taken

pub returns-then-not-is_empty-clause-unchanged : goal.returns-then-not-is_empty-clause-unchanged
returns-then-not-is_empty-clause-unchanged g c = λ _. refl

pub returns-then-not-is_empty-clause-busy : goal.returns-then-not-is_empty-clause-busy
returns-then-not-is_empty-clause-busy g c = (λ _. some_left c.left.result.now c.args.self.now.left c.left.ensures c.if-not-is_empty.ensures, λ _. refl)

pub returns-then-not-is_empty-clause-failures : goal.returns-then-not-is_empty-clause-failures
returns-then-not-is_empty-clause-failures g c = refl

pub write_next-requires : goal.write_next-requires
write_next-requires g c = none_left c.left.result.now c.args.self.now.left c.left.ensures c.if-not-is_empty.ensures

pub returns-in_err-bytes-clause-ok : goal.returns-in_err-bytes-clause-ok
returns-in_err-bytes-clause-ok g c = IfOk-from_err c.from_residual.result _ c.from_residual.ensures.0

pub returns-in_err-bytes-clause-taken : goal.returns-in_err-bytes-clause-taken
returns-in_err-bytes-clause-taken g c =
    let is : c.from_residual.result ≡ Err Memory = search rules in
    not_taken c.from_residual.result is

pub returns-in_err-bytes-clause-unchanged : goal.returns-in_err-bytes-clause-unchanged
returns-in_err-bytes-clause-unchanged g c = λ _. refl

pub returns-in_err-bytes-clause-busy : goal.returns-in_err-bytes-clause-busy
returns-in_err-bytes-clause-busy g c =
    let is : c.from_residual.result ≡ Err Memory = search rules in
    not_busy c.from_residual.result c.args.self.now.left (none_left c.left.result.now c.args.self.now.left c.left.ensures c.if-not-is_empty.ensures) (ap is_busy is)

pub returns-in_err-bytes-clause-failures : goal.returns-in_err-bytes-clause-failures
returns-in_err-bytes-clause-failures g c =
    let is : c.from_residual.result ≡ Err Memory = search rules in
    subst (λ r. CountsDevice (g.W.DevWrite.failures c.args.self.now.device) (g.W.DevWrite.failures c.args.self.now.device) r) (sym is) refl

pub returns-in-Ok-clause-ok : goal.returns-in-Ok-clause-ok
returns-in-Ok-clause-ok g c = c.in-Ok.ensures.ok

pub returns-in-Ok-clause-unchanged : goal.returns-in-Ok-clause-unchanged
returns-in-Ok-clause-unchanged g c = λ not. absurd (not tt)

pub returns-in-Ok-clause-busy : goal.returns-in-Ok-clause-busy
returns-in-Ok-clause-busy g c = not_busy (Ok tt) c.args.self.now.left (none_left c.left.result.now c.args.self.now.left c.left.ensures c.if-not-is_empty.ensures) refl

pub returns-in-Ok-clause-failures : goal.returns-in-Ok-clause-failures
returns-in-Ok-clause-failures g c = c.in-Ok.ensures.failures

pub returns-in-Err-clause-unchanged : goal.returns-in-Err-clause-unchanged
returns-in-Err-clause-unchanged g c = λ not. absurd (not tt)

pub returns-in-Err-clause-busy : goal.returns-in-Err-clause-busy
returns-in-Err-clause-busy g c = not_busy (Err Device) c.args.self.now.left (none_left c.left.result.now c.args.self.now.left c.left.ensures c.if-not-is_empty.ensures) refl

pub returns-in-Err-clause-failures : goal.returns-in-Err-clause-failures
returns-in-Err-clause-failures g c = c.in-Err.ensures.failures
