-- The two directions of the format of events agree.
use Rattle.std.proofs.Common.{◌≡◌, ℕ, Bool, true, false, cond, eqb, List, ◌∷◌, ◌++◌, Option, Some, None, refl, sym, ap, subst, ◌∙◌, lit<, ◌<◌, arith}
use Rattle.std.specs.Int.{w8}
use Rattle.std.proofs.lemmas.Bool.{eqb-true}
use Rattle.pon_descr.specs.Descriptor.{Descriptor}
use Rattle.pon_admit.specs.declared.event.Event.{Event}
use Rattle.pon_admit.specs.declared.event.Event.TheVariants.{Admit, Change, Remove, Report, MakeMap, Fail, Restore}
use Rattle.pon_lists.specs.Bytes.{AreBytes}
use Rattle.pon_lists.specs.OptionSteps.{◌>>=◌}
use Rattle.pon_record.specs.Format.{Format, number}
use Rattle.pon_record.specs.Fields.{alloc_id, cause}
use Rattle.pon_record.specs.Events.{EventFits, admit_fields, change_fields, event, event_at, event_bytes, occupancies, occupancy_code, occupancy_meaning, report_fields}
use Rattle.pon_record.proofs.Exact.{IsExact, bind_some, both, lists, only_those, rest_fits, some_is, told}
use Rattle.pon_record.proofs.Exactness.{n8, n32, n64, exact_alloc, exact_cause, exact_descriptor, exact_onu}

occupancy_is : (n : ℕ) (o : Option ℕ) (y z : Bool) → eqb n 0xffffffff ≡ z → cond z (Some None) (cond y (Some (Some n)) None) ≡ Some o → occupancy_code o ≡ n
occupancy_is n o y true t e = ap occupancy_code (sym (some_is None o e)) ∙ sym (eqb-true n 0xffffffff t)
occupancy_is n o true false t e = ap occupancy_code (sym (some_is (Some n) o e))
occupancy_is n o false false t e = absurd cc

exact_occupancies : IsExact occupancies
exact_occupancies = lists _ 16 _ (only_those _ _ n8) (told occupancy_meaning occupancy_code _ n32 (λ n o fits e. occupancy_is n o _ (eqb n 0xffffffff) refl e))

exact_admit : IsExact admit_fields
exact_admit = both _ _ exact_onu (both _ _ exact_alloc exact_descriptor)

exact_change : IsExact change_fields
exact_change = both _ _ exact_alloc exact_descriptor

exact_told : IsExact report_fields
exact_told = both _ _ n64 (both _ _ exact_onu exact_occupancies)

-- an event is read back from its tag and fields
event_again : (e : Event) (rest : List ℕ) → EventFits e → event.read (event_bytes e ++ rest) ≡ Some (e, rest)
event_again (Admit r) rest fits =
    let fields : ℕ × (ℕ × Descriptor) = (r.onu, (r.alloc_id, r.descriptor)) in
    rw (n8.again 1 (admit_fields.write fields ++ rest) (lit< tt), exact_admit.again fields rest fits) refl
event_again (Change i d) rest fits = rw (n8.again 2 (change_fields.write (i, d) ++ rest) (lit< tt), exact_change.again (i, d) rest fits) refl
event_again (Remove i) rest fits = rw (n8.again 3 (alloc_id.write i ++ rest) (lit< tt), exact_alloc.again i rest fits) refl
event_again (Report f u occ) rest fits = rw (n8.again 4 (report_fields.write (f, (u, occ)) ++ rest) (lit< tt), exact_told.again (f, (u, occ)) rest fits) refl
event_again MakeMap rest fits = rw (n8.again 5 rest (lit< tt)) refl
event_again (Fail c) rest fits = rw (n8.again 6 (cause.write c ++ rest) (lit< tt), exact_cause.again c rest fits) refl
event_again Restore rest fits = rw (n8.again 7 rest (lit< tt)) refl

-- the bytes from which an event was read
abbrev IsFrom : ℕ → List ℕ → Event × List ℕ → Type 0
IsFrom t bytes x = EventFits x.0 × (t ∷ bytes ≡ event_bytes x.0 ++ x.1)

-- the fields after a tag
after_tag : {A : Type 0} (f : Format A) → IsExact f → (make : A → Event) (t : ℕ) → ((a : A) → f.Fits a → EventFits (make a)) → ((a : A) → event_bytes (make a) ≡ t ∷ f.write a) →
    (bytes : List ℕ) (x : Event × List ℕ) → AreBytes bytes → (f.read bytes >>= λ a. Some (make a.0, a.1)) ≡ Some x → IsFrom t bytes x
after_tag f F make t fits writes bytes x h e =
    let a = bind_some (f.read bytes) (λ a. Some (make a.0, a.1)) x e in
    let s = F.takes bytes a.0.0 a.0.1 h a.1 in
    subst (IsFrom t bytes) (some_is (make a.0.0, a.0.1) x a.2) (fits a.0.0 s.0, ap (λ b. t ∷ b) s.1 ∙ ap (λ b. b ++ a.0.1) (sym (writes a.0.0)))

event_takes : (t : ℕ) (bytes : List ℕ) (x : Event × List ℕ) → AreBytes bytes → (b1 b2 b3 b4 b5 b6 b7 : Bool) →
    eqb t 1 ≡ b1 → eqb t 2 ≡ b2 → eqb t 3 ≡ b3 → eqb t 4 ≡ b4 → eqb t 5 ≡ b5 → eqb t 6 ≡ b6 → eqb t 7 ≡ b7 →
    cond b1 (admit_fields.read bytes >>= λ a. Some (Admit (record { onu = a.0.0; alloc_id = a.0.1.0; descriptor = a.0.1.1 }), a.1))
    (cond b2 (change_fields.read bytes >>= λ a. Some (Change a.0.0 a.0.1, a.1))
    (cond b3 (alloc_id.read bytes >>= λ a. Some (Remove a.0, a.1))
    (cond b4 (report_fields.read bytes >>= λ a. Some (Report a.0.0 a.0.1.0 a.0.1.1, a.1))
    (cond b5 (Some (MakeMap, bytes))
    (cond b6 (cause.read bytes >>= λ a. Some (Fail a.0, a.1))
    (cond b7 (Some (Restore, bytes)) None)))))) ≡ Some x → IsFrom t bytes x
event_takes t bytes x h true b2 b3 b4 b5 b6 b7 e1 e2 e3 e4 e5 e6 e7 e =
    rw (eqb-true t 1 e1) (after_tag admit_fields exact_admit (λ a. Admit (record { onu = a.0; alloc_id = a.1.0; descriptor = a.1.1 })) 1 (λ a f. f) (λ a. refl) bytes x h e)
event_takes t bytes x h false true b3 b4 b5 b6 b7 e1 e2 e3 e4 e5 e6 e7 e =
    rw (eqb-true t 2 e2) (after_tag change_fields exact_change (λ a. Change a.0 a.1) 2 (λ a f. f) (λ a. refl) bytes x h e)
event_takes t bytes x h false false true b4 b5 b6 b7 e1 e2 e3 e4 e5 e6 e7 e =
    rw (eqb-true t 3 e3) (after_tag alloc_id exact_alloc (λ a. Remove a) 3 (λ a f. f) (λ a. refl) bytes x h e)
event_takes t bytes x h false false false true b5 b6 b7 e1 e2 e3 e4 e5 e6 e7 e =
    rw (eqb-true t 4 e4) (after_tag report_fields exact_told (λ a. Report a.0 a.1.0 a.1.1) 4 (λ a f. f) (λ a. refl) bytes x h e)
event_takes t bytes x h false false false false true b6 b7 e1 e2 e3 e4 e5 e6 e7 e =
    rw (eqb-true t 5 e5) (subst (IsFrom 5 bytes) (some_is (MakeMap, bytes) x e) (tt, refl))
event_takes t bytes x h false false false false false true b7 e1 e2 e3 e4 e5 e6 e7 e =
    rw (eqb-true t 6 e6) (after_tag cause exact_cause (λ a. Fail a) 6 (λ a f. f) (λ a. refl) bytes x h e)
event_takes t bytes x h false false false false false false true e1 e2 e3 e4 e5 e6 e7 e =
    rw (eqb-true t 7 e7) (subst (IsFrom 7 bytes) (some_is (Restore, bytes) x e) (tt, refl))
event_takes t bytes x h false false false false false false false e1 e2 e3 e4 e5 e6 e7 e = absurd cc

pub exact_event : IsExact event
exact_event = record {
  again = event_again;
  takes = λ bytes x rest h e.
      let t = bind_some ((number w8).read bytes) (λ t. event_at t.0 t.1) (x, rest) e in
      let s = n8.takes bytes t.0.0 t.0.1 h t.1 in
      let l = event_takes t.0.0 t.0.1 (x, rest) (rest_fits ((number w8).write t.0.0) t.0.1 bytes s.1 h) _ _ _ _ _ _ _ refl refl refl refl refl refl refl t.2 in
      (l.0, s.1 ∙ one_byte t.0.0 t.0.1 s.0 ∙ l.1);
}
  where
    one_byte : (t : ℕ) (rest : List ℕ) → t < 256 → (number w8).write t ++ rest ≡ t ∷ rest
    one_byte t rest lt = ap (λ n. n ∷ rest) (omega (arith, lt))
