-- If the set after a step is admitted, no check refuses the step.
use Rattle.std.proofs.Common.{◌≡◌, ℕ, ◌+◌, true, false, cond, not, ◌&&◌, List, [], ◌∷◌, length, refl, ap, sym, ◌∙◌, subst, arith, inl, inr}
use Rattle.std.specs.Prelude.{◌==◌, filter, nat_le, Some, None}
use Rattle.std.proofs.lemmas.Bool.{and_right, cases_Bool, eq-eqb, lt-leb}
use Rattle.pon_descr.specs.Checks.{when, first_refusal_of}
use Rattle.pon_descr.specs.Descriptor.{Descriptor}
use Rattle.pon_descr.specs.declared.refusal.Refusal.{Refusal}
use Rattle.pon_descr.specs.declared.refusal.Refusal.TheVariants.{NoSuchAlloc, AllocTaken, TooManyAllocs, TooManyOnus, SeriesFull, Capacity}
use Rattle.pon_lists.proofs.Distinct.{bit}
use Rattle.pon_units.specs.declared.limits.TheConstants.{MAX_ONUS, MAX_SERIES}
use Rattle.pon_admit.specs.Roster.{IsAdmitted, Row, Rule, comes_before, has_alloc, has_onu, max_allocs, onus_of, owned, refuses_admit, refuses_change, with_descriptor, with_row}
use Rattle.pon_admit.proofs.AdmittedSets.{split_in_order}
use Rattle.pon_admit.proofs.OneRow.{length-with_row, not-has_onu, onus-with_row, others}
use Rattle.pon_lists.proofs.Inserted.{sum_by-inserted}

owned-with_row : (rule : Rule) (gap : ℕ) (rows : List Row) (r : Row) → IsAdmitted rule gap rows → owned r.onu (with_row r rows) ≡ 1 + owned r.onu rows
owned-with_row rule gap rows r k =
    sum_by-inserted (λ s. comes_before s r) r rows (split_in_order r rows k.in_map_order) (λ s. cond (s.onu == r.onu) 1 0)
    ∙ ap (λ b. bit b + owned r.onu rows) (eq-eqb r.onu r.onu refl)

no_check_refuses : (rule : Rule) (gap : ℕ) (rows : List Row) (r : Row) → IsAdmitted rule gap rows → IsAdmitted rule gap (with_row r rows) → refuses_admit rule gap rows r ≡ None
no_check_refuses rule gap rows r k after =
    let free : has_alloc r.alloc_id rows ≡ false
    = subst (λ t. has_alloc r.alloc_id t ≡ false) (split_in_order r rows k.in_map_order)
    (others r.alloc_id (filter (λ s. comes_before s r) rows) (filter (λ s. not (comes_before s r)) rows) r after.apart refl) in
    let few : nat_le (max_allocs rule) (length rows) ≡ false
    = lt-leb (max_allocs rule) (length rows) (omega (arith, length-with_row r rows k.in_map_order, after.few_allocs)) in
    let short : nat_le MAX_SERIES (owned r.onu rows) ≡ false
    = lt-leb MAX_SERIES (owned r.onu rows) (omega (arith, owned-with_row rule gap rows r k, after.short_series r.onu)) in
    let many : (nat_le MAX_ONUS (length (onus_of rows)) && not (has_onu r.onu rows)) ≡ false
    = elim (cases_Bool (owned r.onu rows == 0)) [
      | inl e ↦
          let one : bit (owned r.onu rows == 0) ≡ 1 = ap bit e in
          ap (λ b. b && not (has_onu r.onu rows)) (lt-leb MAX_ONUS (length (onus_of rows)) (omega (arith, one, onus-with_row r rows k.in_map_order, after.few_onus)))
      | inr e ↦ and_right (nat_le MAX_ONUS (length (onus_of rows))) (not (has_onu r.onu rows)) (not-has_onu r.onu rows ∙ e)
    ] in
    (λ i. first_refusal_of (when (free i) AllocTaken ∷ when (few i) TooManyAllocs ∷ when (many i) TooManyOnus ∷ when (short i) SeriesFull ∷ when (not (after.fitting i)) Capacity ∷ []))

pub refused_admission : (rule : Rule) (gap : ℕ) (rows : List Row) (r : Row) (why : Refusal) → IsAdmitted rule gap rows → refuses_admit rule gap rows r ≡ Some why → IsAdmitted rule gap (with_row r rows) → ⊥
refused_admission rule gap rows r why k h after = let e : Some why ≡ None = sym h ∙ no_check_refuses rule gap rows r k after in cc

pub refused_change : (rule : Rule) (gap : ℕ) (rows : List Row) (i : ℕ) (d : Descriptor) (why : Refusal) → has_alloc i rows ≡ true → refuses_change rule gap rows i d ≡ Some why → IsAdmitted rule gap (with_descriptor i d rows) → ⊥
refused_change rule gap rows i d why there h after =
    let none : refuses_change rule gap rows i d ≡ None = (λ j. first_refusal_of (when (not (there j)) NoSuchAlloc ∷ when (not (after.fitting j)) Capacity ∷ [])) in
    let e : Some why ≡ None = sym h ∙ none in cc
