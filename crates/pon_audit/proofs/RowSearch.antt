-- A binary search for the row of an ONU and an Alloc-ID.
use Rattle.std.proofs.Common.{◌≡◌, ℕ, ◌<◌, ◌||◌, ◌&&◌, Bool, true, false, cond, not, List, [], ◌∷◌, length, get_or, refl, ap, sym, ◌∙◌, subst, arith, inl, inr}
use Rattle.std.specs.Prelude.{◌==◌, ◌⊎◌, nat_lt, filter, All}
use Rattle.std.specs.List.Sorted.{IsPartitionedBy}
use Rattle.std.proofs.lemmas.Bool.{and_from, and_left, and_parts, and_right, cases_Bool, cases_lt, eq-eqb, eqb-true, lt-ltb, ltb-true, ne_eqb, not-true, or_cases, or_left, or_right}
use Rattle.std.proofs.lemmas.List.Elements.{All-head, All-weaker, filter_passes}
use Rattle.std.proofs.lemmas.List.Folds.{list_any_none}
use Rattle.pon_lists.proofs.Lists.{or-false}
use Rattle.pon_lists.proofs.Order.{in_order-filter, in_order_at}
use Rattle.pon_admit.specs.declared.row.Row.{Row}
use Rattle.pon_admit.specs.Roster.{IsInMapOrder, comes_before}
use Rattle.pon_admit.proofs.AdmittedSets.{precedes}
use Rattle.pon_audit.specs.Openings.{has_row}

module _ (u i : ℕ) where
  -- the row is of the ONU and the Alloc-ID
  abbrev pub is_it : Row → Bool
  is_it r = r.onu == u && r.alloc_id == i

  -- the row comes before them
  abbrev pub is_earlier : Row → Bool
  is_earlier r = nat_lt r.onu u || (r.onu == u && nat_lt r.alloc_id i)

  abbrev Earlier : Row → Type 0
  Earlier r = (r.onu < u) ⊎ ((r.onu ≡ u) × (r.alloc_id < i))

  earlier : (r : Row) → is_earlier r ≡ true → Earlier r
  earlier r h = elim (or_cases (nat_lt r.onu u) (r.onu == u && nat_lt r.alloc_id i) h) [
    | inl a ↦ inl (ltb-true r.onu u a)
    | inr a ↦ inr (eqb-true r.onu u (and_parts (r.onu == u) (nat_lt r.alloc_id i) a).0, ltb-true r.alloc_id i (and_parts (r.onu == u) (nat_lt r.alloc_id i) a).1)
  ]

  is_earlier_from : (r : Row) → Earlier r → is_earlier r ≡ true
  is_earlier_from r h = elim h [
    | inl a ↦ or_left (nat_lt r.onu u) (r.onu == u && nat_lt r.alloc_id i) (lt-ltb r.onu u a)
    | inr a ↦ or_right (nat_lt r.onu u) (r.onu == u && nat_lt r.alloc_id i) (and_from (r.onu == u) (nat_lt r.alloc_id i) (eq-eqb r.onu u a.0) (lt-ltb r.alloc_id i a.1))
  ]

  -- a row that comes before an earlier one is earlier
  earlier_before : (r s : Row) → comes_before r s ≡ true → is_earlier s ≡ true → is_earlier r ≡ true
  earlier_before r s h k = is_earlier_from r (elim (precedes r s h) [
    | inl a ↦ elim (earlier s k) [ inl b ↦ inl (omega (arith, a, b)) | inr b ↦ inl (omega (arith, a, b.0)) ]
    | inr a ↦ elim (earlier s k) [ inl b ↦ inl (omega (arith, a.0, b)) | inr b ↦ inr (omega (arith, a.0, b.0), omega (arith, a.1, b.1)) ]
  ])

  pub rows_parted : (rows : List Row) → IsInMapOrder rows → IsPartitionedBy is_earlier rows
  rows_parted rows h m n d l k t = elim (cases_lt m n) [
    | inl less ↦ earlier_before (get_or rows m d) (get_or rows n d) (in_order_at (λ r s. comes_before r s ≡ true) rows h m n d less k) t
    | inr not_less ↦ subst (λ j. is_earlier (get_or rows j d) ≡ true) (let e : n ≡ m = omega (arith, l, not_less) in e) t
  ]

  earlier_is_not : (r : Row) → is_earlier r ≡ true → is_it r ≡ false
  earlier_is_not r h = elim (earlier r h) [
    | inl a ↦ and_left (r.onu == u) (r.alloc_id == i) (ne_eqb r.onu u (λ e. omega (arith, e, a)))
    | inr a ↦ and_right (r.onu == u) (r.alloc_id == i) (ne_eqb r.alloc_id i (λ e. omega (arith, e, a.1)))
  ]

  -- no earlier row is the one that is looked for
  others_have : (rows : List Row) → has_row u i (filter (λ r. not (is_earlier r)) rows) ≡ has_row u i rows
  others_have [] = refl
  others_have (r ∷ rows) = elim (cases_Bool (is_earlier r)) [
    | inl e ↦ ap (λ b. has_row u i (cond (not b) (r ∷ filter (λ r. not (is_earlier r)) rows) (filter (λ r. not (is_earlier r)) rows))) e
        ∙ others_have rows ∙ ap (λ b. b || has_row u i rows) (sym (earlier_is_not r e))
    | inr e ↦ ap (λ b. has_row u i (cond (not b) (r ∷ filter (λ r. not (is_earlier r)) rows) (filter (λ r. not (is_earlier r)) rows))) e
        ∙ ap (λ b. is_it r || b) (others_have rows)
  ]

  pub no_others : (rows others : List Row) → others ≡ filter (λ r. not (is_earlier r)) rows → length others ≡ 0 → false ≡ has_row u i rows
  no_others rows [] e n = ap (has_row u i) e ∙ others_have rows
  no_others rows (r ∷ others) e n = absurd (omega (arith, n))

  -- a row after one that is not earlier is not the one that is looked for, unless they are equal
  not_later : (r s : Row) → is_earlier r ≡ false → comes_before r s ≡ true → is_it s ≡ false
  not_later r s h k = elim (cases_Bool (is_it s)) [
    | inl e ↦
        let two : ((s.onu == u) ≡ true) × ((s.alloc_id == i) ≡ true) = and_parts (s.onu == u) (s.alloc_id == i) e in
        let onu : s.onu ≡ u = eqb-true s.onu u two.0 in
        let alloc : s.alloc_id ≡ i = eqb-true s.alloc_id i two.1 in
        let less : is_earlier r ≡ true = is_earlier_from r (elim (precedes r s k) [
          | inl a ↦ inl (omega (arith, a, onu))
          | inr a ↦ inr (omega (arith, a.0, onu), omega (arith, a.1, alloc))
        ]) in
        absurd (let t : true ≡ false = sym less ∙ h in cc)
    | inr e ↦ e
  ]

  pub first_of_others : (rows rest : List Row) (r : Row) → IsInMapOrder rows → r ∷ rest ≡ filter (λ r. not (is_earlier r)) rows → is_it r ≡ has_row u i rows
  first_of_others rows rest r h e =
      let order : IsInMapOrder (r ∷ rest) = subst IsInMapOrder (sym e) (in_order-filter (λ r s. comes_before r s ≡ true) (λ r. not (is_earlier r)) rows h) in
      let passes : All (λ r. not (is_earlier r) ≡ true) (r ∷ rest) = subst (All (λ r. not (is_earlier r) ≡ true)) (sym e) (filter_passes (λ r. not (is_earlier r)) rows) in
      let here : is_earlier r ≡ false = not-true (is_earlier r) (All-head (λ r. not (is_earlier r) ≡ true) r rest passes) in
      let none : has_row u i rest ≡ false = list_any_none is_it rest (All-weaker (λ s. comes_before r s ≡ true) (λ s. is_it s ≡ false) (λ s k. not_later r s here k) rest order.0) in
      sym (ap (λ b. is_it r || b) none ∙ or-false (is_it r)) ∙ ap (has_row u i) e ∙ others_have rows
