-- The grants of an ONU in a map, found by a binary search.
use Rattle.std.proofs.Common.{◌≡◌, ℕ, suc, ◌+◌, ◌<◌, ◌≤◌, ◌&&◌, Bool, true, false, cond, not, List, [], ◌∷◌, length, get_or, take, drop, ◌-◌, refl, ap, sym, ◌∙◌, arith, inl, inr}
use Rattle.std.specs.List.Sorted.{IsNonDecreasingBy}
use Rattle.std.specs.List.{position, position_or_len}
use Rattle.std.specs.Prelude.{◌==◌, ◌≢◌, nat_lt, slice_get, filter, find, All, Option, Some, None}
use Rattle.std.proofs.lemmas.Bool.{cases_lt, cases_order, le-ltb, lt-ltb, ne_eqb}
use Rattle.std.proofs.lemmas.Bool.Decides.{eqb_tells, nat_tests}
use Rattle.std.proofs.lemmas.List.{get_or_default}
use Rattle.std.proofs.lemmas.List.Elements.{All-nil, All-cons, All-head, All-tail, All-weaker}
use Rattle.std.proofs.lemmas.List.Folds.{find_at}
use Rattle.std.proofs.lemmas.Option.{slice_get-get_or, slice_get_past}
use Rattle.pon_units.specs.Granted.{AreInMapOrder, ComesBefore}
use Rattle.pon_units.specs.declared.granted.Granted.{Granted}
use Rattle.pon_lists.proofs.Lists.{filter-filter, filter_agree, position-None_or_len, position-Some_or_len}
use Rattle.pon_lists.proofs.Parts.{parts_at}
use Rattle.pon_lists.proofs.Order.{in_order-filter, in_order_at}
use Rattle.pon_guar.specs.Window.{words_granted}

-- grants in map order are in ascending ONU-ID
pub by_onu : (gs : List Granted) → AreInMapOrder gs → IsNonDecreasingBy (λ g. g.onu) gs
by_onu gs h m n d l k = elim (cases_lt m n) [
  | inl less ↦ (in_order_at ComesBefore gs h m n d less k).0
  | inr not_less ↦ (let e : n ≡ m = omega (arith, l, not_less) in let q : (get_or gs n d).onu ≡ (get_or gs m d).onu = ap (λ j. (get_or gs j d).onu) e in omega (arith, q))
]

-- The grants of an ONU are the first of those with no smaller ONU-ID.

none_own : (u : ℕ) (gs : List Granted) → All (λ g. u < g.onu) gs → filter (λ g. g.onu == u) gs ≡ []
none_own u [] h = refl
none_own u (g ∷ gs) h =
    ap (λ b. cond b (g ∷ filter (λ g. g.onu == u) gs) (filter (λ g. g.onu == u) gs)) (ne_eqb g.onu u (λ q. let l : u < g.onu = All-head (λ g. u < g.onu) g gs h in omega (arith, l, q)))
    ∙ none_own u gs (All-tail (λ g. u < g.onu) g gs h)

not_below : (u : ℕ) (gs : List Granted) → All (λ g. u ≤ g.onu) (filter (λ g. not (nat_lt g.onu u)) gs)
not_below u [] = All-nil (λ g. u ≤ g.onu)
not_below u (g ∷ gs) = elim (cases_lt g.onu u) [
  | inl l ↦ rw (lt-ltb g.onu u l) (not_below u gs)
  | inr l ↦ rw (le-ltb g.onu u l) (All-cons (λ g. u ≤ g.onu) g (filter (λ g. not (nat_lt g.onu u)) gs) l (not_below u gs))
]

own_front : (u : ℕ) (gs : List Granted) → All (λ g. u ≤ g.onu) gs → AreInMapOrder gs → take (position_or_len (λ g. not (g.onu == u)) gs) gs ≡ filter (λ g. g.onu == u) gs
own_front u [] low order = refl
own_front u (g ∷ gs) low order =
    let rest = filter (λ g. g.onu == u) gs in
    let len = position_or_len (λ g. not (g.onu == u)) gs in
    elim (eqb_tells g.onu u) [
      | inl e ↦
          ap (λ b. take (cond (not (not b)) (1 + len) 0) (g ∷ gs)) e.0
          ∙ ap (λ n. take n (g ∷ gs)) (let n : 1 + len ≡ suc len = omega arith in n)
          ∙ ap (λ t. g ∷ t) (own_front u gs (All-tail (λ g. u ≤ g.onu) g gs low) order.1)
          ∙ ap (λ b. cond b (g ∷ rest) rest) (sym e.0)
      | inr e ↦
          let above : u < g.onu = elim (cases_order u g.onu) [
            | inl q ↦ absurd (e.1 (sym q))
            | inr q ↦ (let l : u ≤ g.onu = All-head (λ g. u ≤ g.onu) g gs low in omega (arith, q, l))
          ] in
          ap (λ b. take (cond (not (not b)) (1 + len) 0) (g ∷ gs)) e.0
          ∙ sym (none_own u (g ∷ gs) (All-cons (λ g. u < g.onu) g gs above (All-weaker (ComesBefore g) (λ h. u < h.onu) (λ h c. omega (arith, above, c.0)) gs order.0)))
    ]

-- the grants with no smaller ONU-ID, up to the first of another ONU
pub own_series : (u : ℕ) (gs rest : List Granted) → AreInMapOrder gs → rest ≡ filter (λ g. not (nat_lt g.onu u)) gs → take (position_or_len (λ g. not (g.onu == u)) rest) rest ≡ filter (λ g. g.onu == u) gs
own_series u gs rest h e =
    ap (λ t. take (position_or_len (λ g. not (g.onu == u)) t) t) e
    ∙ own_front u (filter (λ g. not (nat_lt g.onu u)) gs) (not_below u gs) (in_order-filter ComesBefore (λ g. not (nat_lt g.onu u)) gs h)
    ∙ filter-filter (λ g. g.onu == u) (λ g. not (nat_lt g.onu u)) gs
    ∙ filter_agree _ _ (λ g. both g.onu) gs
  where
    both : (k : ℕ) → (not (nat_lt k u) && (k == u)) ≡ (k == u)
    both k = grind (arith, nat_tests)

-- The grants of an ONU begin at a grant to it that is the first or follows one to another ONU.
module _ (u : ℕ) (gs : List Granted) (h : AreInMapOrder gs) (k : ℕ) (d : Granted) (l : k < length gs) (own : (get_or gs k d).onu ≡ u) where
  own_at : (e : Granted) → (get_or gs k e).onu ≡ u
  own_at e = ap (λ g. g.onu) (get_or_default gs k e d l) ∙ own

  none_below : (n : ℕ) (e : Granted) → k ≤ n → n < length gs → nat_lt (get_or gs n e).onu u ≡ false
  none_below n e a b = le-ltb (get_or gs n e).onu u (let q : (get_or gs k e).onu ≤ (get_or gs n e).onu = by_onu gs h k n e a b in let s : (get_or gs k e).onu ≡ u = own_at e in omega (arith, q, s))

  begin : ((n : ℕ) (e : Granted) → 0 ≤ n → n < k → nat_lt (get_or gs n e).onu u ≡ true) → (k ≤ length gs) × (drop k gs ≡ filter (λ g. not (nat_lt g.onu u)) gs)
  begin below = (omega (arith, l), (parts_at (λ g. nat_lt g.onu u) gs k (omega (arith, l)) (below, none_below)).1)

  pub begin_first : k ≡ 0 → (k ≤ length gs) × (drop k gs ≡ filter (λ g. not (nat_lt g.onu u)) gs)
  begin_first z = begin (λ n e a b. absurd (omega (arith, z, b)))

  pub begin_after : k ≢ 0 → (e : Granted) → (get_or gs (k - 1) e).onu ≢ u → (k ≤ length gs) × (drop k gs ≡ filter (λ g. not (nat_lt g.onu u)) gs)
  begin_after z e other = begin below
    where
      below : (n : ℕ) (q : Granted) → 0 ≤ n → n < k → nat_lt (get_or gs n q).onu u ≡ true
      below n q a b =
          let before : (get_or gs (k - 1) q).onu ≤ (get_or gs k q).onu = by_onu gs h (k - 1) k q (omega arith) l in
          let upto : (get_or gs n q).onu ≤ (get_or gs (k - 1) q).onu = by_onu gs h n (k - 1) q (omega (arith, b)) (omega (arith, l)) in
          let here : (get_or gs k q).onu ≡ u = own_at q in
          let not_own : (get_or gs (k - 1) q).onu ≢ u = λ s. other (ap (λ g. g.onu) (get_or_default gs (k - 1) e q (omega (arith, l))) ∙ s) in
          lt-ltb (get_or gs n q).onu u (elim (cases_lt (get_or gs n q).onu u) [
            | inl less ↦ less
            | inr same ↦ absurd (not_own (omega (arith, before, upto, here, same)))
          ])

-- The words of the first grant that passes a test.
module _ (p : Granted → Bool) (gs : List Granted) (r : Option ℕ) (is : r ≡ position p gs) where
  pub words_found : (n : ℕ) (d : Granted) → r ≡ Some n → n < length gs → (get_or gs n d).words ≡ words_granted (find p gs)
  words_found n d e l = sym (ap words_granted (find_at p gs ∙ ap (slice_get gs) (sym (position-Some_or_len p gs r n is e)) ∙ slice_get-get_or gs n d l))

  pub no_words : r ≡ None → 0 ≡ words_granted (find p gs)
  no_words e = sym (ap words_granted (find_at p gs ∙ ap (slice_get gs) (sym (position-None_or_len p gs r is e)) ∙ slice_get_past gs (length gs) (omega arith)))
