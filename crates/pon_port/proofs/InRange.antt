-- The number of ONUs of grants in map order, and the reports of a book by the rows of its roster.
use Rattle.std.proofs.Common.{◌≡◌, ℕ, ◌+◌, ◌-◌, ◌<◌, ◌≤◌, ◌⊎◌, ◌||◌, Bool, true, false, not, ◌&&◌, List, [], ◌∷◌, ◌++◌, map, length, get_or, take, refl, ap, sym, ◌∙◌, subst, arith, inl, inr, zero, suc}
use Rattle.std.specs.Prelude.{◌==◌, All, Option, Some, slice_get}
use Rattle.std.specs.List.{list_any}
use Rattle.std.proofs.lemmas.Bool.{eq-eqb, ne_eqb}
use Rattle.std.proofs.lemmas.Bool.Decides.{eqb_tells}
use Rattle.std.proofs.lemmas.List.{get_or-take, length-take-le, map-append, take_more}
use Rattle.std.proofs.lemmas.List.Elements.{All-head, All-tail}
use Rattle.std.proofs.lemmas.List.Folds.{list_any_none}
use Rattle.std.proofs.lemmas.Option.{get_or_from_slice_get, slice_get-get_or, slice_get_read}
use Rattle.std.proofs.lemmas.Map.Keys.{any_passes_from_place}
use Rattle.pon_lists.specs.Distinct.{distinct}
use Rattle.pon_lists.proofs.Distinct.{bit, count_once_push, length-distinct, occurs}
use Rattle.pon_lists.proofs.Lists.{list_any-map}
use Rattle.pon_lists.proofs.Order.{in_order_at}
use Rattle.pon_units.specs.Granted.{AreInMapOrder, ComesBefore, onus_granted}
use Rattle.pon_units.specs.declared.granted.Granted.{Granted}
use Rattle.pon_admit.specs.declared.row.Row.{Row}
use Rattle.pon_admit.specs.Roster.{has_alloc}
use Rattle.pon_guar.specs.Book.{account_of, alloc_ids, known_report}
use Rattle.pon_guar.specs.declared.account.Account.{Account}
use Rattle.pon_guar.proofs.Accounts.{found_each}
use Rattle.pon_state.specs.Accounts.{AccountsFor}
use Rattle.pon_port.specs.Ranges.{AreReportsInRange, IsReportInRange}

-- ONUs.

-- whether one of the first grants is to an ONU
abbrev pub is_granted : ℕ → List Granted → ℕ → Bool
is_granted u gs k = list_any (λ g. g.onu == u) (take k gs)

-- one more grant is to one more ONU unless an earlier one is to its ONU
pub one_more : (gs : List Granted) (k : ℕ) (g : Granted) (b : Bool) → k < length gs → g ≡ get_or gs k g → is_granted g.onu gs k ≡ b →
    length (onus_granted (take (k + 1) gs)) ≡ length (onus_granted (take k gs)) + bit (not b && true)
one_more gs k g b lt here known =
    let us : List ℕ = map (λ g. g.onu) (take k gs) in
    let more : take (k + 1) gs ≡ take k gs ++ g ∷ [] = take_more gs k g lt ∙ ap (λ x. take k gs ++ x ∷ []) (sym here) in
    let pushed : map (λ g. g.onu) (take (k + 1) gs) ≡ us ++ g.onu ∷ [] = ap (map (λ g. g.onu)) more ∙ map-append (λ g. g.onu) (take k gs) (g ∷ []) in
    let there : occurs g.onu us ≡ b = list_any-map (λ v. v == g.onu) (λ h. h.onu) (take k gs) ∙ known in
    ap (λ xs. length (distinct xs)) pushed ∙ length-distinct (us ++ g.onu ∷ []) ∙ count_once_push us (λ _. true) g.onu ∙ (λ i. sym (length-distinct us) i + bit (not (there i) && true))

-- one element stands at a place
pub at_same : (gs : List Granted) (k : ℕ) (g h : Granted) → k < length gs → g ≡ get_or gs k g → h ≡ get_or gs k h → g ≡ h
at_same gs k g h lt here there = here ∙ get_or_from_slice_get gs k h g (slice_get_read gs (length gs) k h refl lt there)

-- the number of ONUs with the grant at a place, by whether it is the first one to its ONU
pub counted_on : (gs : List Granted) (k count : ℕ) (b : Bool) → k < length gs → count ≡ length (onus_granted (take k gs)) →
    ((g : Granted) → g ≡ get_or gs k g → b ≡ not (is_granted g.onu gs k)) → length (onus_granted (take (k + 1) gs)) ≡ count + bit b
counted_on gs k count b lt so_far tells = by (is_granted g.onu gs k) refl
  where
    g : Granted
    g = get_or gs k (record { onu = 0; alloc_id = 0; words = 0 })

    here : g ≡ get_or gs k g
    here = sym (get_or_from_slice_get gs k g g (slice_get-get_or gs k (record { onu = 0; alloc_id = 0; words = 0 }) lt))

    by : (q : Bool) → is_granted g.onu gs k ≡ q → length (onus_granted (take (k + 1) gs)) ≡ count + bit b
    by true is = omega (arith, one_more gs k g true lt here is, ap bit (tells g here ∙ ap not is), so_far)
    by false is = omega (arith, one_more gs k g false lt here is, ap bit (tells g here ∙ ap not is), so_far)

-- The grant before is p.
module _ (gs : List Granted) (k : ℕ) (p g : Granted) (order : AreInMapOrder gs) (more : 0 < k) (lt : k < length gs) (before : p ≡ get_or gs (k - 1) p) (here : g ≡ get_or gs k g) where
  p_at : (d : Granted) → get_or gs (k - 1) d ≡ p
  p_at d = get_or_from_slice_get gs (k - 1) p d (slice_get_read gs (length gs) (k - 1) p refl (omega (arith, more, lt)) before)

  g_at : (d : Granted) → get_or gs k d ≡ g
  g_at d = get_or_from_slice_get gs k g d (slice_get_read gs (length gs) k g refl lt here)

  -- no earlier grant is to a greater ONU
  no_greater : (n : ℕ) (d : Granted) → n < k → (get_or gs n d).onu ≤ p.onu
  no_greater n d l =
      elim (eqb_tells n (k - 1)) [
        | inl e ↦ omega (arith, ap (λ m. (get_or gs m d).onu) e.1, ap (λ h. h.onu) (p_at d))
        | inr e ↦ omega (arith, (in_order_at ComesBefore gs order n (k - 1) d (omega (arith, e.1, l)) (omega (arith, more, lt))).0, ap (λ h. h.onu) (p_at d))
      ]

  p_first : p.onu ≤ g.onu
  p_first = omega (arith, (in_order_at ComesBefore gs order (k - 1) k p (omega (arith, more)) lt).0, ap (λ h. h.onu) (p_at p), ap (λ h. h.onu) (g_at p))

  -- the grant before is the only one that can be to the ONU
  pub later_begins : not (p.onu == g.onu) ≡ not (is_granted g.onu gs k)
  later_begins =
      elim (eqb_tells p.onu g.onu) [
        | inl e ↦
            let there : slice_get (take k gs) (k - 1) ≡ Some p
            = slice_get_read (take k gs) k (k - 1) p (sym (length-take-le k gs (omega (arith, lt)))) (omega (arith, more)) (before ∙ sym (get_or-take k gs (k - 1) p (omega (arith, more)))) in
            ap not (e.0 ∙ sym (any_passes_from_place (λ h. h.onu == g.onu) (take k gs) (k - 1) p there e.0))
        | inr e ↦
            let none : All (λ h. (h.onu == g.onu) ≡ false) (take k gs)
            = λ n d l.
            let early : n < k = omega (arith, l, length-take-le k gs (omega (arith, lt))) in
            let less : (get_or (take k gs) n d).onu ≤ p.onu = omega (arith, ap (λ h. h.onu) (get_or-take k gs n d early), no_greater n d early) in
            ne_eqb (get_or (take k gs) n d).onu g.onu (λ is. e.1 (omega (arith, is, less, p_first))) in
            ap not (e.0 ∙ sym (list_any_none (λ h. h.onu == g.onu) (take k gs) none))
      ]

-- Reports.

-- the reports of the Alloc-IDs of the rows are in range
abbrev pub AreRowsInRange : List Account → List Row → Type 0
AreRowsInRange book rows = All (λ r. IsReportInRange (known_report (account_of book r.alloc_id))) rows

found_row : (book : List Account) (i : ℕ) (rows : List Row) → has_alloc i rows ≡ true → AreRowsInRange book rows → IsReportInRange (known_report (account_of book i))
found_row book i [] there h = absurd (let e : false ≡ true = there in cc)
found_row book i (r ∷ rows) there h =
    elim (eqb_tells r.alloc_id i) [
      | inl e ↦ subst (λ j. IsReportInRange (known_report (account_of book j))) e.1 (All-head (λ r. IsReportInRange (known_report (account_of book r.alloc_id))) r rows h)
      | inr e ↦ found_row book i rows (sym (ap (λ b. b || has_alloc i rows) e.0) ∙ there) (All-tail (λ r. IsReportInRange (known_report (account_of book r.alloc_id))) r rows h)
    ]

-- all reports of the book are, if its Alloc-IDs are those of the rows
pub reports_by_rows : (rows : List Row) (book : List Account) → AccountsFor rows book → AreRowsInRange book rows → AreReportsInRange book
reports_by_rows rows book accounts h n d lt =
    let a : Account = get_or book n d in
    let listed : list_any (λ j. j == a.alloc_id) (alloc_ids book) ≡ true
    = list_any-map (λ j. j == a.alloc_id) (λ b. b.alloc_id) book
    ∙ any_passes_from_place (λ b. b.alloc_id == a.alloc_id) book n a (slice_get-get_or book n d lt) (eq-eqb a.alloc_id a.alloc_id refl) in
    subst (λ o. IsReportInRange (known_report o)) (found_each book accounts.0 n d lt) (found_row book a.alloc_id rows (sym (accounts.1 a.alloc_id) ∙ listed) h)
