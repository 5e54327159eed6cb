-- A set with one row added or removed, and its sums.
use Rattle.std.proofs.Common.{◌≡◌, ℕ, suc, ◌+◌, ◌<◌, ◌≤◌, Bool, true, false, cond, not, ◌||◌, List, [], ◌∷◌, ◌++◌, length, take, drop, get_or, set, refl, ap, sym, ◌∙◌, subst, arith, inl, inr}
use Rattle.std.specs.Prelude.{◌==◌, filter, count_by, Some, None, position}
use Rattle.std.specs.List.{list_any, insert, remove, prefix_len}
use Rattle.std.proofs.Math.Seq.{drop-cons}
use Rattle.std.proofs.lemmas.Bool.{eqb-true, eq-eqb, lt-ltb, ne_eqb, or_from, or_parts, cases_lt}
use Rattle.std.proofs.lemmas.Bool.Decides.{eqb_tells}
use Rattle.std.proofs.lemmas.List.{map-append, set_split, take-append-drop}
use Rattle.std.proofs.lemmas.List.Folds.{list_any-append, list_any_at}
use Rattle.std.proofs.lemmas.List.Quantifiers.{position-Some}
use Rattle.std.proofs.lemmas.List.Sums.{sum_by-cons}
use Rattle.pon_descr.specs.Descriptor.{Descriptor, promised}
use Rattle.pon_lists.proofs.Distinct.{bit}
use Rattle.pon_lists.proofs.Inserted.{insert_inserted, length-inserted, sum_by-inserted, without_between}
use Rattle.pon_lists.proofs.Lists.{sum_by-between}
use Rattle.pon_admit.specs.Roster.{IsDistinct, IsInMapOrder, Row, comes_before, has_alloc, has_onu, onus_of, owned, promised_sum, with_descriptor, with_row, without}
use Rattle.pon_admit.proofs.AdmittedSets.{changed, onus-between, split_in_order, with_new}

-- What a row adds to the number of ONUs.

-- an ONU is known exactly when it owns a row
pub not-has_onu : (u : ℕ) (rows : List Row) → not (has_onu u rows) ≡ (owned u rows == 0)
not-has_onu u [] = refl
not-has_onu u (r ∷ rows) =
    let e : owned u (r ∷ rows) ≡ bit (r.onu == u) + owned u rows = sum_by-cons (λ s. cond (s.onu == u) 1 0) r rows in
    step (r.onu == u) (has_onu u rows) (owned u rows) (not-has_onu u rows) ∙ ap (λ n. n == 0) (sym e)
  where
    step : (b known : Bool) (n : ℕ) → not known ≡ (n == 0) → not (b || known) ≡ (bit b + n == 0)
    step true known n h = sym (ne_eqb (1 + n) 0 (λ k. omega (arith, k)))
    step false known n h = h ∙ (let e : n ≡ 0 + n = omega arith in ap (λ m. m == 0) e)

-- A row is admitted.

-- the row is inserted after the rows that come before it
pub insert_in_order : (r : Row) (rows : List Row) (k : ℕ) → IsInMapOrder rows → k ≡ count_by (λ s. comes_before s r) rows → insert rows k r ≡ with_row r rows
insert_in_order r rows k order place = insert_inserted (λ s. comes_before s r) r rows (split_in_order r rows order) k place

pub length-with_row : (r : Row) (rows : List Row) → IsInMapOrder rows → length (with_row r rows) ≡ length rows + 1
length-with_row r rows order = length-inserted (λ s. comes_before s r) r rows (split_in_order r rows order)

pub promised_sum-with_row : (r : Row) (rows : List Row) → IsInMapOrder rows → promised_sum (with_row r rows) ≡ promised_sum rows + promised r.descriptor
promised_sum-with_row r rows order = omega (arith, sum_by-inserted (λ s. comes_before s r) r rows (split_in_order r rows order) (λ s. promised s.descriptor))

pub onus-with_row : (r : Row) (rows : List Row) → IsInMapOrder rows → length (onus_of (with_row r rows)) ≡ length (onus_of rows) + bit (owned r.onu rows == 0)
onus-with_row r rows order =
    let xs : List Row = filter (λ s. comes_before s r) rows in
    let ys : List Row = filter (λ s. not (comes_before s r)) rows in
    let e : length (onus_of (xs ++ ys)) ≡ length (onus_of rows) = ap (λ t. length (onus_of t)) (split_in_order r rows order) in
    let new : bit (not (has_onu r.onu (xs ++ ys))) ≡ bit (owned r.onu rows == 0) = ap (λ t. bit (not (has_onu r.onu t))) (split_in_order r rows order) ∙ ap bit (not-has_onu r.onu rows) in
    omega (arith, e, new, onus-between xs ys r)

-- A row is found by its Alloc-ID.

-- x is at index k, and its Alloc-ID is i
pub record Stands (i k : ℕ) (x : Row) (rows : List Row) : Type 0 where
  pub whole : take k rows ++ x ∷ drop (suc k) rows ≡ rows
  pub here : x.alloc_id ≡ i
  pub apart : IsDistinct rows

pub stands : (i k : ℕ) (x : Row) (rows : List Row) → IsDistinct rows → position (λ r. r.alloc_id == i) rows ≡ Some k → x ≡ get_or rows k x → Stands i k x rows
stands i k x rows apart found e =
    let at : (k < length rows) × (((get_or rows k x).alloc_id == i) ≡ true) × ((j : ℕ) → j < k → ((get_or rows j x).alloc_id == i) ≡ false) = position-Some (λ r. r.alloc_id == i) rows k x found in
    record {
      whole = ap (λ t. take k rows ++ t ∷ drop (suc k) rows) e ∙ ap (λ t. take k rows ++ t) (sym (drop-cons rows k x at.0)) ∙ take-append-drop k rows;
      here = ap (λ t. t.alloc_id) e ∙ eqb-true (get_or rows k x).alloc_id i at.1;
      apart = apart;
    }

none_passes : {X : Type 0} (p : X → Bool) (xs : List X) → length xs ≤ prefix_len (λ x. not (p x)) xs → list_any p xs ≡ false
none_passes p [] h = refl
none_passes p (x ∷ xs) h = (elim (p x) as (λ b. suc (length xs) ≤ cond (not b) (1 + prefix_len (λ x. not (p x)) xs) 0 → (b || list_any p xs) ≡ false) [
  | true ↦ λ k. absurd (omega (arith, k))
  | false ↦ λ k. none_passes p xs (omega (arith, k))
]) h

-- if no index is found, no row has the Alloc-ID
pub has_alloc-none : (i : ℕ) (rows : List Row) → position (λ r. r.alloc_id == i) rows ≡ None → has_alloc i rows ≡ false
has_alloc-none i rows h = elim (cases_lt (prefix_len (λ r. not (r.alloc_id == i)) rows) (length rows)) [
  | inl lt ↦ absurd (let e = ap (λ b. cond b (Some (prefix_len (λ r. not (r.alloc_id == i)) rows)) None) (sym (lt-ltb (prefix_len (λ r. not (r.alloc_id == i)) rows) (length rows) lt)) ∙ h in cc)
  | inr le ↦ none_passes (λ r. r.alloc_id == i) rows le
]

pub has_alloc-some : (i k : ℕ) (x : Row) (rows : List Row) → position (λ r. r.alloc_id == i) rows ≡ Some k → has_alloc i rows ≡ true
has_alloc-some i k x rows found =
    let at : (k < length rows) × (((get_or rows k x).alloc_id == i) ≡ true) × ((j : ℕ) → j < k → ((get_or rows j x).alloc_id == i) ≡ false) = position-Some (λ r. r.alloc_id == i) rows k x found in
    list_any_at (λ r. r.alloc_id == i) rows k x at.0 at.1

pub has_alloc-there : (i k : ℕ) (rows : List Row) → position (λ r. r.alloc_id == i) rows ≡ Some k → has_alloc i rows ≡ true
has_alloc-there i k [] found = grind (arith, found)
has_alloc-there i k (r ∷ rows) found = has_alloc-some i k r (r ∷ rows) found

-- no other row has its Alloc-ID
pub others : (i : ℕ) (xs ys : List Row) (x : Row) → IsDistinct (xs ++ x ∷ ys) → x.alloc_id ≡ i → has_alloc i (xs ++ ys) ≡ false
others i [] ys x h e = subst (λ j. has_alloc j ys ≡ false) e h.0
others i (y ∷ xs) ys x h e =
    let two : (has_alloc y.alloc_id xs ≡ false) × (has_alloc y.alloc_id (x ∷ ys) ≡ false) = or_parts (has_alloc y.alloc_id xs) (has_alloc y.alloc_id (x ∷ ys)) (sym (list_any-append (λ s. s.alloc_id == y.alloc_id) xs (x ∷ ys)) ∙ h.0) in
    let unlike : (x.alloc_id == y.alloc_id) ≡ false = (or_parts (x.alloc_id == y.alloc_id) (has_alloc y.alloc_id ys) two.1).0 in
    or_from (y.alloc_id == i) (has_alloc i (xs ++ ys))
    (ne_eqb y.alloc_id i (λ k. let t : true ≡ false = sym (eq-eqb x.alloc_id y.alloc_id (e ∙ sym k)) ∙ unlike in absurd cc))
    (others i xs ys x h.1 e)

-- A row is removed.

module _ (i k : ℕ) (x : Row) (rows : List Row) (s : Stands i k x rows) where
  pub remove_found : remove rows k ≡ without i rows
  remove_found = sym (ap (without i) (sym s.whole) ∙ without_between (λ r. r.alloc_id) i (take k rows) (drop (suc k) rows) x (others i (take k rows) (drop (suc k) rows) x (subst IsDistinct (sym s.whole) s.apart) s.here) s.here)

  pub promised_sum-without : promised_sum (without i rows) + promised x.descriptor ≡ promised_sum rows
  promised_sum-without =
      let e : promised_sum (remove rows k) ≡ promised_sum (without i rows) = ap promised_sum remove_found in
      let w : promised_sum (take k rows ++ x ∷ drop (suc k) rows) ≡ promised_sum rows = ap promised_sum s.whole in
      omega (arith, e, w, sum_by-between (λ r. promised r.descriptor) (take k rows) (drop (suc k) rows) x)

  pub onus-without : length (onus_of (without i rows)) + bit (owned x.onu rows == 1) ≡ length (onus_of rows)
  onus-without =
      let e : length (onus_of (remove rows k)) ≡ length (onus_of (without i rows)) = ap (λ t. length (onus_of t)) remove_found in
      let w : length (onus_of (take k rows ++ x ∷ drop (suc k) rows)) ≡ length (onus_of rows) = ap (λ t. length (onus_of t)) s.whole in
      let more : owned x.onu rows ≡ 1 + owned x.onu (remove rows k)
      = ap (owned x.onu) (sym s.whole) ∙ sum_by-between (λ r. cond (r.onu == x.onu) 1 0) (take k rows) (drop (suc k) rows) x ∙ ap (λ b. bit b + owned x.onu (remove rows k)) (eq-eqb x.onu x.onu refl) in
      let last : bit (not (has_onu x.onu (remove rows k))) ≡ bit (owned x.onu rows == 1) = ap bit (not-has_onu x.onu (remove rows k) ∙ one_less (owned x.onu (remove rows k)) ∙ ap (λ n. n == 1) (sym more)) in
      omega (arith, e, w, last, onus-between (take k rows) (drop (suc k) rows) x)
    where
      one_less : (n : ℕ) → (n == 0) ≡ (1 + n == 1)
      one_less n = elim (eqb_tells n 0) [
        | inl h ↦ h.0 ∙ sym (eq-eqb (1 + n) 1 (omega (arith, h.1)))
        | inr h ↦ h.0 ∙ sym (ne_eqb (1 + n) 1 (λ k. h.1 (omega (arith, k))))
      ]

-- A descriptor is replaced.

changed_none : (i : ℕ) (d : Descriptor) (rows : List Row) → has_alloc i rows ≡ false → with_descriptor i d rows ≡ rows
changed_none i d [] h = refl
changed_none i d (r ∷ rows) h =
    let two : ((r.alloc_id == i) ≡ false) × (has_alloc i rows ≡ false) = or_parts (r.alloc_id == i) (has_alloc i rows) h in
    (λ j. cond (two.0 j) (with_new d r) r ∷ changed_none i d rows two.1 j)

changed-between : (i : ℕ) (d : Descriptor) (xs ys : List Row) (x : Row) → has_alloc i (xs ++ ys) ≡ false → x.alloc_id ≡ i → with_descriptor i d (xs ++ x ∷ ys) ≡ xs ++ with_new d x ∷ ys
changed-between i d xs ys x h e =
    let two : (has_alloc i xs ≡ false) × (has_alloc i ys ≡ false) = or_parts (has_alloc i xs) (has_alloc i ys) (sym (list_any-append (λ s. s.alloc_id == i) xs ys) ∙ h) in
    map-append (changed i d) xs (x ∷ ys)
    ∙ (λ j. changed_none i d xs two.0 j ++ cond (eq-eqb x.alloc_id i e j) (with_new d x) x ∷ changed_none i d ys two.1 j)

module _ (i k : ℕ) (d : Descriptor) (x : Row) (rows : List Row) (s : Stands i k x rows) where
  split_changed : with_descriptor i d rows ≡ take k rows ++ with_new d x ∷ drop (suc k) rows
  split_changed = ap (with_descriptor i d) (sym s.whole) ∙ changed-between i d (take k rows) (drop (suc k) rows) x (others i (take k rows) (drop (suc k) rows) x (subst IsDistinct (sym s.whole) s.apart) s.here) s.here

  pub set_found : k < length rows → set rows k (with_new d x) ≡ with_descriptor i d rows
  set_found lt = set_split rows k (with_new d x) lt ∙ sym split_changed

  pub promised_sum-changed : promised_sum (with_descriptor i d rows) + promised x.descriptor ≡ promised_sum rows + promised d
  promised_sum-changed =
      let e : promised_sum (with_descriptor i d rows) ≡ promised_sum (take k rows ++ with_new d x ∷ drop (suc k) rows) = ap promised_sum split_changed in
      let w : promised_sum (take k rows ++ x ∷ drop (suc k) rows) ≡ promised_sum rows = ap promised_sum s.whole in
      omega (
        arith,
        e,
        w,
        sum_by-between (λ r. promised r.descriptor) (take k rows) (drop (suc k) rows) x,
        sum_by-between (λ r. promised r.descriptor) (take k rows) (drop (suc k) rows) (with_new d x),
      )
