-- The refusal of a step, from the sums that a roster keeps, and the roster after a step.
use Rattle.std.proofs.Common.{◌≡◌, ℕ, ◌+◌, ◌-◌, ◌<◌, ◌≤◌, Bool, true, false, not, ◌&&◌, List, [], ◌∷◌, length, get_or, set, refl, ap, sym, ◌∙◌, subst, arith, inl, inr}
use Rattle.std.specs.Prelude.{◌==◌, nat_le, nat_lt, Option, Some, None, count_by, position}
use Rattle.std.specs.List.{insert, remove}
use Rattle.std.proofs.lemmas.Bool.{cases_lt, le-leb, lt-ltb, lt-leb, le-ltb}
use Rattle.pon_descr.specs.Checks.{IsTold, when, first_refusal_of}
use Rattle.pon_descr.specs.Descriptor.{Descriptor, IsLawful, promised}
use Rattle.pon_descr.specs.declared.refusal.Refusal.{Refusal}
use Rattle.pon_descr.specs.declared.refusal.Refusal.TheVariants.{NoSuchAlloc, AllocTaken, TooManyAllocs, TooManyOnus, SeriesFull, Capacity}
use mir.Val.{bool_byte}
use Rattle.pon_lists.proofs.Distinct.{bit}
use Rattle.pon_lists.specs.Distinct.{distinct}
use Rattle.pon_admit.specs.Kept.{AreSums, IsKeptRoster}
use Rattle.pon_units.specs.declared.limits.TheConstants.{MAX_ONUS, MAX_SERIES}
use Rattle.pon_admit.specs.Roster.{sums_fit, IsAdmitted, IsInRange, Roster, Row, Rule, comes_before, fits, has_alloc, has_onu, max_allocs, onus_of, owned, refuses_admit, refuses_change, refuses_remove, with_descriptor, with_row, without}
use Rattle.pon_admit.proofs.AdmittedSets.{admit_keeps, change_keeps, changed, onus-changed, remove_keeps, with_new}
use Rattle.pon_admit.proofs.OneRow.{Stands, insert_in_order, remove_found, set_found, stands, has_alloc-none, has_alloc-some, has_alloc-there, length-with_row, not-has_onu, onus-with_row, onus-without, promised_sum-changed, promised_sum-with_row, promised_sum-without}
use Rattle.std.proofs.lemmas.List.{length-map}
use Rattle.std.proofs.lemmas.List.Quantifiers.{position-Some}

-- the sums decide whether a set fits
fits-sums : (rule : Rule) (gap n m s : ℕ) (rows : List Row) → AreSums n s rows → m ≡ length rows → fits rule gap rows ≡ sums_fit rule gap n m s
fits-sums rule gap n m s rows are len = (λ i. sums_fit rule gap (sym are.onus i) (sym len i) (sym are.promised i))

-- the capacity check as the only check
alone : (b : Bool) → first_refusal_of (when (not b) Capacity ∷ []) ≡ when (not b) Capacity
alone true = refl
alone false = refl

-- A row is admitted.

-- the result of one pass over the rows of the roster t, for the row r
pub record Sees (t : Roster) (r : Row) (rule : Rule) (g n s : ℕ) (rows seen : List Row) (taken : Bool) (len owns : ℕ) : Type 0 where
  pub kept : IsKeptRoster rule g n s rows
  pub view : record { rule = rule; gap = g; rows = rows } ≡ t
  pub same : seen ≡ rows
  pub there : taken ≡ has_alloc r.alloc_id seen
  pub allocs : len ≡ length seen
  pub series : owns ≡ owned r.onu seen

pub sees : {t : Roster} {rule : Rule} {g n s : ℕ} {rows seen : List Row} {taken : Bool} {len owns : ℕ} (r : Row) → IsKeptRoster rule g n s rows → record { rule = rule; gap = g; rows = rows } ≡ t → seen ≡ rows →
    taken ≡ has_alloc r.alloc_id seen → len ≡ length seen → owns ≡ owned r.onu seen → Sees t r rule g n s rows seen taken len owns
sees r kept view same there allocs series = record { kept = kept; view = view; same = same; there = there; allocs = allocs; series = series }

byte_bit : (b : Bool) → bool_byte b ≡ bit b
byte_bit true = refl
byte_bit false = refl

module _ {t : Roster} {r : Row} {rule : Rule} {g n s : ℕ} {rows seen : List Row} {taken : Bool} {len owns : ℕ} (h : Sees t r rule g n s rows seen taken len owns) where
  owns-is : owns ≡ owned r.onu rows
  owns-is = h.series ∙ ap (λ u. owned r.onu u) h.same

  allocs-is : len ≡ length rows
  allocs-is = h.allocs ∙ ap (λ u. length u) h.same

  sums_here : (new s' : ℕ) → new ≡ bool_byte (owns == 0) → s' ≡ s + promised r.descriptor → AreSums (n + new) s' (with_row r rows)
  sums_here new s' e more =
      let one : new ≡ bit (owned r.onu rows == 0) = e ∙ byte_bit (owns == 0) ∙ ap (λ m. bit (m == 0)) owns-is in
      record {
        onus = omega (arith, one, h.kept.sums.onus, onus-with_row r rows h.kept.admitted.in_map_order);
        promised = omega (arith, more, h.kept.sums.promised, promised_sum-with_row r rows h.kept.admitted.in_map_order);
      }

  too_many : (new : ℕ) → new ≡ bool_byte (owns == 0) → (nat_le MAX_ONUS (length (onus_of rows)) && not (has_onu r.onu rows)) ≡ nat_lt 128 (n + new)
  too_many new e =
      (λ i. nat_le MAX_ONUS (sym h.kept.sums.onus i) && (not-has_onu r.onu rows ∙ ap (λ m. m == 0) (sym owns-is)) i)
      ∙ step (owns == 0) (subst (λ m. m ≤ MAX_ONUS) (sym h.kept.sums.onus) h.kept.admitted.few_onus)
      ∙ ap (λ m. nat_lt 128 (n + m)) (sym (e ∙ byte_bit (owns == 0)))
    where
      step : (b : Bool) → n ≤ MAX_ONUS → (nat_le MAX_ONUS n && b) ≡ nat_lt 128 (n + bit b)
      step true few = elim (cases_lt n 128) [
        | inl lt ↦ ap (λ b. b && true) (lt-leb 128 n lt) ∙ sym (le-ltb 128 (n + 1) (omega (arith, lt)))
        | inr le ↦ ap (λ b. b && true) (le-leb 128 n le) ∙ sym (lt-ltb 128 (n + 1) (omega (arith, le)))
      ]
      step false few = elim (nat_le MAX_ONUS n) as (λ b. (b && false) ≡ nat_lt 128 (n + 0)) [
        | true ↦ sym (le-ltb 128 (n + 0) (omega (arith, few)))
        | false ↦ sym (le-ltb 128 (n + 0) (omega (arith, few)))
      ]

  -- the refusal, from the results of the tests
  by_tests : (long many full unfit : Bool) → nat_le (max_allocs rule) (length rows) ≡ long → (nat_le MAX_ONUS (length (onus_of rows)) && not (has_onu r.onu rows)) ≡ many →
      nat_le MAX_SERIES (owned r.onu rows) ≡ full → not (fits rule g (with_row r rows)) ≡ unfit →
      refuses_admit t.rule t.gap t.rows r ≡ first_refusal_of (when taken AllocTaken ∷ when long TooManyAllocs ∷ when many TooManyOnus ∷ when full SeriesFull ∷ when unfit Capacity ∷ [])
  by_tests long many full unfit a b c d =
      let there : has_alloc r.alloc_id rows ≡ taken = sym (h.there ∙ ap (λ u. has_alloc r.alloc_id u) h.same) in
      subst (λ u. refuses_admit u.rule u.gap u.rows r ≡ first_refusal_of (when taken AllocTaken ∷ when long TooManyAllocs ∷ when many TooManyOnus ∷ when full SeriesFull ∷ when unfit Capacity ∷ [])) h.view
      (λ i. first_refusal_of (when (there i) AllocTaken ∷ when (a i) TooManyAllocs ∷ when (b i) TooManyOnus ∷ when (c i) SeriesFull ∷ when (d i) Capacity ∷ []))

  short : len < max_allocs rule → nat_le (max_allocs rule) (length rows) ≡ false
  short few = lt-leb (max_allocs rule) (length rows) (omega (arith, few, allocs-is))

  pub refuses_allocs : taken ≡ false → max_allocs rule ≤ len → refuses_admit t.rule t.gap t.rows r ≡ Some TooManyAllocs
  refuses_allocs free many =
      by_tests true (nat_le MAX_ONUS (length (onus_of rows)) && not (has_onu r.onu rows)) (nat_le MAX_SERIES (owned r.onu rows)) (not (fits rule g (with_row r rows)))
      (le-leb (max_allocs rule) (length rows) (omega (arith, many, allocs-is))) refl refl refl
      ∙ ap (λ b. first_refusal_of (when b AllocTaken ∷ when true TooManyAllocs ∷ when (nat_le MAX_ONUS (length (onus_of rows)) && not (has_onu r.onu rows)) TooManyOnus ∷ when (nat_le MAX_SERIES (owned r.onu rows)) SeriesFull ∷ when (not (fits rule g (with_row r rows))) Capacity ∷ [])) free

  pub refuses_onus : taken ≡ false → len < max_allocs rule → (new : ℕ) → new ≡ bool_byte (owns == 0) → 128 < n + new → refuses_admit t.rule t.gap t.rows r ≡ Some TooManyOnus
  refuses_onus free few new e many =
      by_tests false true (nat_le MAX_SERIES (owned r.onu rows)) (not (fits rule g (with_row r rows))) (short few) (too_many new e ∙ lt-ltb 128 (n + new) many) refl refl
      ∙ ap (λ b. first_refusal_of (when b AllocTaken ∷ when true TooManyOnus ∷ when (nat_le MAX_SERIES (owned r.onu rows)) SeriesFull ∷ when (not (fits rule g (with_row r rows))) Capacity ∷ [])) free

  pub refuses_series : taken ≡ false → len < max_allocs rule → (new : ℕ) → new ≡ bool_byte (owns == 0) → n + new ≤ MAX_ONUS → 16 ≤ owns → refuses_admit t.rule t.gap t.rows r ≡ Some SeriesFull
  refuses_series free few new e room many =
      by_tests false false true (not (fits rule g (with_row r rows))) (short few) (too_many new e ∙ le-ltb 128 (n + new) room) (le-leb 16 (owned r.onu rows) (omega (arith, many, owns-is))) refl
      ∙ ap (λ b. first_refusal_of (when b AllocTaken ∷ when true SeriesFull ∷ when (not (fits rule g (with_row r rows))) Capacity ∷ [])) free

  pub refuses_unfit : taken ≡ false → len < max_allocs rule → (new s' : ℕ) → new ≡ bool_byte (owns == 0) → n + new ≤ MAX_ONUS → owns < MAX_SERIES → s' ≡ s + promised r.descriptor →
      (b : Bool) → sums_fit rule g (n + new) (len + 1) s' ≡ b → refuses_admit t.rule t.gap t.rows r ≡ when (not b) Capacity
  refuses_unfit free few new s' e room short_series more b fitting =
      let longer : len + 1 ≡ length (with_row r rows) = omega (arith, allocs-is, length-with_row r rows h.kept.admitted.in_map_order) in
      by_tests false false false (not b) (short few) (too_many new e ∙ le-ltb 128 (n + new) room) (lt-leb 16 (owned r.onu rows) (omega (arith, short_series, owns-is)))
      (ap not (fits-sums rule g (n + new) (len + 1) s' (with_row r rows) (sums_here new s' e more) longer ∙ fitting))
      ∙ ap (λ a. first_refusal_of (when a AllocTaken ∷ when (not b) Capacity ∷ [])) free
      ∙ alone b

  pub insert_seen : (k : ℕ) → k ≡ count_by (λ o. comes_before o r) seen → insert t.rows k r ≡ with_row r t.rows
  insert_seen k place = subst (λ u. insert u.rows k r ≡ with_row r u.rows) h.view (insert_in_order r rows k h.kept.admitted.in_map_order (place ∙ ap (λ u. count_by (λ o. comes_before o r) u) h.same))

  pub sums_seen : (new s' : ℕ) → new ≡ bool_byte (owns == 0) → s' ≡ s + promised r.descriptor → AreSums (n + new) s' (with_row r t.rows)
  sums_seen new s' e more = subst (λ u. AreSums (n + new) s' (with_row r u.rows)) h.view (sums_here new s' e more)

pub kept_with_row : {t : Roster} {rule : Rule} {g n s n' s' : ℕ} {rows rows' : List Row} (k : ℕ) (r : Row) → IsKeptRoster rule g n s rows → record { rule = rule; gap = g; rows = rows } ≡ t → refuses_admit t.rule t.gap t.rows r ≡ None →
    IsInRange r → insert t.rows k r ≡ with_row r t.rows → AreSums n' s' (with_row r t.rows) → rows' ≡ insert rows k r → IsKeptRoster rule g n' s' rows'
kept_with_row {t = t} {rule = rule} {g = g} {n' = n'} {s' = s'} {rows = rows} k r kept view free i place sums e =
    let admitted : IsAdmitted rule g (with_row r rows) = admit_keeps rule g rows r (subst (λ u. refuses_admit u.rule u.gap u.rows r ≡ None) (sym view) free) i kept.admitted in
    let after : AreSums n' s' (with_row r rows) = subst (λ u. AreSums n' s' (with_row r u.rows)) (sym view) sums in
    subst (IsKeptRoster rule g n' s') (sym (e ∙ subst (λ u. insert u.rows k r ≡ with_row r u.rows) (sym view) place)) (record { admitted = admitted; sums = after })

pub refused_not : {q : Option Refusal} {why : Refusal} → q ≡ Some why → q ≡ None → ⊥
refused_not some none = grind (arith, some, none)

pub told : (q : Option Refusal) (why : Refusal) → q ≡ Some why → IsTold q why
told q why h = subst (λ q. IsTold q why) (sym h) refl

-- A row is found by its Alloc-ID.

-- the row x is at index k of the rows of the roster t
pub record Finds (t : Roster) (rule : Rule) (i g n s : ℕ) (rows : List Row) (k : ℕ) (x : Row) : Type 0 where
  pub kept : IsKeptRoster rule g n s rows
  pub view : record { rule = rule; gap = g; rows = rows } ≡ t
  pub found : position (λ r. r.alloc_id == i) rows ≡ Some k
  pub here : x ≡ get_or rows k x

pub finds : {t : Roster} {rule : Rule} {g n s : ℕ} {rows seen : List Row} {k : ℕ} {x : Row} (i : ℕ) → IsKeptRoster rule g n s rows → record { rule = rule; gap = g; rows = rows } ≡ t → seen ≡ rows →
    Some k ≡ position (λ r. r.alloc_id == i) seen → x ≡ get_or rows k x → Finds t rule i g n s rows k x
finds i kept view same found here = record { kept = kept; view = view; found = sym (found ∙ ap (λ u. position (λ r. r.alloc_id == i) u) same); here = here }

absent_here : {t : Roster} {rule : Rule} {g : ℕ} {rows seen : List Row} (i : ℕ) → record { rule = rule; gap = g; rows = rows } ≡ t → seen ≡ rows → None ≡ position (λ r. r.alloc_id == i) seen → has_alloc i t.rows ≡ false
absent_here {rows = rows} i view same none = subst (λ u. has_alloc i u.rows ≡ false) view (has_alloc-none i rows (sym (none ∙ ap (λ u. position (λ r. r.alloc_id == i) u) same)))

pub refuses_change-absent : {t : Roster} {rule : Rule} {g : ℕ} {rows seen : List Row} (i : ℕ) (d : Descriptor) → record { rule = rule; gap = g; rows = rows } ≡ t → seen ≡ rows → None ≡ position (λ r. r.alloc_id == i) seen →
    refuses_change t.rule t.gap t.rows i d ≡ Some NoSuchAlloc
refuses_change-absent {t = t} i d view same none =
    (λ j. first_refusal_of (when (not (absent_here i view same none j)) NoSuchAlloc ∷ when (not (fits t.rule t.gap (with_descriptor i d t.rows))) Capacity ∷ []))

pub refuses_remove-absent : {t : Roster} {rule : Rule} {g : ℕ} {rows seen : List Row} (i : ℕ) → record { rule = rule; gap = g; rows = rows } ≡ t → seen ≡ rows → None ≡ position (λ r. r.alloc_id == i) seen → refuses_remove t.rows i ≡ Some NoSuchAlloc
refuses_remove-absent i view same none = ap (λ b. when (not b) NoSuchAlloc) (absent_here i view same none)

pub refuses_remove-there : {t : Roster} {rule : Rule} {g k : ℕ} {rows seen : List Row} (i : ℕ) → record { rule = rule; gap = g; rows = rows } ≡ t → seen ≡ rows → Some k ≡ position (λ r. r.alloc_id == i) seen → refuses_remove t.rows i ≡ None
refuses_remove-there {k = k} {rows = rows} i view same found =
    subst (λ u. refuses_remove u.rows i ≡ None) view
    (ap (λ b. when (not b) NoSuchAlloc) (has_alloc-there i k rows (sym (found ∙ ap (λ u. position (λ r. r.alloc_id == i) u) same))))

module _ {t : Roster} {rule : Rule} {i g n s : ℕ} {rows : List Row} {k : ℕ} {x : Row} (h : Finds t rule i g n s rows k x) where
  stands_here : Stands i k x rows
  stands_here = stands i k x rows h.kept.admitted.apart h.found h.here

  -- Its descriptor is replaced.

  changed_here : (d : Descriptor) (s' : ℕ) → s' ≡ s - promised x.descriptor + promised d → AreSums n s' (with_descriptor i d rows)
  changed_here d s' e = record {
    onus = h.kept.sums.onus ∙ sym (ap (λ us. length (distinct us)) (onus-changed i d rows));
    promised = omega (arith, e, h.kept.sums.promised, promised_sum-changed i k d x rows stands_here, promised_sum-without i k x rows stands_here);
  }

  pub sums_changed : (d : Descriptor) (s' : ℕ) → s' ≡ s - promised x.descriptor + promised d → AreSums n s' (with_descriptor i d t.rows)
  sums_changed d s' e = subst (λ u. AreSums n s' (with_descriptor i d u.rows)) h.view (changed_here d s' e)

  pub refuses_change-found : (d : Descriptor) (s' len : ℕ) → s' ≡ s - promised x.descriptor + promised d → len ≡ length rows → (b : Bool) → sums_fit rule g n len s' ≡ b →
      refuses_change t.rule t.gap t.rows i d ≡ when (not b) Capacity
  refuses_change-found d s' len e l b fitting =
      let same : fits rule g (with_descriptor i d rows) ≡ b
      = fits-sums rule g n len s' (with_descriptor i d rows) (changed_here d s' e) (omega (arith, l, length-map rows (changed i d))) ∙ fitting in
      subst (λ u. refuses_change u.rule u.gap u.rows i d ≡ when (not b) Capacity) h.view
      ((λ j. first_refusal_of (when (not (has_alloc-some i k x rows h.found j)) NoSuchAlloc ∷ when (not (same j)) Capacity ∷ [])) ∙ alone b)

  pub replaced : (d : Descriptor) → set rows k (with_new d x) ≡ with_descriptor i d rows
  replaced d = set_found i k d x rows stands_here (position-Some (λ r. r.alloc_id == i) rows k x h.found).0

  -- It is removed.

  pub remove_seen : remove t.rows k ≡ without i t.rows
  remove_seen = subst (λ u. remove u.rows k ≡ without i u.rows) h.view (remove_found i k x rows stands_here)

  pub refuses_remove-found : refuses_remove t.rows i ≡ None
  refuses_remove-found = subst (λ u. refuses_remove u.rows i ≡ None) h.view (ap (λ b. when (not b) NoSuchAlloc) (has_alloc-some i k x rows h.found))

  -- the ONU of a removed row is counted if that row is its only one
  pub last_counted : (owns last : ℕ) → owns ≡ owned x.onu rows → last ≡ bool_byte (owns == 1) → last ≤ n
  last_counted owns last own e =
      let one : last ≡ bit (owned x.onu rows == 1) = e ∙ byte_bit (owns == 1) ∙ ap (λ m. bit (m == 1)) own in
      omega (arith, one, h.kept.sums.onus, onus-without i k x rows stands_here)

  pub sums_without : (owns last s' : ℕ) → owns ≡ owned x.onu rows → last ≡ bool_byte (owns == 1) → s' ≡ s - promised x.descriptor → AreSums (n - last) s' (without i t.rows)
  sums_without owns last s' own e less =
      let one : last ≡ bit (owned x.onu rows == 1) = e ∙ byte_bit (owns == 1) ∙ ap (λ m. bit (m == 1)) own in
      subst (λ u. AreSums (n - last) s' (without i u.rows)) h.view (record {
        onus = omega (arith, one, h.kept.sums.onus, onus-without i k x rows stands_here);
        promised = omega (arith, less, h.kept.sums.promised, promised_sum-without i k x rows stands_here);
      })

pub kept_changed : {t : Roster} {rule : Rule} {g n s n' s' : ℕ} {rows rows' : List Row} (i : ℕ) (d : Descriptor) → IsKeptRoster rule g n s rows → record { rule = rule; gap = g; rows = rows } ≡ t → refuses_change t.rule t.gap t.rows i d ≡ None →
    IsLawful d → AreSums n' s' (with_descriptor i d t.rows) → rows' ≡ with_descriptor i d rows → IsKeptRoster rule g n' s' rows'
kept_changed {t = t} {rule = rule} {g = g} {n' = n'} {s' = s'} {rows = rows} i d kept view free l sums e =
    let admitted : IsAdmitted rule g (with_descriptor i d rows) = change_keeps rule g rows i d (subst (λ u. refuses_change u.rule u.gap u.rows i d ≡ None) (sym view) free) l kept.admitted in
    let after : AreSums n' s' (with_descriptor i d rows) = subst (λ u. AreSums n' s' (with_descriptor i d u.rows)) (sym view) sums in
    subst (IsKeptRoster rule g n' s') (sym e) (record { admitted = admitted; sums = after })

pub kept_without : {t : Roster} {rule : Rule} {g n s n' s' : ℕ} {rows rows' : List Row} (k i : ℕ) → IsKeptRoster rule g n s rows → record { rule = rule; gap = g; rows = rows } ≡ t → remove t.rows k ≡ without i t.rows →
    AreSums n' s' (without i t.rows) → rows' ≡ remove rows k → IsKeptRoster rule g n' s' rows'
kept_without {t = t} {rule = rule} {g = g} {n' = n'} {s' = s'} {rows = rows} k i kept view place sums e =
    let after : AreSums n' s' (without i rows) = subst (λ u. AreSums n' s' (without i u.rows)) (sym view) sums in
    subst (IsKeptRoster rule g n' s') (sym (e ∙ subst (λ u. remove u.rows k ≡ without i u.rows) (sym view) place)) (record { admitted = remove_keeps rule g rows i kept.admitted; sums = after })
