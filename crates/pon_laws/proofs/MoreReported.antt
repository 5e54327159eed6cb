-- An Alloc-ID that reports more, all else equal, gets no lower rate in the map.
use Rattle.std.proofs.Common.{◌≡◌, ℕ, zero, suc, ◌+◌, ◌-◌, ◌*◌, ◌<◌, ◌≤◌, Bool, true, false, cond, List, [], ◌∷◌, ◌++◌, length, map, refl, ap, sym, ◌∙◌, subst, arith, inl, inr}
use Rattle.std.specs.Prelude.{◌==◌, Contains, Some, find, slice_index, slice_index_or, sum_by}
use Rattle.std.proofs.Math.Nat.{mul-le-mul_right}
use Rattle.std.proofs.lemmas.Bool.{cases_Bool, cases_lt, eq-eqb, eqb-true, or_from, or_parts}
use Rattle.std.proofs.lemmas.List.{map-append}
use Rattle.std.proofs.lemmas.List.Elements.{All-contains, All-contains_itself, All-filter, filter-append}
use Rattle.std.proofs.lemmas.List.Folds.{list_any_at}
use Rattle.std.proofs.lemmas.List.Sums.{sum_by-append, sum_by-cons}
use Rattle.std.proofs.lemmas.Simd.{map-map}
use Rattle.pon_units.specs.declared.limits.TheConstants.{WORD_RATE}
use Rattle.pon_units.specs.Frac.{Frac}
use Rattle.pon_descr.specs.Descriptor.{promised}
use Rattle.pon_descr.specs.declared.class.Class.{Class}
use Rattle.pon_descr.specs.declared.class.Class.TheVariants.{Plain, NonAssured, BestEffort}
use Rattle.pon_admit.specs.declared.row.Row.{Row}
use Rattle.pon_admit.specs.Roster.{IsAdmitted, IsDistinct, IsInRange, capacity, has_alloc}
use Rattle.pon_guar.specs.Book.{load_of}
use Rattle.pon_guar.specs.declared.account.Account.{Account}
use Rattle.pon_guar.specs.Rates.{cap, guaranteed}
use Rattle.pon_cert.specs.declared.problem.Item.{Item}
use Rattle.pon_cert.specs.declared.cert.ClassCert.{ClassCert}
use Rattle.pon_cert.specs.declared.cert.MapCert.{MapCert}
use Rattle.pon_cert.specs.Certificate.{IsCertificate, denominator, left_surplus, spelled}
use Rattle.pon_cert.specs.Problem.{AreWeighted}
use Rattle.pon_cert.proofs.OneCertificate.{one_certificate}
use Rattle.pon_demand.specs.Input.{Input}
use Rattle.pon_demand.specs.Rates.{guaranteed_rate}
use Rattle.pon_demand.specs.Sharing.{IsCertified, item_of, items, members, same_class, spelled_rate, surplus, surplus_rate, weight_in}
use Rattle.pon_demand.proofs.ClassShares.{spelled_rates, weighted}
use Rattle.pon_laws.specs.Growth.{Grows, IsUpTo}
use Rattle.pon_laws.specs.Shares.{IsOnlyMore, rate_of, with_reports}
use Rattle.pon_laws.proofs.ClassParts.{be_cap, be_rate, in_roster, na_cap, na_rate, of_class, plain_rate}
use Rattle.pon_laws.proofs.GrowingItems.{own_rises}

-- ---- the rows around that of an Alloc-ID

record Around (r : Row) (rows : List Row) : Type 0 where
  before : List Row
  after : List Row
  is : rows ≡ before ++ r ∷ after
  not_before : has_alloc r.alloc_id before ≡ false
  not_after : has_alloc r.alloc_id after ≡ false

around : (rows : List Row) (r : Row) (k : ℕ) → IsDistinct rows → k < length rows → slice_index_or rows k r ≡ r → Around r rows
around [] r k d lt at = absurd (omega (arith, lt))
around (q ∷ rows) r zero d lt at =
    record { before = []; after = rows; is = ap (λ (x : Row). x ∷ rows) at; not_before = refl; not_after = subst (λ (x : Row). has_alloc x.alloc_id rows ≡ false) at d.0 }
around (q ∷ rows) r (suc k) d lt at =
    let within : k < length rows = omega (arith, lt) in
    let rest : Around r rows = around rows r k d.1 within at in
    let there : has_alloc r.alloc_id rows ≡ true = list_any_at (λ x. x.alloc_id == r.alloc_id) rows k r within (ap (λ (x : Row). x.alloc_id == r.alloc_id) at ∙ eq-eqb r.alloc_id r.alloc_id refl) in
    let other : (q.alloc_id == r.alloc_id) ≡ false = elim (cases_Bool (q.alloc_id == r.alloc_id)) [
      | inl e ↦ absurd (let t : true ≡ false = sym there ∙ ap (λ n. has_alloc n rows) (sym (eqb-true q.alloc_id r.alloc_id e)) ∙ d.0 in cc)
      | inr e ↦ e
    ] in
    record { before = q ∷ rest.before; after = rest.after; is = ap (λ (l : List Row). q ∷ l) rest.is; not_before = or_from (q.alloc_id == r.alloc_id) (has_alloc r.alloc_id rest.before) other rest.not_before; not_after = rest.not_after }

-- the row of an Alloc-ID is found
pub found : (rows : List Row) (r : Row) (k : ℕ) → IsDistinct rows → k < length rows → slice_index_or rows k r ≡ r → find (λ q. q.alloc_id == r.alloc_id) rows ≡ Some r
found [] r k d lt at = absurd (omega (arith, lt))
found (q ∷ rows) r zero d lt at =
    ap (λ b. cond b (Some q) (find (λ x. x.alloc_id == r.alloc_id) rows)) (ap (λ (x : Row). x.alloc_id == r.alloc_id) at ∙ eq-eqb r.alloc_id r.alloc_id refl) ∙ ap Some at
found (q ∷ rows) r (suc k) d lt at =
    let within : k < length rows = omega (arith, lt) in
    let there : has_alloc r.alloc_id rows ≡ true = list_any_at (λ x. x.alloc_id == r.alloc_id) rows k r within (ap (λ (x : Row). x.alloc_id == r.alloc_id) at ∙ eq-eqb r.alloc_id r.alloc_id refl) in
    let other : (q.alloc_id == r.alloc_id) ≡ false = elim (cases_Bool (q.alloc_id == r.alloc_id)) [
      | inl e ↦ absurd (let t : true ≡ false = sym there ∙ ap (λ n. has_alloc n rows) (sym (eqb-true q.alloc_id r.alloc_id e)) ∙ d.0 in cc)
      | inr e ↦ e
    ] in
    ap (λ b. cond b (Some q) (find (λ x. x.alloc_id == r.alloc_id) rows)) other ∙ found rows r k d.1 within at

-- a member of a class is in the roster
all_in : (class : Class) (rows : List Row) (r : Row) → Contains (members class rows) r → Contains rows r
all_in class rows r in_it = All-contains (Contains rows) (members class rows) r (All-filter (λ r. same_class r.descriptor.class class) (Contains rows) rows (All-contains_itself rows)) in_it

middle : (f : Row → ℕ) (xs ys : List Row) (r : Row) → slice_index (map f (xs ++ r ∷ ys)) (length xs) ≡ f r
middle f [] ys r = refl
middle f (x ∷ xs) ys r = middle f xs ys r

length_items : (g : Row → Item) (xs : List Row) → length (map g xs) ≡ length xs
length_items g [] = refl
length_items g (x ∷ xs) = ap suc (length_items g xs)

-- ---- the rate of a member by its place in the class

module _ (s : Input) (class : Class) (cert : ClassCert) (left : ℕ) (k : IsAdmitted s.rule s.gap s.roster) (c : IsCertificate (items class s) left cert) where
  amounts_by_row : (spelled (items class s) cert).amounts ≡ map (λ r. (spelled_rate s class cert r).num) (members class s.roster)
  amounts_by_row =
      sym (ids (spelled (items class s) cert).amounts) ∙ sym (ap (map (λ (f : Frac). f.num)) (spelled_rates s class cert left k c)) ∙ map-map (λ (f : Frac). f.num) (spelled_rate s class cert) (members class s.roster)
    where
      ids : (ns : List ℕ) → map (λ (f : Frac). f.num) (map (λ n. record { num = n; den = denominator cert.level }) ns) ≡ ns
      ids [] = refl
      ids (n ∷ ns) = (λ j. n ∷ ids ns j)

  place : (xs ys : List Row) (r : Row) → members class s.roster ≡ xs ++ r ∷ ys → slice_index (spelled (items class s) cert).amounts (length xs) ≡ (spelled_rate s class cert r).num
  place xs ys r is = ap (λ ns. slice_index ns (length xs)) (amounts_by_row ∙ ap (map (λ r. (spelled_rate s class cert r).num)) is) ∙ middle (λ r. (spelled_rate s class cert r).num) xs ys r

-- ---- one Alloc-ID reports more

abbrev item_by : Row → ℕ → Item
item_by r load = record { weight = weight_in r.descriptor.class r.descriptor; cap = cap r.descriptor load }

module _ (s : Input) (book : List Account) (k : IsAdmitted s.rule s.gap s.roster) (r : Row) (more : IsOnlyMore s book r.alloc_id) (a : Around r s.roster) where
  abbrev t : Input
  t = with_reports s book

  others : (q : Row) → (q.alloc_id == r.alloc_id) ≡ false → load_of s.book q.alloc_id ≡ load_of book q.alloc_id
  others q e = omega (arith, more.others q.alloc_id (λ same. let w : true ≡ false = sym (eq-eqb q.alloc_id r.alloc_id same) ∙ e in cc))

  items_same : (class : Class) (xs : List Row) → has_alloc r.alloc_id xs ≡ false → map (item_of s) (members class xs) ≡ map (item_of t) (members class xs)
  items_same class [] h = refl
  items_same class (q ∷ xs) h =
      let two = or_parts (q.alloc_id == r.alloc_id) (has_alloc r.alloc_id xs) h in
      one (others q two.0) (items_same class xs two.1) (same_class q.descriptor.class class)
    where
      one : load_of s.book q.alloc_id ≡ load_of book q.alloc_id → map (item_of s) (members class xs) ≡ map (item_of t) (members class xs) → (b : Bool) →
          map (item_of s) (cond b (q ∷ members class xs) (members class xs)) ≡ map (item_of t) (cond b (q ∷ members class xs) (members class xs))
      one same rest false = rest
      one same rest true = (λ j. item_by q (same j) ∷ rest j)

  guaranteed_same : (xs : List Row) → has_alloc r.alloc_id xs ≡ false → sum_by (guaranteed_rate s) xs ≡ sum_by (guaranteed_rate t) xs
  guaranteed_same [] h = refl
  guaranteed_same (q ∷ xs) h =
      let two = or_parts (q.alloc_id == r.alloc_id) (has_alloc r.alloc_id xs) h in
      sum_by-cons (guaranteed_rate s) q xs ∙ (λ j. guaranteed q.descriptor (others q two.0 j) + guaranteed_same xs two.1 j) ∙ sym (sum_by-cons (guaranteed_rate t) q xs)

  -- the load is above the fixed and assured rate together
  module _ (over : promised r.descriptor < load_of s.book r.alloc_id) where
    own_guaranteed : guaranteed_rate s r ≡ guaranteed_rate t r
    own_guaranteed = omega (arith, over, more.own)

    grows : Grows (item_of s r) (item_of t r)
    grows = record { weight = omega arith; cap = omega (arith, over, more.own) }

    sum_same : sum_by (guaranteed_rate s) s.roster ≡ sum_by (guaranteed_rate t) s.roster
    sum_same =
        ap (sum_by (guaranteed_rate s)) a.is ∙ sum_by-append (guaranteed_rate s) a.before (r ∷ a.after)
        ∙ (λ j. guaranteed_same a.before a.not_before j + (sum_by-cons (guaranteed_rate s) r a.after ∙ (λ i. own_guaranteed i + guaranteed_same a.after a.not_after i) ∙ sym (sum_by-cons (guaranteed_rate t) r a.after)) j)
        ∙ sym (sum_by-append (guaranteed_rate t) a.before (r ∷ a.after)) ∙ sym (ap (sum_by (guaranteed_rate t)) a.is)

    surplus_same : surplus s ≡ surplus t
    surplus_same = ap (λ (n : ℕ). WORD_RATE * capacity s.rule s.gap s.roster - n) sum_same

    module _ (class : Class) where
      abbrev xs : List Row
      xs = members class a.before

      abbrev ys : List Row
      ys = members class a.after

      split : (b : Bool) → same_class r.descriptor.class class ≡ b → members class s.roster ≡ xs ++ cond b (r ∷ ys) ys
      split b e = ap (members class) a.is ∙ filter-append (λ r. same_class r.descriptor.class class) a.before (r ∷ a.after) ∙ ap (λ (b : Bool). xs ++ cond b (r ∷ ys) ys) e

      not_mine : same_class r.descriptor.class class ≡ false → items class s ≡ items class t
      not_mine e = ap (map (item_of s)) (split false e) ∙ map-append (item_of s) xs ys
          ∙ (λ j. items_same class a.before a.not_before j ++ items_same class a.after a.not_after j)
          ∙ sym (map-append (item_of t) xs ys) ∙ sym (ap (map (item_of t)) (split false e))

      module _ (e : same_class r.descriptor.class class ≡ true) where
        mine : items class s ≡ map (item_of s) xs ++ item_of s r ∷ map (item_of s) ys
        mine = ap (map (item_of s)) (split true e) ∙ map-append (item_of s) xs (r ∷ ys)

        its : items class t ≡ map (item_of s) xs ++ item_of t r ∷ map (item_of s) ys
        its = ap (map (item_of t)) (split true e) ∙ map-append (item_of t) xs (r ∷ ys)
            ∙ (λ j. sym (items_same class a.before a.not_before) j ++ item_of t r ∷ sym (items_same class a.after a.not_after) j)

        class_rises : (left : ℕ) (c d : ClassCert) → same_class class Plain ≡ false → IsCertificate (items class s) left c → IsCertificate (items class t) left d →
            IsUpTo (spelled_rate s class c r) (spelled_rate t class d r)
        class_rises left c d shares hc hd =
            let up = own_rises (map (item_of s) xs) (map (item_of s) ys) (item_of s r) (item_of t r) left c d (subst AreWeighted mine (weighted s k class shares)) grows
            (subst (λ is. IsCertificate is left c) mine hc) (subst (λ is. IsCertificate is left d) its hd) in
            let old : slice_index (spelled (map (item_of s) xs ++ item_of s r ∷ map (item_of s) ys) c).amounts (length (map (item_of s) xs)) ≡ (spelled_rate s class c r).num
            = (λ j. slice_index (spelled (sym mine j) c).amounts (length_items (item_of s) xs j)) ∙ place s class c left k hc xs ys r (split true e) in
            let new : slice_index (spelled (map (item_of s) xs ++ item_of t r ∷ map (item_of s) ys) d).amounts (length (map (item_of s) xs)) ≡ (spelled_rate t class d r).num
            = (λ j. slice_index (spelled (sym its j) d).amounts (length_items (item_of s) xs j)) ∙ place t class d left k hd xs ys r (split true e) in
            omega (arith, up, ap (λ (n : ℕ). n * denominator d.level) old, ap (λ (n : ℕ). n * denominator c.level) new)

    -- with the surplus rate the whole rate rises
    with_surplus : (p q : Frac) → IsUpTo p q → (guaranteed_rate s r * p.den + p.num) * q.den ≤ (guaranteed_rate t r * q.den + q.num) * p.den
    with_surplus p q h = omega (arith, h, ap (λ (n : ℕ). n * (p.den * q.den)) own_guaranteed)

    module _ (m n : MapCert) (cm : IsCertified s m) (cn : IsCertified t n) where
      na_up : same_class r.descriptor.class NonAssured ≡ true → IsUpTo (spelled_rate s NonAssured m.na r) (spelled_rate t NonAssured n.na r)
      na_up e = class_rises NonAssured e (surplus s) m.na n.na refl cm.non_assured (subst (λ left. IsCertificate (items NonAssured t) left n.na) (sym surplus_same) cn.non_assured)

      be_up : same_class r.descriptor.class NonAssured ≡ false → same_class r.descriptor.class BestEffort ≡ true → IsUpTo (spelled_rate s BestEffort m.be r) (spelled_rate t BestEffort n.be r)
      be_up other e =
          let same : items NonAssured s ≡ items NonAssured t = not_mine NonAssured other in
          let na : m.na ≡ n.na = one_certificate (items NonAssured s) (surplus s) m.na n.na (weighted s k NonAssured refl) cm.non_assured
          (subst (λ is. IsCertificate is (surplus s) n.na) (sym same) (subst (λ left. IsCertificate (items NonAssured t) left n.na) (sym surplus_same) cn.non_assured)) in
          let left : left_surplus m.na.level (items NonAssured s) (surplus s) ≡ left_surplus n.na.level (items NonAssured t) (surplus t) = (λ j. left_surplus (na j).level (same j) (surplus_same j)) in
          class_rises BestEffort e (left_surplus m.na.level (items NonAssured s) (surplus s)) m.be n.be refl cm.best_effort (subst (λ left. IsCertificate (items BestEffort t) left n.be) (sym left) cn.best_effort)

-- the guaranteed rate does not fall
not_less : (s : Input) (book : List Account) (r : Row) → load_of s.book r.alloc_id ≤ load_of book r.alloc_id → guaranteed_rate s r ≤ guaranteed_rate (with_reports s book) r
not_less s book r more = omega (arith, more)

-- up to the fixed and assured rate together, nothing else is used
small : (s : Input) (book : List Account) (r : Row) (p q : Frac) → load_of s.book r.alloc_id ≤ promised r.descriptor → promised r.descriptor ≤ r.descriptor.max → load_of s.book r.alloc_id ≤ load_of book r.alloc_id → p.num ≤ (item_of s r).cap * p.den →
    (guaranteed_rate s r * p.den + p.num) * q.den ≤ (guaranteed_rate (with_reports s book) r * q.den + q.num) * p.den
small s book r p q low enough more cap =
    let none : (item_of s r).cap ≡ 0 = omega (arith, low, enough) in
    let nothing : p.num ≡ 0 = omega (arith, cap, ap (λ (n : ℕ). n * p.den) none) in
    omega (arith, mul-le-mul_right (p.den * q.den) (not_less s book r more), ap (λ (n : ℕ). n * q.den) nothing)

-- the two classes of a row differ
not_both : (class : Class) → same_class class BestEffort ≡ true → same_class class NonAssured ≡ false
not_both Plain e = refl
not_both NonAssured e = absurd (let t : false ≡ true = e in cc)
not_both BestEffort e = refl

pub never_less : (s : Input) (book : List Account) (m n : MapCert) → IsAdmitted s.rule s.gap s.roster → IsCertified s m → IsCertified (with_reports s book) n →
    (class : Class) (r : Row) → Contains (members class s.roster) r → IsOnlyMore s book r.alloc_id → IsUpTo (rate_of s m r) (rate_of (with_reports s book) n r)
never_less s book m n k cm cn Plain r in_it more =
    rw (plain_rate s m k cm r in_it, plain_rate (with_reports s book) n k cn r in_it) (omega (arith, not_less s book r more.own))
never_less s book m n k cm cn NonAssured r in_it more =
    let row : IsInRange r = in_roster s m k cm NonAssured r in_it in
    let enough : promised r.descriptor ≤ r.descriptor.max = row.descriptor.enough in
    elim (cases_lt (promised r.descriptor) (load_of s.book r.alloc_id)) [
      | inr low ↦ small s book r (surplus_rate s m r) (surplus_rate (with_reports s book) n r) low enough more.own (na_cap s m k cm r in_it)
      | inl over ↦
          let there = all_in NonAssured s.roster r in_it in
          with_surplus s book k r more (around s.roster r there.0 k.apart there.1 there.2) over (surplus_rate s m r) (surplus_rate (with_reports s book) n r)
          (subst (λ (f : Frac). IsUpTo f (surplus_rate (with_reports s book) n r)) (sym (na_rate s m k cm r in_it))
          (subst (IsUpTo (spelled_rate s NonAssured m.na r)) (sym (na_rate (with_reports s book) n k cn r in_it))
          (na_up s book k r more (around s.roster r there.0 k.apart there.1 there.2) over m n cm cn (of_class s m k cm NonAssured r in_it))))
    ]
never_less s book m n k cm cn BestEffort r in_it more =
    let row : IsInRange r = in_roster s m k cm BestEffort r in_it in
    let enough : promised r.descriptor ≤ r.descriptor.max = row.descriptor.enough in
    elim (cases_lt (promised r.descriptor) (load_of s.book r.alloc_id)) [
      | inr low ↦ small s book r (surplus_rate s m r) (surplus_rate (with_reports s book) n r) low enough more.own (be_cap s m k cm r in_it)
      | inl over ↦
          let there = all_in BestEffort s.roster r in_it in
          let is_be = of_class s m k cm BestEffort r in_it in
          with_surplus s book k r more (around s.roster r there.0 k.apart there.1 there.2) over (surplus_rate s m r) (surplus_rate (with_reports s book) n r)
          (subst (λ (f : Frac). IsUpTo f (surplus_rate (with_reports s book) n r)) (sym (be_rate s m k cm r in_it))
          (subst (IsUpTo (spelled_rate s BestEffort m.be r)) (sym (be_rate (with_reports s book) n k cn r in_it))
          (be_up s book k r more (around s.roster r there.0 k.apart there.1 there.2) over m n cm cn (not_both r.descriptor.class is_be) is_be)))
    ]
