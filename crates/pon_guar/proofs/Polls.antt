-- The ONUs that a map polls, and those that reported.
use Rattle.std.proofs.Common.{◌≡◌, ℕ, zero, suc, length, set, ◌+◌, ◌<◌, ◌≤◌, ◌||◌, ◌&&◌, Bool, true, false, cond, not, List, [], ◌∷◌, ◌++◌, map, refl, ap, sym, ◌∙◌, subst, arith, inl, inr, get_or}
use Rattle.std.specs.Prelude.{◌==◌, nat_lt, filter, All, Contains}
use Rattle.std.specs.List.Sorted.{IsPartitionedBy}
use Rattle.std.proofs.lemmas.List.Sorted.{IsPartitionedBy-ltb}
use Rattle.std.proofs.Math.Bool.{and-true}
use Rattle.std.proofs.lemmas.Bool.{and_from, cases_lt, cases_order, eq-eqb, le-ltb, lt-ltb, ne_eqb, or_left, or_right, and_parts}
use Rattle.std.proofs.lemmas.Bool.Decides.{eqb_tells}
use Rattle.std.proofs.lemmas.List.Folds.{list_any_none, list_any_at}
use Rattle.std.proofs.lemmas.List.Elements.{All-nil, All-cons, All-filter, All-head, All-map, All-tail, All-weaker}
use Rattle.pon_units.specs.declared.granted.Granted.{Granted}
use Rattle.pon_units.specs.Granted.{AreInMapOrder, ComesBefore, onus_granted}
use Rattle.pon_lists.specs.Distinct.{distinct}
use Rattle.pon_lists.proofs.Distinct.{occurs, contains_filtered}
use Rattle.pon_lists.proofs.Lists.{any_eq-filter, filter_agree, filter_same_in, or-false}
use Rattle.pon_lists.specs.Order.{AreRising, with_number}
use Rattle.pon_guar.specs.Window.{IsLawfulMap, AreConsecutive, WindowMap, onus_polled}
use Rattle.pon_guar.specs.ReportChecks.{with_report}
use Rattle.pon_lists.proofs.Order.{in_order-filter, in_order_at}
use Rattle.pon_guar.proofs.Frames.{frame_at, leads_above}

-- The ONUs of grants in map order are in ascending order.

distinct_all : (P : ℕ → Type 0) (xs : List ℕ) → All P xs → All P (distinct xs)
distinct_all P [] h = h
distinct_all P (x ∷ xs) h = All-cons P x (filter (λ y. not (y == x)) (distinct xs)) (All-head P x xs h)
    (All-filter (λ y. not (y == x)) P (distinct xs) (distinct_all P xs (All-tail P x xs h)))

-- the elements of a list that are neither below a number nor equal to it are above it
above : (x : ℕ) (ys : List ℕ) → All (λ y. x ≤ y) ys → All (λ y. x < y) (filter (λ y. not (y == x)) ys)
above x [] h = All-nil (λ y. x < y)
above x (y ∷ ys) h = elim (eqb_tells y x) [
  | inl e ↦ subst (λ b. All (λ y. x < y) (cond (not b) (y ∷ filter (λ y. not (y == x)) ys) (filter (λ y. not (y == x)) ys))) (sym e.0) (above x ys (All-tail (λ y. x ≤ y) y ys h))
  | inr e ↦ subst (λ b. All (λ y. x < y) (cond (not b) (y ∷ filter (λ y. not (y == x)) ys) (filter (λ y. not (y == x)) ys))) (sym e.0)
      (All-cons (λ y. x < y) y (filter (λ y. not (y == x)) ys) (let l : x ≤ y = All-head (λ y. x ≤ y) y ys h in let o : x < y = strict l e.1 in o) (above x ys (All-tail (λ y. x ≤ y) y ys h)))
]
  where
    strict : {a b : ℕ} → a ≤ b → (b ≡ a → ⊥) → a < b
    strict {a} {b} l n = elim (cases_order a b) [
      | inl e ↦ absurd (n (sym e))
      | inr e ↦ omega (arith, e, l)
    ]

pub onus_rise : (gs : List Granted) → AreInMapOrder gs → AreRising (onus_granted gs)
onus_rise [] h = tt
onus_rise (g ∷ gs) h = (
  above g.onu (distinct (map (λ g. g.onu) gs)) (distinct_all (λ y. g.onu ≤ y) (map (λ g. g.onu) gs) (All-map (λ y. g.onu ≤ y) (λ g. g.onu) gs (All-weaker (ComesBefore g) (λ q. g.onu ≤ q.onu) (λ q b. b.0) gs h.0))),
  in_order-filter (λ i j. i < j) (λ y. not (y == g.onu)) (distinct (map (λ g. g.onu) gs)) (onus_rise gs h.1),
)

-- A list in ascending order is partitioned by each number.

pub parted : (u : ℕ) (xs : List ℕ) → AreRising xs → IsPartitionedBy (λ v. nat_lt v u) xs
parted u xs h = IsPartitionedBy-ltb (λ v. v) xs u (λ m n d l k. elim (cases_lt m n) [
  | inl less ↦ (let e : get_or xs m d < get_or xs n d = in_order_at (λ i j. i < j) xs h m n d less k in omega (arith, e))
  | inr not_less ↦ (let e : n ≡ m = omega (arith, l, not_less) in let q : get_or xs n d ≡ get_or xs m d = ap (λ j. get_or xs j d) e in omega (arith, q))
])

-- A number is in a list in ascending order exactly when it is the first element that is not below it.

pub among_none : (u : ℕ) (xs ys : List ℕ) → length ys ≡ 0 → ys ≡ filter (λ v. not (nat_lt v u)) xs → false ≡ occurs u xs
among_none u xs [] n e =
    ap (occurs u) e ∙ any_eq-filter (λ v. not (nat_lt v u)) u xs ∙ ap (λ b. not b && occurs u xs) (le-ltb u u (omega arith))
among_none u xs (y ∷ ys) n e = absurd (omega (arith, n))

pub among_first : (u v : ℕ) (xs vs : List ℕ) → AreRising xs → v ∷ vs ≡ filter (λ w. not (nat_lt w u)) xs → (v == u) ≡ occurs u xs
among_first u v xs vs h e =
    let rise : AreRising (v ∷ vs) = subst AreRising (sym e) (in_order-filter (λ i j. i < j) (λ w. not (nat_lt w u)) xs h) in
    let all : All (λ w. u ≤ w) (v ∷ vs) = subst (All (λ w. u ≤ w)) (sym e) (not_below u xs) in
    let least : u ≤ v = All-head (λ w. u ≤ w) v vs all in
    let none : occurs u vs ≡ false = list_any_none (λ w. w == u) vs (All-weaker (λ w. v < w) (λ w. (w == u) ≡ false) (λ w l. ne_eqb w u (λ k. omega (arith, k, l, least))) vs rise.0) in
    sym (ap (λ b. (v == u) || b) none ∙ or-false (v == u)) ∙ ap (occurs u) e ∙ any_eq-filter (λ w. not (nat_lt w u)) u xs ∙ ap (λ b. not b && occurs u xs) (le-ltb u u (omega arith))
  where
    not_below : (u : ℕ) (xs : List ℕ) → All (λ w. u ≤ w) (filter (λ w. not (nat_lt w u)) xs)
    not_below u [] = All-nil (λ w. u ≤ w)
    not_below u (x ∷ xs) = elim (cases_lt x u) [
      | inl l ↦ rw (lt-ltb x u l) (not_below u xs)
      | inr g ↦ rw (le-ltb x u g) (All-cons (λ w. u ≤ w) x (filter (λ w. not (nat_lt w u)) xs) g (not_below u xs))
    ]

-- All of a list in ascending order are below a number if the last is.

above_last : (x y : ℕ) (xs : List ℕ) → All (λ v. x < v) (xs ++ y ∷ []) → x < y
above_last x y [] h = All-head (λ v. x < v) y [] h
above_last x y (v ∷ xs) h = above_last x y xs (All-tail (λ v. x < v) v (xs ++ y ∷ []) h)

below_if_last : (u y : ℕ) (xs : List ℕ) → AreRising (xs ++ y ∷ []) → y < u → All (λ v. v < u) (xs ++ y ∷ [])
below_if_last u y [] h l = All-cons (λ v. v < u) y [] l (All-nil (λ v. v < u))
below_if_last u y (x ∷ xs) h l = All-cons (λ v. v < u) x (xs ++ y ∷ []) (let q : x < y = above_last x y xs h.0 in omega (arith, q, l)) (below_if_last u y xs h.1 l)

pub all_below : (u y : ℕ) (xs ys : List ℕ) → AreRising xs → xs ≡ ys ++ y ∷ [] → y < u → All (λ v. v < u) xs
all_below u y xs ys h e l = subst (All (λ v. v < u)) (sym e) (below_if_last u y ys (subst AreRising e h) l)

pub below_kept : (u : ℕ) (xs : List ℕ) → All (λ v. v < u) xs → xs ≡ filter (λ v. nat_lt v u) xs
below_kept u [] h = refl
below_kept u (x ∷ xs) h = ap (λ t. x ∷ t) (below_kept u xs (All-tail (λ v. v < u) x xs h))
    ∙ ap (λ b. cond b (x ∷ filter (λ v. nat_lt v u) xs) (filter (λ v. nat_lt v u) xs)) (sym (lt-ltb x u (All-head (λ v. v < u) x xs h)))

pub below_left_out : (u : ℕ) (xs : List ℕ) → All (λ v. v < u) xs → [] ≡ filter (λ v. not (nat_lt v u)) xs
below_left_out u [] h = refl
below_left_out u (x ∷ xs) h = below_left_out u xs (All-tail (λ v. v < u) x xs h)
    ∙ ap (λ b. cond (not b) (x ∷ filter (λ v. not (nat_lt v u)) xs) (filter (λ v. not (nat_lt v u)) xs)) (sym (lt-ltb x u (All-head (λ v. v < u) x xs h)))

-- One more number, inserted in ascending order.

none_below : (u : ℕ) (xs : List ℕ) → All (λ x. u < x) xs → filter (λ x. nat_lt x u) xs ≡ []
none_below u [] h = refl
none_below u (x ∷ xs) h = ap (λ b. cond b (x ∷ filter (λ x. nat_lt x u) xs) (filter (λ x. nat_lt x u) xs)) (le-ltb x u (let l : u < x = All-head (λ x. u < x) x xs h in omega (arith, l)))
    ∙ none_below u xs (All-tail (λ x. u < x) x xs h)

all_others : (u : ℕ) (xs : List ℕ) → All (λ x. u < x) xs → filter (λ x. not (nat_lt x u)) xs ≡ xs
all_others u [] h = refl
all_others u (x ∷ xs) h = ap (λ b. cond (not b) (x ∷ filter (λ x. not (nat_lt x u)) xs) (filter (λ x. not (nat_lt x u)) xs)) (le-ltb x u (let l : u < x = All-head (λ x. u < x) x xs h in omega (arith, l)))
    ∙ ap (λ t. x ∷ t) (all_others u xs (All-tail (λ x. u < x) x xs h))

-- a test that is changed at one number only keeps the same elements of a list above the number
changed_below : (p : ℕ → Bool) (u : ℕ) (xs : List ℕ) → All (λ x. u < x) xs → filter p xs ≡ filter (λ v. p v || (u == v)) xs
changed_below p u [] h = refl
changed_below p u (x ∷ xs) h =
    let same : p x ≡ (p x || (u == x)) = sym (ap (λ b. p x || b) (ne_eqb u x (λ q. let l : u < x = All-head (λ x. u < x) x xs h in omega (arith, l, q))) ∙ or-false (p x)) in
    (λ j. cond (same j) (x ∷ changed_below p u xs (All-tail (λ x. u < x) x xs h) j) (changed_below p u xs (All-tail (λ x. u < x) x xs h) j))

above_member : (x u : ℕ) (xs : List ℕ) → All (λ y. x < y) xs → occurs u xs ≡ true → x < u
above_member x u [] h t = absurd cc
above_member x u (y ∷ xs) h t = elim (eqb_tells y u) [
  | inl e ↦ subst (λ v. x < v) e.1 (All-head (λ y. x < y) y xs h)
  | inr e ↦ above_member x u xs (All-tail (λ y. x < y) y xs h) (subst (λ b. (b || occurs u xs) ≡ true) e.0 t)
]

pub placed : (p : ℕ → Bool) (u : ℕ) (xs : List ℕ) → AreRising xs → occurs u xs ≡ true → p u ≡ false → with_number u (filter p xs) ≡ filter (λ v. p v || (u == v)) xs
placed p u [] h t n = absurd cc
placed p u (x ∷ xs) h t n = elim (eqb_tells x u) [
  | inl e ↦
      let over : All (λ v. u < v) xs = subst (λ u. All (λ v. u < v) xs) e.1 h.0 in
      let kept : All (λ v. u < v) (filter p xs) = All-filter p (λ v. u < v) xs over in
      let fails : p x ≡ false = ap p e.1 ∙ n in
      let holds : (p x || (u == x)) ≡ true = ap (λ b. b || (u == x)) fails ∙ eq-eqb u x (sym e.1) in
      ap (λ b. with_number u (cond b (x ∷ filter p xs) (filter p xs))) fails
      ∙ (λ j. none_below u (filter p xs) kept j ++ u ∷ all_others u (filter p xs) kept j)
      ∙ (λ j. sym e.1 j ∷ changed_below p u xs over j)
      ∙ ap (λ b. cond b (x ∷ filter (λ v. p v || (u == v)) xs) (filter (λ v. p v || (u == v)) xs)) (sym holds)
  | inr e ↦
      let there : occurs u xs ≡ true = subst (λ b. (b || occurs u xs) ≡ true) e.0 t in
      let below : nat_lt x u ≡ true = lt-ltb x u (above_member x u xs h.0 there) in
      let same : p x ≡ (p x || (u == x)) = sym (ap (λ b. p x || b) (ne_eqb u x (λ q. e.1 (sym q))) ∙ or-false (p x)) in
      step (p x) below
      ∙ (λ j. cond (same j) (x ∷ placed p u xs h.1 there n j) (placed p u xs h.1 there n j))
]
  where
    step : (b : Bool) → nat_lt x u ≡ true → with_number u (cond b (x ∷ filter p xs) (filter p xs)) ≡ cond b (x ∷ with_number u (filter p xs)) (with_number u (filter p xs))
    step false l = refl
    step true l = (λ j. cond (l j) (x ∷ filter (λ j. nat_lt j u) (filter p xs)) (filter (λ j. nat_lt j u) (filter p xs)) ++ u ∷ cond (not (l j)) (x ∷ filter (λ j. not (nat_lt j u)) (filter p xs)) (filter (λ j. not (nat_lt j u)) (filter p xs)))

-- The ONUs that reported for a map.

pub reporters_rise : (m : WindowMap) → IsLawfulMap m → AreRising m.reported
reporters_rise m l = subst AreRising (sym l.reported) (in_order-filter (λ i j. i < j) (λ u. occurs u m.reported) (onus_polled m) (onus_rise m.grants l.rising))

pub noted : (m : WindowMap) (u : ℕ) → IsLawfulMap m → occurs u (onus_polled m) ≡ true → occurs u m.reported ≡ false → with_number u m.reported ≡ (with_report m.frame u m).reported
noted m u l there first =
    ap (with_number u) l.reported
    ∙ placed (λ v. occurs v m.reported) u (onus_polled m) (onus_rise m.grants l.rising) there first
    ∙ filter_agree (λ v. occurs v m.reported || (u == v)) (λ v. occurs v m.reported || (m.frame == m.frame && u == v))
    (λ v. ap (λ b. occurs v m.reported || (b && u == v)) (sym (eq-eqb m.frame m.frame refl))) (onus_polled m)

-- a map with one more ONU that reported
abbrev pub noting : ℕ → WindowMap → WindowMap
noting u m = record { frame = m.frame; grants = m.grants; reported = with_number u m.reported }

pub noting_is : (m : WindowMap) (u : ℕ) → IsLawfulMap m → occurs u (onus_polled m) ≡ true → occurs u m.reported ≡ false → noting u m ≡ with_report m.frame u m
noting_is m u l there first = (λ j. record { frame = m.frame; grants = m.grants; reported = noted m u l there first j })

-- a map of grants in map order is lawful if its reporters are those of its polled ONUs that pass a test
pub said_lawful : (said : ℕ → Bool) (m : WindowMap) → AreInMapOrder m.grants → IsLawfulMap (record { frame = m.frame; grants = m.grants; reported = filter said (onus_polled m) })
said_lawful said m h = record {
  rising = h;
  reported = filter_same_in said (λ u. occurs u (filter said (onus_polled m))) (onus_polled m)
      (λ u k. sym (any_eq-filter said u (onus_polled m) ∙ ap (λ b. said u && b) k ∙ and-true (said u)));
}

-- A report in a window.

-- a map of another frame is unchanged
other_frame : (f u : ℕ) (m : WindowMap) → IsLawfulMap m → (f == m.frame) ≡ false → with_report f u m ≡ m
other_frame f u m l e = (λ j. record { frame = m.frame; grants = m.grants; reported = same j })
  where
    same : (with_report f u m).reported ≡ m.reported
    same = filter_agree (λ v. occurs v m.reported || (f == m.frame && u == v)) (λ v. occurs v m.reported)
        (λ v. ap (λ b. occurs v m.reported || (b && u == v)) e ∙ or-false (occurs v m.reported)) (onus_polled m)
        ∙ sym l.reported

others_kept : (f u : ℕ) (ms : List WindowMap) → All IsLawfulMap ms → All (λ m. (f == m.frame) ≡ false) ms → map (with_report f u) ms ≡ ms
others_kept f u [] l h = refl
others_kept f u (m ∷ ms) l h = (λ j. other_frame f u m (All-head IsLawfulMap m ms l) (All-head (λ m. (f == m.frame) ≡ false) m ms h) j
    ∷ others_kept f u ms (All-tail IsLawfulMap m ms l) (All-tail (λ m. (f == m.frame) ≡ false) m ms h) j)

pub reported_at : (n f u : ℕ) (ms : List WindowMap) → AreConsecutive n ms → All IsLawfulMap ms → (k : ℕ) (d new : WindowMap) → k < length ms → (get_or ms k d).frame ≡ f →
    new ≡ with_report (get_or ms k d).frame u (get_or ms k d) → set ms k new ≡ map (with_report f u) ms
reported_at n f u [] h l k d new b e is = absurd (omega (arith, b))
reported_at n f u (m ∷ ms) h l zero d new b e is =
    (λ j. (is ∙ ap (λ f. with_report f u m) e) j ∷ sym (others_kept f u ms (All-tail IsLawfulMap m ms l)
    (All-weaker (λ q. n ≤ q.frame + length ms) (λ q. (f == q.frame) ≡ false) (λ q k. ne_eqb f q.frame (λ z. omega (arith, e, z, k, h.0))) ms (leads_above n ms h.1))) j)
reported_at n f u (m ∷ ms) h l (suc k) d new b e is =
    let far : (get_or (m ∷ ms) (suc k) d).frame ≡ m.frame + suc k = frame_at n m ms h (suc k) d b in
    (λ j. sym (other_frame f u m (All-head IsLawfulMap m ms l) (ne_eqb f m.frame (λ z. omega (arith, e, z, far)))) j
    ∷ reported_at n f u ms h.1 (All-tail IsLawfulMap m ms l) k d new (omega (arith, b)) e is j)

-- removing duplicates keeps each number
pub occurs-distinct : (u : ℕ) (xs : List ℕ) → occurs u xs ≡ true → occurs u (distinct xs) ≡ true
occurs-distinct u [] h = h
occurs-distinct u (x ∷ xs) h = elim (eqb_tells x u) [
  | inl e ↦ or_left (x == u) (occurs u (filter (λ y. not (y == x)) (distinct xs))) e.0
  | inr e ↦ or_right (x == u) (occurs u (filter (λ y. not (y == x)) (distinct xs)))
      (any_eq-filter (λ y. not (y == x)) u (distinct xs)
      ∙ and_from (not (u == x)) (occurs u (distinct xs)) (ap not (ne_eqb u x (λ q. e.1 (sym q)))) (occurs-distinct u xs (subst (λ b. (b || occurs u xs) ≡ true) e.0 h)))
]

-- an ONU with a grant in a map is polled by it
granted_onu : (u : ℕ) (gs : List Granted) → (length (filter (λ g. g.onu == u) gs) == 0) ≡ false → occurs u (map (λ g. g.onu) gs) ≡ true
granted_onu u [] h = absurd cc
granted_onu u (g ∷ gs) h = (elim (g.onu == u) as (λ b. (length (cond b (g ∷ filter (λ g. g.onu == u) gs) (filter (λ g. g.onu == u) gs)) == 0) ≡ false → (b || occurs u (map (λ g. g.onu) gs)) ≡ true) [
  | true ↦ λ _. refl
  | false ↦ λ h. granted_onu u gs h
]) h

pub granted_polled : (u : ℕ) (m : WindowMap) → (length (filter (λ g. g.onu == u) m.grants) == 0) ≡ false → occurs u (onus_polled m) ≡ true
granted_polled u m h = occurs-distinct u (map (λ g. g.onu) m.grants) (granted_onu u m.grants h)

-- A map after a report of an ONU for a frame.
module _ (f u : ℕ) (m : WindowMap) where
  -- an ONU that reported stays one that did
  pub reported_stays : (v : ℕ) → IsLawfulMap m → Contains m.reported v → Contains (with_report f u m).reported v
  reported_stays v l c =
      let was : occurs v m.reported ≡ true = list_any_at (λ w. w == v) m.reported c.0 v c.1 (eq-eqb (get_or m.reported c.0 v) v c.2) in
      let polled : occurs v (onus_polled m) ≡ true = (and_parts (occurs v m.reported) (occurs v (onus_polled m)) (sym (any_eq-filter (λ w. occurs w m.reported) v (onus_polled m)) ∙ ap (occurs v) (sym l.reported) ∙ was)).1 in
      contains_filtered (λ w. occurs w m.reported || (f == m.frame && u == w)) v (onus_polled m) (or_left (occurs v m.reported) (f == m.frame && u == v) was) polled

  -- in the map of that frame the ONU has reported, if it has a grant
  pub reported_now : (g : Granted) → m.frame ≡ f → Contains (filter (λ g. g.onu == u) m.grants) g → Contains (with_report f u m).reported u
  reported_now g at there =
      contains_filtered (λ w. occurs w m.reported || (f == m.frame && u == w)) u (onus_polled m)
      (or_right (occurs u m.reported) (f == m.frame && u == u) (and_from (f == m.frame) (u == u) (eq-eqb f m.frame (sym at)) (eq-eqb u u refl)))
      (granted_polled u m (ne_eqb (length (filter (λ g. g.onu == u) m.grants)) 0 (λ none. omega (arith, none, there.1))))
