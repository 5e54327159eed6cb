-- The parts of a report book: tests of neighbours, the reporters of a map, consecutive frames, and the accounts in order.
use Rattle.std.proofs.Common.{◌≡◌, ℕ, zero, suc, ◌+◌, ◌-◌, ◌<◌, ◌≤◌, ◌||◌, ◌&&◌, Bool, true, false, cond, not, List, [], ◌∷◌, ◌++◌, map, length, take, drop, drop-cons, get_or, refl, ap, sym, ◌∙◌, subst, arith, inl, inr}
use Rattle.std.specs.Prelude.{◌==◌, ◌↔◌, nat_lt, filter, slice_get, All, MatchOption, Option, Some, None}
use Rattle.std.specs.List.{list_any}
use Rattle.std.specs.Option.{is_some}
use Rattle.std.proofs.lemmas.Bool.{and_parts, cases_Bool, cases_lt, eq-eqb, false≢true, le-ltb, lt-ltb, ltb-false, ne_eqb, not-true, or_left, or_right}
use Rattle.std.proofs.lemmas.Bool.Decides.{eqb_tells}
use Rattle.std.proofs.lemmas.List.{get_or-take, get_or_default, length-take-le, take_all, take_more}
use Rattle.std.proofs.lemmas.List.Elements.{All-nil, All-cons, All-head, All-more, All-tail, All-weaker, filter_passes}
use Rattle.std.proofs.lemmas.Option.{slice_get-get_or}
use Rattle.std.proofs.lemmas.List.Folds.{list_any_none, list_any_at}
use Rattle.pon_units.specs.declared.granted.Granted.{Granted}
use Rattle.pon_units.specs.Granted.{AreInMapOrder, ComesBefore}
use Rattle.pon_lists.specs.Distinct.{distinct}
use Rattle.pon_lists.specs.Order.{AreRising, IsInOrder}
use Rattle.pon_lists.proofs.Distinct.{occurs}
use Rattle.pon_lists.proofs.Inserted.{list_any-inserted}
use Rattle.pon_lists.proofs.Lists.{any_eq-filter, list_any-map, or-false}
use Rattle.pon_lists.proofs.Order.{in_order-append, in_order-filter, in_order_at}
use Rattle.pon_guar.specs.Book.{Account, StandsAt, account_of, alloc_ids}
use Rattle.pon_guar.specs.Loads.{with_account}
use Rattle.pon_guar.specs.Parts.{AreApart, book_from}
use Rattle.pon_guar.proofs.Books.{admitted_rise}
use Rattle.pon_guar.specs.Window.{AreConsecutive, IsLawfulMap, WindowMap, frame_after, onus_polled}
use Rattle.pon_guar.proofs.Frames.{frame_at}
use Rattle.pon_guar.proofs.Polls.{occurs-distinct, onus_rise}

-- What a test found.

pub found : {P : Type 0} → P → (true ≡ true) ↔ P
found p = (λ _. p, λ _. refl)

pub not_found : {P : Type 0} → (P → ⊥) → (false ≡ true) ↔ P
not_found n = (λ t. absurd (false≢true t), λ p. absurd (n p))

-- What all elements have, element by element.

module _ {X : Type 0} (P : X → Type 0) (xs : List X) (i : ℕ) where
  pub all_more : (x : X) → i < length xs → x ≡ get_or xs i x → All P (take i xs) → P x → All P (take (i + 1) xs)
  all_more x lt is h p = All-more P xs i x lt h (subst P is p)

  pub not_all : (x : X) → i < length xs → x ≡ get_or xs i x → (P x → ⊥) → All P xs → ⊥
  not_all x lt is n h = n (subst P (sym is) (h i x lt))

  pub all_done : length xs ≤ i → All P (take i xs) → All P xs
  all_done le h = subst (All P) (take_all i xs le) h

-- A list is in an order if each element comes before the next.

module _ {X : Type 0} (Before : X → X → Type 0) where
  -- one more element, which comes after the last
  pub in_order_more : ((x y z : X) → Before x y → Before y z → Before x z) → (xs : List X) (i : ℕ) (x y : X) → 1 ≤ i → i < length xs → x ≡ get_or xs (i - 1) x → y ≡ get_or xs i y →
      IsInOrder Before (take i xs) → Before x y → IsInOrder Before (take (i + 1) xs)
  in_order_more trans xs i x y least lt last next h before =
      let more : take (i + 1) xs ≡ take i xs ++ y ∷ [] = take_more xs i y lt ∙ ap (λ z. take i xs ++ z ∷ []) (sym next) in
      subst (IsInOrder Before) (sym more)
      (in_order-append Before (take i xs) (y ∷ []) h (All-nil (Before y), tt) (λ k d l. All-cons (Before (get_or (take i xs) k d)) y [] (each k d l) (All-nil (Before (get_or (take i xs) k d)))))
    where
      long : length (take i xs) ≡ i
      long = length-take-le i xs (omega (arith, lt))

      end : (d : X) → get_or (take i xs) (i - 1) d ≡ x
      end d = get_or-take i xs (i - 1) d (omega (arith, least)) ∙ get_or_default xs (i - 1) d x (omega (arith, lt)) ∙ sym last

      each : (k : ℕ) (d : X) → k < length (take i xs) → Before (get_or (take i xs) k d) y
      each k d l = elim (cases_lt k (i - 1)) [
        | inl less ↦ trans (get_or (take i xs) k d) x y
            (subst (Before (get_or (take i xs) k d)) (end d) (in_order_at Before (take i xs) h k (i - 1) d less (omega (arith, long, least)))) before
        | inr same ↦
            let at : k ≡ i - 1 = omega (arith, same, l, long, least) in
            subst (λ z. Before z y) (sym (ap (λ n. get_or (take i xs) n d) at ∙ end d)) before
      ]

  -- neighbours of a list in an order
  pub neighbours : (xs : List X) (i : ℕ) (x y : X) → 1 ≤ i → i < length xs → x ≡ get_or xs (i - 1) x → y ≡ get_or xs i y → IsInOrder Before xs → Before x y
  neighbours xs i x y least lt last next h =
      subst (λ z. Before z y) (get_or_default xs (i - 1) y x (omega (arith, lt)) ∙ sym last)
      (subst (Before (get_or xs (i - 1) y)) (sym next) (in_order_at Before xs h (i - 1) i y (omega (arith, least)) lt))

  -- the whole list, and one that does not come before the next
  pub in_order_done : (xs : List X) (i : ℕ) → length xs ≤ i → IsInOrder Before (take i xs) → IsInOrder Before xs
  in_order_done xs i le h = subst (IsInOrder Before) (take_all i xs le) h

  pub in_order_one : (xs : List X) → IsInOrder Before (take 1 xs)
  in_order_one [] = tt
  in_order_one (x ∷ xs) = (All-nil (Before x), tt)

pub rising_trans : (m n k : ℕ) → m < n → n < k → m < k
rising_trans m n k h l = omega (arith, h, l)

pub map_order_trans : (g h k : Granted) → ComesBefore g h → ComesBefore h k → ComesBefore g k
map_order_trans g h k a b = (
  omega (arith, a.0, b.0),
  λ e. (let first : g.onu ≡ h.onu = omega (arith, a.0, b.0, e) in
      let second : h.onu ≡ k.onu = omega (arith, first, e) in
      let l : g.alloc_id < h.alloc_id = a.1 first in
      let m : h.alloc_id < k.alloc_id = b.1 second in
      omega (arith, l, m)),
)

-- A binary search for the grants of an ONU: the first of those that are not to smaller ONUs.

others_any : (u : ℕ) (gs : List Granted) → list_any (λ g. g.onu == u) (filter (λ g. not (nat_lt g.onu u)) gs) ≡ list_any (λ g. g.onu == u) gs
others_any u [] = refl
others_any u (g ∷ gs) = elim (cases_lt g.onu u) [
  | inl l ↦
      ap (λ b. list_any (λ g. g.onu == u) (cond (not b) (g ∷ filter (λ g. not (nat_lt g.onu u)) gs) (filter (λ g. not (nat_lt g.onu u)) gs))) (lt-ltb g.onu u l)
      ∙ others_any u gs ∙ ap (λ b. b || list_any (λ g. g.onu == u) gs) (sym (ne_eqb g.onu u (λ e. omega (arith, e, l))))
  | inr m ↦
      ap (λ b. list_any (λ g. g.onu == u) (cond (not b) (g ∷ filter (λ g. not (nat_lt g.onu u)) gs) (filter (λ g. not (nat_lt g.onu u)) gs))) (le-ltb g.onu u m)
      ∙ ap (λ b. (g.onu == u) || b) (others_any u gs)
]

pub polled_none : (u : ℕ) (gs others : List Granted) → others ≡ filter (λ g. not (nat_lt g.onu u)) gs → length others ≡ 0 → false ≡ list_any (λ g. g.onu == u) gs
polled_none u gs [] e n = ap (list_any (λ g. g.onu == u)) e ∙ others_any u gs
polled_none u gs (g ∷ others) e n = absurd (omega (arith, n))

pub polled_first : (u : ℕ) (gs rest : List Granted) (g : Granted) → AreInMapOrder gs → g ∷ rest ≡ filter (λ g. not (nat_lt g.onu u)) gs → (g.onu == u) ≡ list_any (λ g. g.onu == u) gs
polled_first u gs rest g h e =
    let order : AreInMapOrder (g ∷ rest) = subst AreInMapOrder (sym e) (in_order-filter ComesBefore (λ g. not (nat_lt g.onu u)) gs h) in
    let passes : All (λ g. not (nat_lt g.onu u) ≡ true) (g ∷ rest) = subst (All (λ g. not (nat_lt g.onu u) ≡ true)) (sym e) (filter_passes (λ g. not (nat_lt g.onu u)) gs) in
    let least : u ≤ g.onu = ltb-false g.onu u (not-true (nat_lt g.onu u) (All-head (λ g. not (nat_lt g.onu u) ≡ true) g rest passes)) in
    first (g.onu == u) refl order least ∙ ap (list_any (λ g. g.onu == u)) e ∙ others_any u gs
  where
    first : (b : Bool) → (g.onu == u) ≡ b → AreInMapOrder (g ∷ rest) → u ≤ g.onu → (g.onu == u) ≡ list_any (λ g. g.onu == u) (g ∷ rest)
    first true is order least = is ∙ sym (or_left (g.onu == u) (list_any (λ g. g.onu == u) rest) is)
    first false is order least =
        let above : All (λ q. (q.onu == u) ≡ false) rest = All-weaker (ComesBefore g) (λ q. (q.onu == u) ≡ false)
        (λ q b. ne_eqb q.onu u (λ k. let same : g.onu ≡ u = omega (arith, b.0, k, least) in let t : true ≡ false = sym (eq-eqb g.onu u same) ∙ is in absurd cc)) rest order.0 in
        sym (ap (λ b. (g.onu == u) || b) (list_any_none (λ q. q.onu == u) rest above) ∙ or-false (g.onu == u))

-- Numbers in ascending order are determined by their members.

none_above : (n : ℕ) (ns : List ℕ) → All (λ m. n < m) ns → (i : ℕ) → i ≤ n → occurs i ns ≡ false
none_above n ns h i le = list_any_none (λ j. j == i) ns (All-weaker (λ m. n < m) (λ m. (m == i) ≡ false) (λ m l. ne_eqb m i (λ e. omega (arith, e, l, le))) ns h)

least_in : (n : ℕ) (ns : List ℕ) → occurs n (n ∷ ns) ≡ true
least_in n ns = or_left (n == n) (occurs n ns) (eq-eqb n n refl)

not_least : (m n : ℕ) (ns : List ℕ) → All (λ k. n < k) ns → m < n → occurs m (n ∷ ns) ≡ false
not_least m n ns h lt = ap (λ b. b || occurs m ns) (ne_eqb n m (λ e. absurd (omega (arith, e, lt)))) ∙ none_above n ns h m (omega (arith, lt))

pub same_rising : (ms ns : List ℕ) → AreRising ms → AreRising ns → ((i : ℕ) → occurs i ms ≡ occurs i ns) → ms ≡ ns
same_rising [] [] a b h = refl
same_rising [] (n ∷ ns) a b h = absurd (let t : false ≡ true = h n ∙ least_in n ns in cc)
same_rising (m ∷ ms) [] a b h = absurd (let t : false ≡ true = sym (h m) ∙ least_in m ms in cc)
same_rising (m ∷ ms) (n ∷ ns) a b h =
    let same : m ≡ n = elim (cases_lt m n) [
      | inl lt ↦ absurd (let t : false ≡ true = sym (not_least m n ns b.0 lt) ∙ sym (h m) ∙ least_in m ms in cc)
      | inr ge ↦ elim (cases_lt n m) [
        | inl lt ↦ absurd (let t : false ≡ true = sym (not_least n m ms a.0 lt) ∙ h n ∙ least_in n ns in cc)
        | inr le ↦ omega (arith, ge, le)
      ]
    ] in
    let later : (i : ℕ) → occurs i ms ≡ occurs i ns = λ i. elim (cases_lt m i) [
      | inl lt ↦ (let skip_m : (m == i) ≡ false = ne_eqb m i (λ e. absurd (omega (arith, e, lt))) in
          let skip_n : (n == i) ≡ false = ne_eqb n i (λ e. absurd (omega (arith, e, lt, same))) in
          sym (ap (λ b. b || occurs i ms) skip_m) ∙ h i ∙ ap (λ b. b || occurs i ns) skip_n)
      | inr ge ↦ none_above m ms a.0 i (omega (arith, ge)) ∙ sym (none_above n ns b.0 i (omega (arith, ge, same)))
    ] in
    (λ k. same k ∷ same_rising ms ns a.1 b.1 later k)

-- The reporters of a map.

-- each of some ONUs has a grant
abbrev pub ArePolled : List Granted → List ℕ → Type 0
ArePolled gs us = All (λ u. list_any (λ g. g.onu == u) gs ≡ true) us

occurs_polled : (gs : List Granted) (u : ℕ) → occurs u (map (λ g. g.onu) gs) ≡ list_any (λ g. g.onu == u) gs
occurs_polled gs u = list_any-map (λ v. v == u) (λ g. g.onu) gs

-- a number that occurs has what all have
occurring : (P : ℕ → Type 0) (u : ℕ) (us : List ℕ) → All P us → occurs u us ≡ true → P u
occurring P u [] h t = absurd cc
occurring P u (v ∷ us) h t = elim (eqb_tells v u) [
  | inl e ↦ subst P e.1 (All-head P v us h)
  | inr e ↦ occurring P u us (All-tail P v us h) (subst (λ b. (b || occurs u us) ≡ true) e.0 t)
]

each_occurs : (us : List ℕ) → All (λ u. occurs u us ≡ true) us
each_occurs us = λ k d l. list_any_at (λ v. v == get_or us k d) us k d l (eq-eqb (get_or us k d) (get_or us k d) refl)

pub lawful_map : (m : WindowMap) → AreInMapOrder m.grants → AreRising m.reported → ArePolled m.grants m.reported → IsLawfulMap m
lawful_map m order rise polled = record {
  rising = order;
  reported = same_rising m.reported (filter (λ u. occurs u m.reported) (onus_polled m)) rise
      (in_order-filter (λ i j. i < j) (λ u. occurs u m.reported) (onus_polled m) (onus_rise m.grants order))
      (λ i. members i (occurs i m.reported) refl ∙ sym (any_eq-filter (λ u. occurs u m.reported) i (onus_polled m)));
}
  where
    members : (i : ℕ) (b : Bool) → occurs i m.reported ≡ b → occurs i m.reported ≡ (occurs i m.reported && occurs i (onus_polled m))
    members i false e = e ∙ ap (λ b. b && occurs i (onus_polled m)) (sym e)
    members i true e =
        let there : list_any (λ g. g.onu == i) m.grants ≡ true = occurring (λ u. list_any (λ g. g.onu == u) m.grants ≡ true) i m.reported polled e in
        let polled_i : occurs i (onus_polled m) ≡ true = occurs-distinct i (map (λ g. g.onu) m.grants) (occurs_polled m.grants i ∙ there) in
        e ∙ sym (ap (λ b. b && occurs i (onus_polled m)) e ∙ polled_i)

-- each distinct number is among the numbers
distinct_occurs : (u : ℕ) (us : List ℕ) → occurs u (distinct us) ≡ true → occurs u us ≡ true
distinct_occurs u [] h = h
distinct_occurs u (v ∷ us) h = elim (eqb_tells v u) [
  | inl e ↦ or_left (v == u) (occurs u us) e.0
  | inr e ↦ or_right (v == u) (occurs u us) (distinct_occurs u us
      (and_parts (not (u == v)) (occurs u (distinct us))
      (sym (any_eq-filter (λ y. not (y == v)) u (distinct us)) ∙ subst (λ b. (b || occurs u (filter (λ y. not (y == v)) (distinct us))) ≡ true) e.0 h)).1)
]

pub polled_if_lawful : (m : WindowMap) → IsLawfulMap m → ArePolled m.grants m.reported
polled_if_lawful m l = All-weaker (λ u. occurs u m.reported ≡ true) (λ u. list_any (λ g. g.onu == u) m.grants ≡ true)
    (λ u t. sym (occurs_polled m.grants u) ∙ distinct_occurs u (map (λ g. g.onu) m.grants)
    (and_parts (occurs u m.reported) (occurs u (onus_polled m))
    (sym (any_eq-filter (λ u. occurs u m.reported) u (onus_polled m)) ∙ ap (occurs u) (sym l.reported) ∙ t)).1)
    m.reported (each_occurs m.reported)

-- Consecutive frames.

-- the frame at each index below a number is that of the first map plus the index
abbrev pub CountUp : List WindowMap → ℕ → Type 0
CountUp ms n = (k : ℕ) (d : WindowMap) → k < n → k < length ms → (get_or ms k d).frame ≡ (get_or ms 0 d).frame + k

counted_from : (f : ℕ) (ms : List WindowMap) → ((k : ℕ) (d : WindowMap) → k < length ms → (get_or ms k d).frame ≡ f + k) → AreConsecutive (f + length ms) ms
counted_from f [] h = tt
counted_from f (m ∷ ms) h =
    let first : m.frame ≡ f + 0 = h 0 m (omega arith) in
    let rest : AreConsecutive (f + 1 + length ms) ms = counted_from (f + 1) ms (λ k d l. let e : (get_or (m ∷ ms) (suc k) d).frame ≡ f + suc k = h (suc k) d (omega (arith, l)) in omega (arith, e)) in
    (omega (arith, first), subst (λ n. AreConsecutive n ms) (let e : f + 1 + length ms ≡ f + length (m ∷ ms) = omega arith in e) rest)

pub consecutive : (ms : List WindowMap) (n : ℕ) → length ms ≤ n → CountUp ms n → AreConsecutive (frame_after ms) ms
consecutive [] n le h = tt
consecutive (m ∷ ms) n le h = counted_from m.frame (m ∷ ms) (λ k d l. h k d (omega (arith, l, le)) l)

pub count_one : (ms : List WindowMap) → CountUp ms 1
count_one ms = λ k d one l.
    let e : k ≡ 0 = omega (arith, one) in
    let at : (get_or ms k d).frame ≡ (get_or ms 0 d).frame = ap (λ k. (get_or ms k d).frame) e in
    omega (arith, e, at)

-- one more map, whose frame follows
pub count_more : (ms : List WindowMap) (i : ℕ) (x y : WindowMap) → 1 ≤ i → i < length ms → x ≡ get_or ms (i - 1) x → y ≡ get_or ms i y → x.frame + 1 ≡ y.frame → CountUp ms i → CountUp ms (i + 1)
count_more ms i x y least lt last next follows h = λ k d l within. elim (cases_lt k i) [
  | inl less ↦ h k d less within
  | inr same ↦
      let at : k ≡ i = omega (arith, same, l) in
      let x_is : get_or ms (i - 1) d ≡ x = get_or_default ms (i - 1) d x (omega (arith, lt)) ∙ sym last in
      let y_is : get_or ms i d ≡ y = get_or_default ms i d y lt ∙ sym next in
      let before : (get_or ms (i - 1) d).frame ≡ (get_or ms 0 d).frame + (i - 1) = h (i - 1) d (omega (arith, least)) (omega (arith, lt)) in
      let x_frame : (get_or ms (i - 1) d).frame ≡ x.frame = ap (λ m. m.frame) x_is in
      let y_frame : (get_or ms i d).frame ≡ y.frame = ap (λ m. m.frame) y_is in
      let here : (get_or ms i d).frame ≡ (get_or ms 0 d).frame + i = omega (arith, before, x_frame, y_frame, follows, least) in
      subst (λ n. (get_or ms n d).frame ≡ (get_or ms 0 d).frame + n) (sym at) here
]

-- the frames of neighbours follow each other
pub follow : (ms : List WindowMap) (i : ℕ) (x y : WindowMap) → 1 ≤ i → i < length ms → x ≡ get_or ms (i - 1) x → y ≡ get_or ms i y → AreConsecutive (frame_after ms) ms → x.frame + 1 ≡ y.frame
follow [] i x y least lt last next h = absurd (omega (arith, lt))
follow (m ∷ ms) i x y least lt last next h =
    let one : (get_or (m ∷ ms) (i - 1) x).frame ≡ m.frame + (i - 1) = frame_at (frame_after (m ∷ ms)) m ms h (i - 1) x (omega (arith, lt)) in
    let two : (get_or (m ∷ ms) i y).frame ≡ m.frame + i = frame_at (frame_after (m ∷ ms)) m ms h i y lt in
    let x_frame : x.frame ≡ (get_or (m ∷ ms) (i - 1) x).frame = ap (λ m. m.frame) last in
    let y_frame : y.frame ≡ (get_or (m ∷ ms) i y).frame = ap (λ m. m.frame) next in
    omega (arith, one, two, x_frame, y_frame, least)

-- the maps before an index of a window lead to the frame at the index
pub leads_to : (ms : List WindowMap) (i : ℕ) (x : WindowMap) → i < length ms → x ≡ get_or ms i x → AreConsecutive (frame_after ms) ms → AreConsecutive x.frame (take i ms)
leads_to [] i x lt is h = absurd (omega (arith, lt))
leads_to (m ∷ ms) i x lt is h =
    let long : length (take i (m ∷ ms)) ≡ i = length-take-le i (m ∷ ms) (omega (arith, lt)) in
    let at : x.frame ≡ m.frame + i = ap (λ m. m.frame) is ∙ frame_at (frame_after (m ∷ ms)) m ms h i x lt in
    subst (λ n. AreConsecutive n (take i (m ∷ ms))) (ap (λ n. m.frame + n) long ∙ sym at)
    (counted_from m.frame (take i (m ∷ ms)) (λ k d l.
    ap (λ m. m.frame) (get_or-take i (m ∷ ms) k d (omega (arith, l, long))) ∙ frame_at (frame_after (m ∷ ms)) m ms h k d (omega (arith, l, long, lt))))

-- The accounts in ascending Alloc-ID.

-- the book has the Alloc-IDs of the accounts
pub book_ids : (i : ℕ) (accounts : List Account) → list_any (λ j. j == i) (alloc_ids (book_from accounts)) ≡ list_any (λ a. a.alloc_id == i) accounts
book_ids i [] = refl
book_ids i (a ∷ accounts) =
    list_any-map (λ j. j == i) (λ b. b.alloc_id) (with_account a (book_from accounts))
    ∙ list_any-inserted (λ b. b.alloc_id == i) (λ b. nat_lt b.alloc_id a.alloc_id) a (book_from accounts)
    ∙ ap (λ b. (a.alloc_id == i) || b) (sym (list_any-map (λ j. j == i) (λ b. b.alloc_id) (book_from accounts)) ∙ book_ids i accounts)

pub book_rises : (accounts : List Account) → AreApart accounts → AreRising (alloc_ids (book_from accounts))
book_rises [] h = tt
book_rises (a ∷ accounts) h = admitted_rise a (book_from accounts) (book_rises accounts h.1) (book_ids a.alloc_id accounts ∙ h.0)

pub apart_drop : (n : ℕ) (accounts : List Account) → AreApart accounts → AreApart (drop n accounts)
apart_drop zero accounts h = h
apart_drop (suc n) [] h = tt
apart_drop (suc n) (a ∷ accounts) h = apart_drop n accounts h.1

-- an Alloc-ID has an account exactly when the look-up finds one
pub account_any : (i : ℕ) (book : List Account) (o : Option Account) → account_of book i ≡ o → list_any (λ a. a.alloc_id == i) book ≡ is_some o
account_any i [] None e = refl
account_any i [] (Some a) e = absurd cc
account_any i (b ∷ book) o e = elim (cases_Bool (b.alloc_id == i)) [
  | inl t ↦ or_left (b.alloc_id == i) (list_any (λ a. a.alloc_id == i) book) t ∙ ap is_some (sym (ap (λ c. cond c (Some b) (account_of book i)) t) ∙ e)
  | inr f ↦ ap (λ c. c || list_any (λ a. a.alloc_id == i) book) f ∙ account_any i book o (sym (ap (λ c. cond c (Some b) (account_of book i)) f) ∙ e)
]

-- whether an account is of an Alloc-ID, by the book of the accounts
ids_any : (i : ℕ) (accounts : List Account) (o : Option Account) → account_of (book_from accounts) i ≡ o → list_any (λ a. a.alloc_id == i) accounts ≡ is_some o
ids_any i accounts o e =
    sym (book_ids i accounts) ∙ list_any-map (λ j. j == i) (λ b. b.alloc_id) (book_from accounts) ∙ account_any i (book_from accounts) o e

-- what a look-up by index says of the account
pub looked_up_none : (book : List Account) (i : ℕ) (q : Option ℕ) → is_some q ≡ false → MatchOption q (account_of book i ≡ None) (StandsAt book i) → account_of book i ≡ None
looked_up_none book i None e h = h
looked_up_none book i (Some k) e h = absurd cc

pub looked_up_some : (book : List Account) (i : ℕ) (q : Option ℕ) → is_some q ≡ true → MatchOption q (account_of book i ≡ None) (StandsAt book i) → (a : Account) × (account_of book i ≡ Some a)
looked_up_some book i None e h = absurd cc
looked_up_some book i (Some k) e h = there book h.within h.is
  where
    there : (xs : List Account) → k < length xs → slice_get xs k ≡ account_of book i → (a : Account) × (account_of book i ≡ Some a)
    there [] l is = absurd (omega (arith, l))
    there (x ∷ xs) l is = (get_or (x ∷ xs) k x, sym is ∙ slice_get-get_or (x ∷ xs) k x l)

module _ (accounts : List Account) (n : ℕ) (a : Account) (lt : n < length accounts) (is : a ≡ get_or accounts n a) where
  front : drop n accounts ≡ a ∷ drop (n + 1) accounts
  front = subst (λ k. drop n accounts ≡ a ∷ drop k accounts) (let e : suc n ≡ n + 1 = omega arith in e) (drop-cons accounts n a lt ∙ ap (λ b. b ∷ drop (suc n) accounts) (sym is))

  -- one more account, whose Alloc-ID has none
  pub apart_more : AreApart (drop (n + 1) accounts) → account_of (book_from (drop (n + 1) accounts)) a.alloc_id ≡ None → AreApart (drop n accounts)
  apart_more h none = subst AreApart (sym front) (ids_any a.alloc_id (drop (n + 1) accounts) None none, h)

  pub book_more : book_from (drop n accounts) ≡ with_account a (book_from (drop (n + 1) accounts))
  book_more = ap book_from front

  -- a second account of an Alloc-ID
  pub apart_not : (b : Account) → account_of (book_from (drop (n + 1) accounts)) a.alloc_id ≡ Some b → AreApart accounts → ⊥
  apart_not b some h =
      let two : AreApart (a ∷ drop (n + 1) accounts) = subst AreApart front (apart_drop n accounts h) in
      let t : true ≡ false = sym (ids_any a.alloc_id (drop (n + 1) accounts) (Some b) some) ∙ two.0 in
      cc
