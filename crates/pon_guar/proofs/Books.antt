-- The invariant of a report book after each call.
use Rattle.std.proofs.Common.{◌≡◌, ℕ, zero, suc, ◌+◌, ◌-◌, ◌<◌, ◌≤◌, true, false, not, List, [], ◌∷◌, ◌++◌, map, length, drop, get_or, refl, ap, sym, ◌∙◌, subst, arith, inl, inr}
use Rattle.std.specs.Prelude.{◌==◌, nat_le, nat_lt, if◌then◌else◌, filter, flat_map, sum_by, All, Option, Some, None}
use Rattle.std.specs.List.{list_any}
use Rattle.std.proofs.lemmas.Bool.{cases_order, eq-eqb, le-leb, lt-leb, ltb-false, ltb-true, not-true}
use Rattle.std.proofs.lemmas.List.{get_or-map, length-map, map-append}
use Rattle.std.proofs.lemmas.List.Elements.{All-filter, All-weaker, filter_passes}
use Rattle.std.proofs.lemmas.List.Sums.{sum_by-cons}
use Rattle.pon_units.specs.declared.granted.Granted.{Granted}
use Rattle.pon_lists.proofs.Lists.{flat_map-map, map_filter, map-map, none_any, sum_by-map, sum_by_agree}
use Rattle.pon_guar.specs.Book.{Account, AreRising, Counted, alloc_ids, with_alloc}
use Rattle.pon_guar.specs.Window.{IsPlaceOf, AreConsecutive, WindowMap, grants_at, words_to, words_to_from}
use Rattle.pon_guar.specs.ReportChecks.{with_report}
use Rattle.pon_guar.specs.Reports.{after_occupancies, counting}
use Rattle.pon_guar.specs.Loads.{afresh, with_account, without_account}
use Rattle.pon_lists.proofs.Order.{in_order-filter}
use Rattle.pon_lists.proofs.Inserted.{in_order-inserted, rejoined_at}
use Rattle.pon_guar.proofs.Frames.{frame_at, leads_above, polled_there}
use Rattle.pon_guar.proofs.TakenReports.{counting_ids}

-- One more Alloc-ID.

pub rising_with : (i : ℕ) (ids : List ℕ) → AreRising ids → list_any (λ j. j == i) ids ≡ false → AreRising (with_alloc i ids)
rising_with i ids h n =
    let upper : List ℕ = filter (λ j. not (nat_lt j i)) ids in
    let other : All (λ j. (j == i) ≡ false) upper = All-filter (λ j. not (nat_lt j i)) (λ j. (j == i) ≡ false) ids (none_any (λ j. j == i) ids n) in
    let not_below : All (λ j. not (nat_lt j i) ≡ true) upper = filter_passes (λ j. not (nat_lt j i)) ids in
    in_order-inserted (λ j. nat_lt j i) i ids (rejoined_at i (λ j. j) ids h) (λ j k. j < k) h
    (All-weaker (λ j. nat_lt j i ≡ true) (λ j. j < i) (λ j q. ltb-true j i q) (filter (λ j. nat_lt j i) ids) (filter_passes (λ j. nat_lt j i) ids))
    (λ k d l. above (get_or upper k d) (other k d l) (not_below k d l))
  where
    above : (j : ℕ) → (j == i) ≡ false → not (nat_lt j i) ≡ true → i < j
    above j d l =
        let least : i ≤ j = ltb-false j i (not-true (nat_lt j i) l) in
        elim (cases_order i j) [
          | inl e ↦ absurd (let t : true ≡ false = sym (eq-eqb j i (sym e)) ∙ d in cc)
          | inr e ↦ omega (arith, e, least)
        ]

pub with_ids : (a : Account) (book : List Account) → alloc_ids (with_account a book) ≡ with_alloc a.alloc_id (alloc_ids book)
with_ids a book =
    map-append (λ b. b.alloc_id) (filter (λ b. nat_lt b.alloc_id a.alloc_id) book) (a ∷ filter (λ b. not (nat_lt b.alloc_id a.alloc_id)) book)
    ∙ (λ j. sym (map_filter (λ b. b.alloc_id) (λ i. nat_lt i a.alloc_id) book) j ++ a.alloc_id ∷ sym (map_filter (λ b. b.alloc_id) (λ i. not (nat_lt i a.alloc_id)) book) j)

-- counting occupancies leaves the Alloc-IDs unchanged
pub occupancies_ids : (granted : ℕ → ℕ) (frame : ℕ) (gs : List Granted) (ns : List (Option ℕ)) (book : List Account) → alloc_ids (after_occupancies granted frame gs ns book) ≡ alloc_ids book
occupancies_ids granted frame [] ns book = refl
occupancies_ids granted frame (g ∷ gs) [] book = refl
occupancies_ids granted frame (g ∷ gs) (None ∷ ns) book = occupancies_ids granted frame gs ns book
occupancies_ids granted frame (g ∷ gs) (Some n ∷ ns) book =
    let c : Counted = record { frame = frame; words = n - granted g.alloc_id } in
    occupancies_ids granted frame gs ns (counting g.alloc_id c book) ∙ counting_ids g.alloc_id c book

pub occupancies_length : (granted : ℕ → ℕ) (frame : ℕ) (gs : List Granted) (ns : List (Option ℕ)) (book : List Account) → length (after_occupancies granted frame gs ns book) ≡ length book
occupancies_length granted frame gs ns book =
    sym (length-map (after_occupancies granted frame gs ns book) (λ a. a.alloc_id)) ∙ ap length (occupancies_ids granted frame gs ns book) ∙ length-map book (λ a. a.alloc_id)

-- The book after each call.

pub admitted_rise : (a : Account) (accounts : List Account) → AreRising (alloc_ids accounts) → list_any (λ j. j == a.alloc_id) (alloc_ids accounts) ≡ false → AreRising (alloc_ids (with_account a accounts))
admitted_rise a accounts h free = subst AreRising (sym (with_ids a accounts)) (rising_with a.alloc_id (alloc_ids accounts) h free)

pub removed_rise : (i : ℕ) (accounts : List Account) → AreRising (alloc_ids accounts) → AreRising (alloc_ids (without_account i accounts))
removed_rise i accounts h = subst AreRising (map_filter (λ a. a.alloc_id) (λ j. not (j == i)) accounts) (in_order-filter (λ i j. i < j) (λ j. not (j == i)) (alloc_ids accounts) h)

pub cleared_rise : (frame : ℕ) (accounts : List Account) → AreRising (alloc_ids accounts) → AreRising (alloc_ids (map (afresh frame) accounts))
cleared_rise frame accounts h = subst AreRising (sym (map-map (λ a. a.alloc_id) (afresh frame) accounts)) h

pub reported_rise : (granted : ℕ → ℕ) (f : ℕ) (gs : List Granted) (ns : List (Option ℕ)) (accounts : List Account) → AreRising (alloc_ids accounts) → AreRising (alloc_ids (after_occupancies granted f gs ns accounts))
reported_rise granted f gs ns accounts h = subst AreRising (sym (occupancies_ids granted f gs ns accounts)) h

-- Words granted from an index of the window on.

pub words_at : (n u i f : ℕ) (ms : List WindowMap) → AreConsecutive n ms → (k : ℕ) (d : WindowMap) → k < length ms → (get_or ms k d).frame ≡ f → sum_by (words_to u i) (drop k ms) ≡ words_to_from u i f ms
words_at n u i f [] h k d l e = absurd (omega (arith, l))
words_at n u i f (m ∷ ms) h zero d l e =
    sum_by_agree (words_to u i) (λ m. if nat_le f m.frame then words_to u i m else 0) (m ∷ ms)
    (All-weaker (λ q. n ≤ q.frame + length (m ∷ ms)) (λ q. words_to u i q ≡ (if nat_le f q.frame then words_to u i q else 0))
    (λ q z. ap (λ b. if b then words_to u i q else 0) (sym (le-leb f q.frame (omega (arith, e, z, h.0))))) (m ∷ ms) (leads_above n (m ∷ ms) h))
words_at n u i f (m ∷ ms) h (suc k) d l e =
    let far : (get_or (m ∷ ms) (suc k) d).frame ≡ m.frame + suc k = frame_at n m ms h (suc k) d l in
    let none : (if nat_le f m.frame then words_to u i m else 0) ≡ 0 = ap (λ b. if b then words_to u i m else 0) (lt-leb f m.frame (omega (arith, e, far))) in
    let all : words_to_from u i f (m ∷ ms) ≡ (if nat_le f m.frame then words_to u i m else 0) + words_to_from u i f ms = sum_by-cons (λ m. if nat_le f m.frame then words_to u i m else 0) m ms in
    words_at n u i f ms h.1 k d (omega (arith, l)) e ∙ (let same : words_to_from u i f ms ≡ words_to_from u i f (m ∷ ms) = omega (arith, all, none) in same)

-- the occupancies count the same by the maps from an index on as by the whole window
pub counted_in_window : (n f u : ℕ) (ms : List WindowMap) → AreConsecutive n ms → (k : ℕ) → IsPlaceOf f ms k → (d m : WindowMap) (maps : List WindowMap) → m ≡ get_or ms k d → maps ≡ drop k ms → (ns : List (Option ℕ)) (book : List Account) →
    after_occupancies (λ i. sum_by (words_to u i) maps) m.frame (filter (λ g. g.onu == u) m.grants) ns book ≡ after_occupancies (λ i. words_to_from u i f ms) f (grants_at f u ms) ns book
counted_in_window n f u ms h k place d m maps there later ns book =
    (λ j. after_occupancies (λ i. sum_by (words_to u i) (later j)) (there j).frame (filter (λ g. g.onu == u) (there j).grants) ns book)
    ∙ (λ j. after_occupancies (λ i. words_at n u i f ms h k d place.within (place.is d) j) (place.is d j) (sym (polled_there n f u ms h k place d) j) ns book)

-- noting that an ONU reported changes neither the words granted nor the grants polled
pub noted_same : (f u v : ℕ) (ms : List WindowMap) (ns : List (Option ℕ)) (book : List Account) →
    after_occupancies (λ i. words_to_from u i f (map (with_report f v) ms)) f (grants_at f u (map (with_report f v) ms)) ns book ≡ after_occupancies (λ i. words_to_from u i f ms) f (grants_at f u ms) ns book
noted_same f u v ms ns book = (λ j. after_occupancies (λ i. sum_by-map (λ m. if nat_le f m.frame then words_to u i m else 0) (with_report f v) ms j) f (same j) ns book)
  where
    same : grants_at f u (map (with_report f v) ms) ≡ grants_at f u ms
    same = ap (λ t. filter (λ g. g.onu == u) t)
        (ap (λ t. flat_map (λ m. m.grants) t) (map_filter (with_report f v) (λ m. m.frame == f) ms) ∙ flat_map-map (λ m. m.grants) (with_report f v) (filter (λ m. m.frame == f) ms))

-- noting that an ONU reported moves no map
pub noted_place : (f u : ℕ) (ms : List WindowMap) (k : ℕ) → IsPlaceOf f ms k → IsPlaceOf f (map (with_report f u) ms) k
noted_place f u ms k place = record {
  within = let same : length (map (with_report f u) ms) ≡ length ms = length-map ms (with_report f u) in let there : k < length ms = place.within in omega (arith, same, there);
  is = λ d. ap (λ m. m.frame) (get_or-map (with_report f u) ms k d d place.within) ∙ place.is d;
}

-- counting the occupancies after the note gives the same accounts as counting them before it
pub counted_after : (f u : ℕ) (ms noted : List WindowMap) (ns : List (Option ℕ)) (at book new : List Account) → noted ≡ map (with_report f u) ms → at ≡ book →
    new ≡ after_occupancies (λ i. words_to_from u i f noted) f (grants_at f u noted) ns at → new ≡ after_occupancies (λ i. words_to_from u i f ms) f (grants_at f u ms) ns book
counted_after f u ms noted ns at book new e q h =
    h ∙ (λ j. after_occupancies (λ i. words_to_from u i f (e j)) f (grants_at f u (e j)) ns (q j)) ∙ noted_same f u u ms ns book
