-- The frames of a window, which are consecutive.
use Rattle.std.proofs.Common.{◌≡◌, ℕ, zero, suc, ◌+◌, ◌<◌, ◌≤◌, ◌||◌, ◌&&◌, Bool, true, false, cond, not, List, [], ◌∷◌, ◌++◌, map, length, drop, get_or, refl, ap, sym, subst, ◌∙◌, arith, ◌-◌, inl, inr}
use Rattle.std.specs.Prelude.{◌==◌, ◌≢◌, slice_get, filter, flat_map, All, Option, Some, None, Any, nat_le, if◌then◌else◌}
use Rattle.std.specs.List.{list_any}
use Rattle.std.proofs.lemmas.Bool.{eq-eqb, ne_eqb, not-false, eqb-true, lt-leb}
use Rattle.std.proofs.lemmas.List.{append-nil, length-map, length_push, drop_all, length-drop}
use Rattle.std.proofs.lemmas.List.Elements.{All-nil, All-cons, All-head, All-tail, All-weaker, All-filter, filter_passes}
use Rattle.std.proofs.lemmas.Option.{same_Some}
use Rattle.std.proofs.lemmas.List.Folds.{list_any_none, list_any_at, Any-from_list_any}
use Rattle.pon_descr.specs.Checks.{first_refusal_of, when}
use Rattle.pon_descr.proofs.Checks.{AreNone, none_refuses, when_none}
use Rattle.pon_descr.specs.declared.refusal.Refusal.{Refusal}
use Rattle.pon_descr.specs.declared.refusal.Refusal.TheVariants.{StaleFrame, NotPolled, ReportCount, AlreadyReported}
use Rattle.pon_lists.proofs.Lists.{or-false, All-flat_map}
use Rattle.pon_guar.specs.ReportChecks.{refuses_report}
use Rattle.pon_guar.specs.Window.{Granted, IsPlaceOf, AreConsecutive, WindowMap, frame_after, grants_at, is_of, words_from, words_in}
use Rattle.std.proofs.lemmas.Bool.Decides.{leb_tells}
use Rattle.std.proofs.lemmas.List.Sums.{sum_by-cons}

pub leads_below : (n : ℕ) (ms : List WindowMap) → AreConsecutive n ms → All (λ m. m.frame < n) ms
leads_below n [] h = All-nil (λ m. m.frame < n)
leads_below n (m ∷ ms) h = All-cons (λ m. m.frame < n) m ms (omega (arith, h.0)) (leads_below n ms h.1)

pub leads_above : (n : ℕ) (ms : List WindowMap) → AreConsecutive n ms → All (λ m. n ≤ m.frame + length ms) ms
leads_above n [] h = All-nil (λ m. n ≤ m.frame + 0)
leads_above n (m ∷ ms) h = All-cons (λ q. n ≤ q.frame + length (m ∷ ms)) m ms (omega (arith, h.0))
    (All-weaker (λ q. n ≤ q.frame + length ms) (λ q. n ≤ q.frame + length (m ∷ ms)) (λ q l. omega (arith, l)) ms (leads_above n ms h.1))

no_frame : (f : ℕ) (ms : List WindowMap) → All (λ m. (m.frame == f) ≡ false) ms → filter (λ m. m.frame == f) ms ≡ []
no_frame f [] h = refl
no_frame f (m ∷ ms) h = (λ i. cond (All-head (λ m. (m.frame == f) ≡ false) m ms h i) (m ∷ filter (λ m. m.frame == f) ms) (filter (λ m. m.frame == f) ms)) ∙ no_frame f ms (All-tail (λ m. (m.frame == f) ≡ false) m ms h)

-- at most one map is of a frame
pub one_of_frame : (n f : ℕ) (ms : List WindowMap) → AreConsecutive n ms → All (λ m. m.frame ≡ f → filter (λ m. m.frame == f) ms ≡ m ∷ []) ms
one_of_frame n f [] h = All-nil (λ m. m.frame ≡ f → filter (λ m. m.frame == f) [] ≡ m ∷ [])
one_of_frame n f (x ∷ ms) h = All-cons (λ m. m.frame ≡ f → filter (λ m. m.frame == f) (x ∷ ms) ≡ m ∷ []) x ms
    (λ e. ap (λ b. cond b (x ∷ filter (λ m. m.frame == f) ms) (filter (λ m. m.frame == f) ms)) (eq-eqb x.frame f e)
    ∙ ap (λ t. x ∷ t) (no_frame f ms (All-weaker (λ m. n ≤ m.frame + length ms) (λ m. (m.frame == f) ≡ false) (λ m l. ne_eqb m.frame f (λ q. omega (arith, l, q, e, h.0))) ms (leads_above n ms h.1))))
    (λ k d l. past (get_or ms k d) (leads_above n ms h.1 k d l) (one_of_frame n f ms h.1 k d l))
  where
    past : (m : WindowMap) → n ≤ m.frame + length ms → (m.frame ≡ f → filter (λ m. m.frame == f) ms ≡ m ∷ []) → m.frame ≡ f → filter (λ m. m.frame == f) (x ∷ ms) ≡ m ∷ []
    past m l k e = ap (λ b. cond b (x ∷ filter (λ m. m.frame == f) ms) (filter (λ m. m.frame == f) ms)) (ne_eqb x.frame f (λ q. omega (arith, l, q, e, h.0))) ∙ k e

-- the grants of a frame that exactly one map is of
pub grants_of_one : (f u : ℕ) (ms : List WindowMap) (m : WindowMap) → filter (λ m. m.frame == f) ms ≡ m ∷ [] → grants_at f u ms ≡ filter (λ g. g.onu == u) m.grants
grants_of_one f u ms m h = ap (λ ms. filter (λ g. g.onu == u) (flat_map (λ m. m.grants) ms)) h ∙ ap (filter (λ g. g.onu == u)) (append-nil m.grants)

-- The index of a map is the distance of its frame from the first.

pub frame_at : (n : ℕ) (m : WindowMap) (ms : List WindowMap) → AreConsecutive n (m ∷ ms) → (k : ℕ) (d : WindowMap) → k < length (m ∷ ms) → (get_or (m ∷ ms) k d).frame ≡ m.frame + k
frame_at n m ms h zero d l = omega arith
frame_at n m [] h (suc k) d l = absurd (omega (arith, l))
frame_at n m (q ∷ ms) h (suc k) d l =
    let rest : (get_or (q ∷ ms) k d).frame ≡ q.frame + k = frame_at n q ms h.1 k d (omega (arith, l)) in
    omega (arith, rest, h.0, h.1.0)

module _ (n f : ℕ) (ms : List WindowMap) (m : WindowMap) (h : AreConsecutive n ms) (first : slice_get ms 0 ≡ Some m) where
  pub place_found : (k : ℕ) → m.frame + k ≡ f → k < length ms → IsPlaceOf f ms k
  place_found k e l = go ms h first l
    where
      go : (xs : List WindowMap) → AreConsecutive n xs → slice_get xs 0 ≡ Some m → k < length xs → IsPlaceOf f xs k
      go [] h first l = absurd cc
      go (x ∷ xs) h first l = record {
        within = l;
        is = λ d. frame_at n x xs h k d l ∙ ap (λ x. x.frame + k) (same_Some x m first) ∙ e;
      }

  length_is : m.frame + length ms ≡ n
  length_is = go ms h first
    where
      go : (xs : List WindowMap) → AreConsecutive n xs → slice_get xs 0 ≡ Some m → m.frame + length xs ≡ n
      go [] h first = absurd cc
      go (x ∷ xs) h first = ap (λ q. q.frame + length (x ∷ xs)) (sym (same_Some x m first)) ∙ h.0

  pub no_place_before : f < m.frame → list_any (is_of f) ms ≡ false
  no_place_before l = list_any_none (is_of f) ms
      (All-weaker (λ q. n ≤ q.frame + length ms) (λ q. (q.frame == f) ≡ false) (λ q k. ne_eqb q.frame f (λ e. omega (arith, e, l, k, length_is))) ms (leads_above n ms h))

  pub no_place_after : m.frame + length ms ≤ f → list_any (is_of f) ms ≡ false
  no_place_after l = list_any_none (is_of f) ms
      (All-weaker (λ q. q.frame < n) (λ q. (q.frame == f) ≡ false) (λ q k. ne_eqb q.frame f (λ e. omega (arith, e, l, k, length_is))) ms (leads_below n ms h))

-- The checks of a report, by the map of its frame.

any_filtered : {X : Type 0} (p q : X → Bool) (xs : List X) → list_any (λ x. p x && q x) xs ≡ list_any q (filter p xs)
any_filtered p q [] = refl
any_filtered p q (x ∷ xs) = elim (p x) as (λ b. ((b && q x) || list_any (λ x. p x && q x) xs) ≡ list_any q (cond b (x ∷ filter p xs) (filter p xs))) [
  | true ↦ ap (λ b. q x || b) (any_filtered p q xs)
  | false ↦ any_filtered p q xs
]

module _ (n f u : ℕ) (ms : List WindowMap) (h : AreConsecutive n ms) (k : ℕ) (place : IsPlaceOf f ms k) (d : WindowMap) where
  pub map_alone : filter (λ m. m.frame == f) ms ≡ get_or ms k d ∷ []
  map_alone = one_of_frame n f ms h k d place.within (place.is d)

  pub polled_there : grants_at f u ms ≡ filter (λ g. g.onu == u) (get_or ms k d).grants
  polled_there = grants_of_one f u ms (get_or ms k d) map_alone

  pub report_checks : (count : ℕ) → refuses_report ms f u count ≡ first_refusal_of (
      when (length (filter (λ g. g.onu == u) (get_or ms k d).grants) == 0) NotPolled
      ∷ when (not (count == length (filter (λ g. g.onu == u) (get_or ms k d).grants))) ReportCount
      ∷ when (list_any (λ v. v == u) (get_or ms k d).reported) AlreadyReported
      ∷ [])
  report_checks count =
      let found : list_any (is_of f) ms ≡ true = list_any_at (is_of f) ms k d place.within (eq-eqb (get_or ms k d).frame f (place.is d)) in
      let said : list_any (λ m. is_of f m && list_any (λ v. v == u) m.reported) ms ≡ list_any (λ v. v == u) (get_or ms k d).reported
      = any_filtered (is_of f) (λ m. list_any (λ v. v == u) m.reported) ms ∙ ap (list_any (λ m. list_any (λ v. v == u) m.reported)) map_alone ∙ or-false (list_any (λ v. v == u) (get_or ms k d).reported) in
      (λ j. first_refusal_of (
      when (not (found j)) StaleFrame
      ∷ when (length (polled_there j) == 0) NotPolled
      ∷ when (not (count == length (polled_there j))) ReportCount
      ∷ when (said j) AlreadyReported
      ∷ []))

-- The checks of a report, by the map at the index and its grants to the ONU.
module _ (n f u count : ℕ) (ms : List WindowMap) (h : AreConsecutive n ms) (k : ℕ) (place : IsPlaceOf f ms k) (m : WindowMap) (there : m ≡ get_or ms k m) (own : List Granted) (series : own ≡ filter (λ g. g.onu == u) m.grants) where
  abbrev checks_left : Bool → Bool → Bool → Option Refusal
  checks_left none other again = first_refusal_of (when none NotPolled ∷ when (not other) ReportCount ∷ when again AlreadyReported ∷ [])

  checks_are : refuses_report ms f u count ≡ checks_left (length own == 0) (count == length own) (list_any (λ v. v == u) m.reported)
  checks_are = report_checks n f u ms h k place m count
      ∙ ap (λ q. checks_left (length (filter (λ g. g.onu == u) q.grants) == 0) (count == length (filter (λ g. g.onu == u) q.grants)) (list_any (λ v. v == u) q.reported)) (sym there)
      ∙ ap (λ gs. checks_left (length gs == 0) (count == length gs) (list_any (λ v. v == u) m.reported)) (sym series)

  pub tells_not_polled : length own ≡ 0 → Some NotPolled ≡ refuses_report ms f u count
  tells_not_polled e = sym (checks_are ∙ ap (λ b. checks_left b (count == length own) (list_any (λ v. v == u) m.reported)) (eq-eqb (length own) 0 e))

  module _ (some : length own ≢ 0) where
    pub tells_count : count ≢ length own → Some ReportCount ≡ refuses_report ms f u count
    tells_count e = sym (checks_are ∙ (λ j. checks_left (ne_eqb (length own) 0 some j) (ne_eqb count (length own) e j) (list_any (λ v. v == u) m.reported)))

    pub tells_reported : count ≡ length own → (b : Bool) → b ≡ list_any (λ v. v == u) m.reported → when b AlreadyReported ≡ refuses_report ms f u count
    tells_reported e b s = sym (checks_are ∙ (λ j. checks_left (ne_eqb (length own) 0 some j) (eq-eqb count (length own) e j) (sym s j)) ∙ last b)
      where
        last : (b : Bool) → checks_left false true b ≡ when b AlreadyReported
        last true = refl
        last false = refl

-- Windows with one more map, without their oldest maps, or with other reports.

pub leads_push : (f : ℕ) (ms : List WindowMap) (m : WindowMap) → AreConsecutive f ms → m.frame ≡ f → AreConsecutive (f + 1) (ms ++ m ∷ [])
leads_push f [] m h e = (omega (arith, e), tt)
leads_push f (x ∷ ms) m h e = (omega (arith, h.0, length_push ms m), leads_push f ms m h.1 e)

pub leads_drop : (n k : ℕ) (ms : List WindowMap) → AreConsecutive n ms → AreConsecutive n (drop k ms)
leads_drop n zero ms h = h
leads_drop n (suc k) [] h = tt
leads_drop n (suc k) (m ∷ ms) h = leads_drop n k ms h.1

pub leads_after : (n : ℕ) (ms : List WindowMap) → AreConsecutive n ms → AreConsecutive (frame_after ms) ms
leads_after n [] h = tt
leads_after n (m ∷ ms) h = subst (λ n. AreConsecutive n (m ∷ ms)) (sym h.0) h

pub leads_mapped : (f : WindowMap → WindowMap) → ((m : WindowMap) → (f m).frame ≡ m.frame) → (n : ℕ) (ms : List WindowMap) → AreConsecutive n ms → AreConsecutive n (map f ms)
leads_mapped f same n [] h = tt
leads_mapped f same n (m ∷ ms) h = (omega (arith, h.0, same m, length-map ms f), leads_mapped f same n ms h.1)

-- Facts that follow from an accepted report.
module _ (f u count : ℕ) (ms : List WindowMap) (accepted : refuses_report ms f u count ≡ None) where
  abbrev checks : List (Option Refusal)
  checks = when (not (list_any (is_of f) ms)) StaleFrame
      ∷ when (length (grants_at f u ms) == 0) NotPolled
      ∷ when (not (count == length (grants_at f u ms))) ReportCount
      ∷ when (list_any (λ m. is_of f m && list_any (λ v. v == u) m.reported) ms) AlreadyReported
      ∷ []

  passed : AreNone checks
  passed = none_refuses checks accepted

  pub frame_there : list_any (is_of f) ms ≡ true
  frame_there = not-false (list_any (is_of f) ms) (when_none (not (list_any (is_of f) ms)) StaleFrame passed.0)

  module _ (n : ℕ) (h : AreConsecutive n ms) (k : ℕ) (place : IsPlaceOf f ms k) (d : WindowMap) where
    pub polled_some : (length (filter (λ g. g.onu == u) (get_or ms k d).grants) == 0) ≡ false
    polled_some = ap (λ gs. length gs == 0) (sym (polled_there n f u ms h k place d)) ∙ when_none (length (grants_at f u ms) == 0) NotPolled passed.1.0

    pub not_yet_reported : list_any (λ v. v == u) (get_or ms k d).reported ≡ false
    not_yet_reported =
        sym (any_filtered (is_of f) (λ m. list_any (λ v. v == u) m.reported) ms ∙ ap (list_any (λ m. list_any (λ v. v == u) m.reported)) (map_alone n f u ms h k place d)
        ∙ or-false (list_any (λ v. v == u) (get_or ms k d).reported))
        ∙ when_none (list_any (λ m. is_of f m && list_any (λ v. v == u) m.reported) ms) AlreadyReported passed.1.1.1.0

-- what holds of all grants of the maps of a frame holds of those to an ONU
pub grants_at_all : (P : Granted → Type 0) (f u : ℕ) (ms : List WindowMap) → All (λ m. m.frame ≡ f → All P m.grants) ms → All (λ g. P g × (g.onu ≡ u)) (grants_at f u ms)
grants_at_all P f u ms h =
    let of_frame : List WindowMap = filter (λ m. m.frame == f) ms in
    let all : List Granted = flat_map (λ m. m.grants) of_frame in
    let each : All P all
    = All-flat_map P (λ m. m.grants) of_frame (λ n d k. All-filter (λ m. m.frame == f) (λ m. m.frame ≡ f → All P m.grants) ms h n d k (eqb-true (get_or of_frame n d).frame f (filter_passes (λ m. m.frame == f) ms n d k))) in
    (λ n d k. (All-filter (λ g. g.onu == u) P all each n d k, eqb-true (get_or (grants_at f u ms) n d).onu u (filter_passes (λ g. g.onu == u) all n d k)))

-- a report that is accepted is of a frame of the window
pub frame_within : (n f : ℕ) (ms : List WindowMap) → AreConsecutive n ms → list_any (is_of f) ms ≡ true → (f < n) × (n ≤ f + length ms)
frame_within n f ms h there =
    let found : Any (λ m. is_of f m ≡ true) ms = Any-from_list_any (is_of f) ms there in
    let is : (get_or ms found.0 found.1).frame ≡ f = ap (λ m. m.frame) found.3 ∙ eqb-true found.1.frame f found.4 in
    (omega (arith, is, leads_below n ms h found.0 found.1 found.2), omega (arith, is, leads_above n ms h found.0 found.1 found.2))

-- the maps of consecutive frames from a frame on are the last of them
pub from_is_end : (n c : ℕ) (ms : List WindowMap) → AreConsecutive n ms → filter (λ m. nat_le c m.frame) ms ≡ drop (c + length ms - n) ms
from_is_end n c [] h = sym (drop_all (c + 0 - n) [] (omega arith))
from_is_end n c (m ∷ ms) h = elim (leb_tells c m.frame) [
  | inl e ↦
      let none : (c + length ms - n ≡ 0) × (c + suc (length ms) - n ≡ 0) = (omega (arith, h.0, e.1), omega (arith, h.0, e.1)) in
      rw (e.0, from_is_end n c ms h.1, none.0, none.1) refl
  | inr e ↦ (let more : c + suc (length ms) - n ≡ suc (c + length ms - n) = omega (arith, h.0, e.1) in rw (e.0, from_is_end n c ms h.1, more) refl)
]

-- Two lists of maps grant the same from a frame on, and have the same grants of it.
abbrev pub GrantSame : ℕ → List WindowMap → List WindowMap → Type 0
GrantSame f ms ns = ((i : ℕ) → words_from i f ms ≡ words_from i f ns) × ((u : ℕ) → grants_at f u ms ≡ grants_at f u ns)

-- maps before a frame make no difference
pub last_grant_same : (n f k : ℕ) (ms : List WindowMap) → AreConsecutive n ms → n ≤ f + length (drop k ms) → GrantSame f (drop k ms) ms
last_grant_same n f zero ms h l = (λ i. refl, λ u. refl)
last_grant_same n f (suc k) [] h l = (λ i. refl, λ u. refl)
last_grant_same n f (suc k) (m ∷ ms) h l =
    let early : m.frame < f = omega (arith, h.0, l, length-drop k ms) in
    let rest : GrantSame f (drop k ms) ms = last_grant_same n f k ms h.1 l in (
      λ i. rest.0 i ∙ sym (sum_by-cons (λ m. if nat_le f m.frame then words_in i m else 0) m ms ∙ rw (lt-leb f m.frame early) (omega arith)),
      λ u. rest.1 u ∙ sym (rw (ne_eqb m.frame f (λ q. omega (arith, q, early))) refl),
    )
