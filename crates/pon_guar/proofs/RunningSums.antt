-- Running sums beside the window.
use Rattle.std.proofs.Common.{◌≡◌, ℕ, zero, suc, ◌+◌, ◌-◌, ◌*◌, ◌%◌, ◌^◌, ◌<◌, ◌≤◌, ◌&&◌, Bool, true, false, not, cond, List, [], ◌∷◌, ◌++◌, map, drop, length, get_or, take, refl, ap, sym, ◌∙◌, subst, arith, inl, inr}
use Rattle.std.specs.Prelude.{◌==◌, if◌then◌else◌, slice_get, nat_lt, filter, find, position, sum_by, All, Option, Some, None, option_map}
use Rattle.std.specs.List.{position_or_len}
use Rattle.std.specs.Option.{option_or}
use Rattle.std.proofs.Math.Nat.{add-mod_left, mod-add-mod, mod-eq_of_lt}
use Rattle.std.proofs.lemmas.Bool.{and_left, and_parts, and_right, eqb-true, le-ltb, lt-ltb, ne_eqb}
use Rattle.std.proofs.lemmas.Bool.Decides.{eqb_tells}
use Rattle.std.proofs.lemmas.List.Elements.{All-head, All-tail}
use Rattle.std.proofs.lemmas.List.Quantifiers.{position-Some}
use Rattle.std.proofs.lemmas.List.Sums.{position_or_len_is, sum_by_push, sum_by-cons}
use Rattle.std.proofs.lemmas.Option.{same_Some}
use Rattle.pon_units.specs.Granted.{AreInMapOrder, ComesBefore}
use Rattle.std.proofs.lemmas.List.{get_or-drop, get_or-take, length-drop, length-map, length-take, length_push, map-append}
use Rattle.pon_guar.specs.declared.window.TheConstants.{MAX_MAPS}
use Rattle.pon_units.specs.declared.limits.TheConstants.{FRAME_WORDS}
use Rattle.pon_lists.proofs.Lists.{position-None_or_len, position-Some_or_len, sum_by-map}
use Rattle.pon_guar.specs.Window.{Granted, WindowMap, last_64, words_granted, words_to}
use Rattle.pon_guar.specs.Window.{with_map}
use Rattle.pon_guar.specs.ReportChecks.{with_report}
use Rattle.pon_guar.specs.Sums.{AreSummed, AreSumsOf, is_to, or_zero, sum_before, sum_after, sum_now, sums_beside}
use Rattle.pon_guar.proofs.Series.{words_found}
use Rattle.pon_lists.proofs.Order.{in_order_at}

-- The index of a grant.

-- a grant to an Alloc-ID under an ONU is the first such grant of its map
pub stands_at : (u i : ℕ) (gs : List Granted) → AreInMapOrder gs → (k : ℕ) (d : Granted) → k < length gs → is_to u i (get_or gs k d) ≡ true → Some k ≡ position (is_to u i) gs
stands_at u i gs h k d l t =
    let e : position_or_len (is_to u i) gs ≡ k = position_or_len_is (is_to u i) gs k d (omega (arith, l)) (λ j q. other (get_or gs j d) (in_order_at ComesBefore gs h j k d q l)) (λ q. t) in
    sym (ap (λ n. cond (nat_lt n (length gs)) (Some n) None) e ∙ ap (λ b. cond b (Some k) None) (lt-ltb k (length gs) l))
  where
    both : (((get_or gs k d).onu == u) ≡ true) × (((get_or gs k d).alloc_id == i) ≡ true)
    both = and_parts ((get_or gs k d).onu == u) ((get_or gs k d).alloc_id == i) t

    other : (g : Granted) → ComesBefore g (get_or gs k d) → is_to u i g ≡ false
    other g b = elim (eqb_tells g.onu u) [
      | inl e ↦ and_right (g.onu == u) (g.alloc_id == i)
          (ne_eqb g.alloc_id i (λ q. omega (arith, q, eqb-true (get_or gs k d).alloc_id i both.1, b.1 (e.1 ∙ sym (eqb-true (get_or gs k d).onu u both.0)))))
      | inr e ↦ and_left (g.onu == u) (g.alloc_id == i) e.0
    ]

-- the index of a grant in the map is its index among the grants of its ONU plus the index of the first of them
pub stands_from : (u i : ℕ) (gs own : List Granted) (first k : ℕ) (r : Option ℕ) → AreInMapOrder gs → own ≡ take (length own) (drop first gs) → r ≡ position (is_to u i) own → r ≡ Some k → Some (first + k) ≡ position (is_to u i) gs
stands_from u i gs [] first k r h placed is e = absurd (cc)
stands_from u i gs (g ∷ own) first k r h placed is e =
    let at = position-Some (is_to u i) (g ∷ own) k g (sym is ∙ e) in
    let len : length (g ∷ own) ≤ length (drop first gs) = omega (arith, ap (λ t. length t) placed ∙ length-take (length (g ∷ own)) (drop first gs)) in
    let same : get_or (g ∷ own) k g ≡ get_or gs (first + k) g = ap (λ t. get_or t k g) placed ∙ get_or-take (length (g ∷ own)) (drop first gs) k g at.0 ∙ get_or-drop first gs k g in
    stands_at u i gs h (first + k) g (omega (arith, at.0, len, length-drop first gs)) (ap (is_to u i) (sym same) ∙ at.1)

-- if the grants of an ONU have none to an Alloc-ID, the map has none to it under the ONU
pub none_from : (u i : ℕ) (gs own : List Granted) (r : Option ℕ) → own ≡ filter (λ g. g.onu == u) gs → r ≡ position (is_to u i) own → r ≡ None → None ≡ position (is_to u i) gs
none_from u i gs own r e is none =
    let all : length gs ≡ position_or_len (is_to u i) gs = none_in gs (ap (λ t. length t) (sym e) ∙ position-None_or_len (is_to u i) own r is none ∙ ap (λ t. position_or_len (is_to u i) t) e) in
    sym (ap (λ b. cond b (Some (position_or_len (is_to u i) gs)) None) (le-ltb (position_or_len (is_to u i) gs) (length gs) (omega (arith, all))))
  where
    none_in : (gs : List Granted) → length (filter (λ g. g.onu == u) gs) ≡ position_or_len (is_to u i) (filter (λ g. g.onu == u) gs) → length gs ≡ position_or_len (is_to u i) gs
    none_in [] e = refl
    none_in (g ∷ gs) e = step (g.onu == u) (g.alloc_id == i) refl refl (none_in gs)
      where
        rest : List Granted
        rest = filter (λ g. g.onu == u) gs

        len : List Granted → ℕ
        len = position_or_len (is_to u i)

        own_len : (b a : Bool) → (g.onu == u) ≡ b → (g.alloc_id == i) ≡ a → (ts : List Granted) → len (g ∷ ts) ≡ cond (not (b && a)) (1 + len ts) 0
        own_len b a p q ts = λ j. cond (not (p j && q j)) (1 + len ts) 0

        split : (b : Bool) → (g.onu == u) ≡ b → length (cond b (g ∷ rest) rest) ≡ len (cond b (g ∷ rest) rest)
        split b p = ap (λ b. length (cond b (g ∷ rest) rest)) (sym p) ∙ e ∙ ap (λ b. len (cond b (g ∷ rest) rest)) p

        step : (b a : Bool) → (g.onu == u) ≡ b → (g.alloc_id == i) ≡ a → (length rest ≡ len rest → length gs ≡ len gs) → length (g ∷ gs) ≡ len (g ∷ gs)
        step true true p q more = absurd (omega (arith, split true p ∙ own_len true true p q rest))
        step true false p q more = omega (arith, more (omega (arith, split true p ∙ own_len true false p q rest)), own_len true false p q gs)
        step false a p q more = omega (arith, more (split false p), own_len false a p q gs)

one_on : (ns : List ℕ) (n k : ℕ) → slice_get ns k ≡ slice_get (n ∷ ns) (1 + k)
one_on ns n k = ap (slice_get (n ∷ ns)) (let e : suc k ≡ 1 + k = omega arith in e)

module _ (u i : ℕ) where
  at_len : (gs : List Granted) (ns : List ℕ) → position_or_len (is_to u i) gs < length gs → sum_before u i gs ns ≡ slice_get ns (position_or_len (is_to u i) gs)
  at_len [] ns l = absurd (omega (arith, l))
  at_len (g ∷ gs) [] l = refl
  at_len (g ∷ gs) (n ∷ ns) l = (elim (is_to u i g) as (λ b. cond (not b) (1 + position_or_len (is_to u i) gs) 0 < suc (length gs) → (if b then Some n else sum_before u i gs ns) ≡ slice_get (n ∷ ns) (cond (not b) (1 + position_or_len (is_to u i) gs) 0)) [
    | true ↦ λ l. refl
    | false ↦ λ l. at_len gs ns (omega (arith, l)) ∙ one_on ns n (position_or_len (is_to u i) gs)
  ]) l

  none_len : (gs : List Granted) (ns : List ℕ) → length gs ≤ position_or_len (is_to u i) gs → sum_before u i gs ns ≡ None
  none_len [] ns l = refl
  none_len (g ∷ gs) [] l = refl
  none_len (g ∷ gs) (n ∷ ns) l = (elim (is_to u i g) as (λ b. suc (length gs) ≤ cond (not b) (1 + position_or_len (is_to u i) gs) 0 → (if b then Some n else sum_before u i gs ns) ≡ None) [
    | true ↦ λ l. absurd (omega (arith, l))
    | false ↦ λ l. none_len gs ns (omega (arith, l))
  ]) l

  -- the sum at the index that was found
  pub before_at : (gs : List Granted) (ns : List ℕ) (r : Option ℕ) (k : ℕ) → r ≡ position (is_to u i) gs → r ≡ Some k → k < length gs → sum_before u i gs ns ≡ slice_get ns k
  before_at gs ns r k is e l =
      let at : k ≡ position_or_len (is_to u i) gs = position-Some_or_len (is_to u i) gs r k is e in
      at_len gs ns (omega (arith, at, l)) ∙ ap (slice_get ns) (sym at)

  pub before_none : (gs : List Granted) (ns : List ℕ) (r : Option ℕ) → r ≡ position (is_to u i) gs → r ≡ None → sum_before u i gs ns ≡ None
  before_none gs ns r is e = none_len gs ns (omega (arith, position-None_or_len (is_to u i) gs r is e))

  find_in : (gs : List Granted) → find (λ g. g.alloc_id == i) (filter (λ g. g.onu == u) gs) ≡ find (is_to u i) gs
  find_in [] = refl
  find_in (g ∷ gs) = elim (g.onu == u) as (λ b. find (λ g. g.alloc_id == i) (cond b (g ∷ filter (λ g. g.onu == u) gs) (filter (λ g. g.onu == u) gs)) ≡ cond (b && g.alloc_id == i) (Some g) (find (is_to u i) gs)) [
    | true ↦ ap (λ r. cond (g.alloc_id == i) (Some g) r) (find_in gs)
    | false ↦ find_in gs
  ]

  -- the words of the grant at the index that was found
  pub words_there : (m : WindowMap) (r : Option ℕ) (k : ℕ) (d : Granted) → r ≡ position (is_to u i) m.grants → r ≡ Some k → k < length m.grants → (get_or m.grants k d).words ≡ words_to u i m
  words_there m r k d is e l = words_found (is_to u i) m.grants r is k d e l ∙ ap words_granted (sym (find_in m.grants))

  ungranted : (gs : List Granted) (ns : List ℕ) → length ns ≡ length gs → sum_before u i gs ns ≡ None → words_granted (find (is_to u i) gs) ≡ 0
  ungranted [] ns e h = refl
  ungranted (g ∷ gs) [] e h = absurd (omega (arith, e))
  ungranted (g ∷ gs) (n ∷ ns) e h = (elim (is_to u i g) as (λ b. (if b then Some n else sum_before u i gs ns) ≡ None → words_granted (cond b (Some g) (find (is_to u i) gs)) ≡ 0) [
    | true ↦ λ h. absurd cc
    | false ↦ λ h. ungranted gs ns (omega (arith, e)) h
  ]) h

  pub no_grant : (m : WindowMap) (ns : List ℕ) → length ns ≡ length m.grants → sum_before u i m.grants ns ≡ None → words_to u i m ≡ 0
  no_grant m ns e h = ap words_granted (find_in m.grants) ∙ ungranted m.grants ns e h

  few_words : (gs : List Granted) → All (λ g. g.words ≤ FRAME_WORDS) gs → words_granted (find (is_to u i) gs) ≤ FRAME_WORDS
  few_words [] h = omega arith
  few_words (g ∷ gs) h = elim (is_to u i g) as (λ b. words_granted (cond b (Some g) (find (is_to u i) gs)) ≤ FRAME_WORDS) [
    | true ↦ All-head (λ g. g.words ≤ FRAME_WORDS) g gs h
    | false ↦ few_words gs (All-tail (λ g. g.words ≤ FRAME_WORDS) g gs h)
  ]

  -- The sum after a grant, and after the last grant.

  pub after_none : (m : WindowMap) (ns : List ℕ) → sum_before u i m.grants ns ≡ None → sum_after u i m ns ≡ None
  after_none m ns h = ap (option_map (λ n. (n + words_to u i m) % 2 ^ 32)) h

  after_some : (m : WindowMap) (ns : List ℕ) (n : ℕ) → sum_before u i m.grants ns ≡ Some n → sum_after u i m ns ≡ Some ((n + words_to u i m) % 2 ^ 32)
  after_some m ns n h = ap (option_map (λ n. (n + words_to u i m) % 2 ^ 32)) h

  -- at the index that was found
  pub after_at : (m : WindowMap) (ns : List ℕ) (r : Option ℕ) (k b w : ℕ) (d : Granted) → r ≡ position (is_to u i) m.grants → r ≡ Some k → k < length m.grants → slice_get ns k ≡ Some b → w ≡ (get_or m.grants k d).words
      → Some ((b + w) % 2 ^ 32) ≡ sum_after u i m ns
  after_at m ns r k b w d is e l read words =
      ap (λ w. Some ((b + w) % 2 ^ 32)) (words ∙ words_there m r k d is e l)
      ∙ sym (after_some m ns b (before_at m.grants ns r k is e l ∙ read))

  or_none : (p : Option ℕ) → option_or p None ≡ p
  or_none None = refl
  or_none (Some n) = refl

  or_assoc : (p q r : Option ℕ) → option_or (option_or p q) r ≡ option_or p (option_or q r)
  or_assoc None q r = refl
  or_assoc (Some n) q r = refl

  pub now_push : (ms : List WindowMap) (sums : List (List ℕ)) (m : WindowMap) (ns : List ℕ) → length sums ≡ length ms → sum_now u i (ms ++ m ∷ []) (sums ++ ns ∷ []) ≡ option_or (sum_after u i m ns) (sum_now u i ms sums)
  now_push [] [] m ns e = sym (or_none (sum_after u i m ns))
  now_push [] (s ∷ sums) m ns e = absurd (omega (arith, e))
  now_push (x ∷ ms) [] m ns e = absurd (omega (arith, e))
  now_push (x ∷ ms) (s ∷ sums) m ns e = ap (λ r. option_or r (sum_after u i x s)) (now_push ms sums m ns (omega (arith, e))) ∙ or_assoc (sum_after u i m ns) (sum_now u i ms sums) (sum_after u i x s)

  now_noted : (f v : ℕ) (ms : List WindowMap) (sums : List (List ℕ)) → sum_now u i (map (with_report f v) ms) sums ≡ sum_now u i ms sums
  now_noted f v [] sums = refl
  now_noted f v (m ∷ ms) [] = refl
  now_noted f v (m ∷ ms) (ns ∷ sums) = ap (λ r. option_or r (sum_after u i m ns)) (now_noted f v ms sums)

  -- the sum before a grant of the next map is the sum after the last grant
  pub beside_now : (ms : List WindowMap) (sums : List (List ℕ)) (n t : ℕ) → sum_now u i ms sums ≡ Some t → (gs : List Granted) → sum_before u i gs (sums_beside ms sums gs) ≡ Some n → n ≡ t
  beside_now ms sums n t now [] h = absurd cc
  beside_now ms sums n t now (g ∷ gs) h = go (is_to u i g) refl (beside_now ms sums n t now gs) h
    where
      go : (b : Bool) → is_to u i g ≡ b → (sum_before u i gs (sums_beside ms sums gs) ≡ Some n → n ≡ t) → (if b then Some (or_zero (sum_now g.onu g.alloc_id ms sums)) else sum_before u i gs (sums_beside ms sums gs)) ≡ Some n → n ≡ t
      go true e rest h =
          let both : ((g.onu == u) ≡ true) × ((g.alloc_id == i) ≡ true) = and_parts (g.onu == u) (g.alloc_id == i) e in
          sym (same_Some (or_zero (sum_now g.onu g.alloc_id ms sums)) n h)
          ∙ (λ j. or_zero (sum_now (eqb-true g.onu u both.0 j) (eqb-true g.alloc_id i both.1 j) ms sums)) ∙ ap or_zero now
      go false e rest h = rest h

-- the sums with one more grant of the next map
pub beside_more : (ms : List WindowMap) (sums : List (List ℕ)) (done all : List Granted) (g : Granted) (n : ℕ) (before : List ℕ) → n ≡ or_zero (sum_now g.onu g.alloc_id ms sums) → before ≡ sums_beside ms sums done → all ≡ done ++ g ∷ []
    → before ++ n ∷ [] ≡ sums_beside ms sums all
beside_more ms sums done all g n before e q more =
    (λ j. q j ++ e j ∷ []) ∙ sym (ap (sums_beside ms sums) more ∙ map-append (λ g. or_zero (sum_now g.onu g.alloc_id ms sums)) done (g ∷ []))

-- One more map.
module _ (m : WindowMap) (ns : List ℕ) (beside : length ns ≡ length m.grants) (small : All (λ g. g.words ≤ FRAME_WORDS) m.grants) where
  pub summed_push : (ms : List WindowMap) (sums : List (List ℕ)) → AreSummed ms sums → length sums ≡ length ms
      → ((u i n t : ℕ) → sum_before u i m.grants ns ≡ Some n → sum_now u i ms sums ≡ Some t → n ≡ t) → AreSummed (ms ++ m ∷ []) (sums ++ ns ∷ [])
  summed_push [] [] h e next = (
    record {
      beside = beside;
      small = small;
      differ = λ u i n b. after_some u i m ns n b ∙ ap (λ w. Some ((n + w) % 2 ^ 32)) (let one : words_to u i m ≡ sum_by (words_to u i) (m ∷ []) = omega (arith, sum_by-cons (words_to u i) m []) in one);
    },
    tt,
  )
  summed_push [] (s ∷ sums) h e next = absurd (omega (arith, e))
  summed_push (x ∷ ms) [] h e next = absurd (omega (arith, e))
  summed_push (x ∷ ms) (s ∷ sums) h e next = (
    record { beside = h.0.beside; small = h.0.small; differ = differ },
    summed_push ms sums h.1 (omega (arith, e)) (λ u i n t b q. next u i n t b (ap (λ r. option_or r (sum_after u i x s)) q)),
  )
    where
      differ : (u i n : ℕ) → sum_before u i x.grants s ≡ Some n → sum_now u i ((x ∷ ms) ++ m ∷ []) ((s ∷ sums) ++ ns ∷ []) ≡ Some ((n + sum_by (words_to u i) ((x ∷ ms) ++ m ∷ [])) % 2 ^ 32)
      differ u i n b = now_push u i (x ∷ ms) (s ∷ sums) m ns e ∙ go (sum_before u i m.grants ns) refl
        where
          before : sum_now u i (x ∷ ms) (s ∷ sums) ≡ Some ((n + sum_by (words_to u i) (x ∷ ms)) % 2 ^ 32)
          before = h.0.differ u i n b

          all : sum_by (words_to u i) ((x ∷ ms) ++ m ∷ []) ≡ sum_by (words_to u i) (x ∷ ms) + words_to u i m
          all = sum_by_push (words_to u i) (x ∷ ms) m

          go : (r : Option ℕ) → sum_before u i m.grants ns ≡ r → option_or (sum_after u i m ns) (sum_now u i (x ∷ ms) (s ∷ sums)) ≡ Some ((n + sum_by (words_to u i) ((x ∷ ms) ++ m ∷ [])) % 2 ^ 32)
          go None q =
              (λ j. option_or (after_none u i m ns q j) (before j))
              ∙ ap (λ w. Some ((n + w) % 2 ^ 32)) (let same : sum_by (words_to u i) (x ∷ ms) ≡ sum_by (words_to u i) ((x ∷ ms) ++ m ∷ []) = omega (arith, all, no_grant u i m ns beside q) in same)
          go (Some k) q =
              (λ j. option_or (after_some u i m ns k q j) (sum_now u i (x ∷ ms) (s ∷ sums)))
              ∙ ap (λ k. Some ((k + words_to u i m) % 2 ^ 32)) (next u i k _ q before)
              ∙ ap Some (mod-add-mod (n + sum_by (words_to u i) (x ∷ ms)) (2 ^ 32) (words_to u i m))
              ∙ ap (λ t. Some (t % 2 ^ 32)) (let sum : n + sum_by (words_to u i) (x ∷ ms) + words_to u i m ≡ n + sum_by (words_to u i) ((x ∷ ms) ++ m ∷ []) = omega (arith, all) in sum)

-- Windows without their first maps, and with other reports.

pub summed_drop : (k : ℕ) (ms : List WindowMap) (sums : List (List ℕ)) → AreSummed ms sums → length sums ≡ length ms → AreSummed (drop k ms) (drop k sums)
summed_drop zero ms sums h e = h
summed_drop (suc k) [] sums h e = tt
summed_drop (suc k) (m ∷ ms) [] h e = absurd (omega (arith, e))
summed_drop (suc k) (m ∷ ms) (ns ∷ sums) h e = summed_drop k ms sums h.1 (omega (arith, e))

pub summed_last : (ms : List WindowMap) (sums : List (List ℕ)) → AreSummed ms sums → length sums ≡ length ms → AreSummed (last_64 ms) (last_64 sums)
summed_last ms sums h e = subst (λ n. AreSummed (last_64 ms) (drop (n - 64) sums)) (sym e) (summed_drop (length ms - 64) ms sums h e)

pub summed_noted : (f v : ℕ) (ms : List WindowMap) (sums : List (List ℕ)) → AreSummed ms sums → AreSummed (map (with_report f v) ms) sums
summed_noted f v [] sums h = tt
summed_noted f v (m ∷ ms) [] h = tt
summed_noted f v (m ∷ ms) (ns ∷ sums) h = (
  record {
    beside = h.0.beside;
    small = h.0.small;
    differ = λ u i n b. now_noted u i f v (m ∷ ms) (ns ∷ sums) ∙ h.0.differ u i n b ∙ ap (λ w. Some ((n + w) % 2 ^ 32)) (sym (sum_by-map (words_to u i) (with_report f v) (m ∷ ms)));
  },
  summed_noted f v ms sums h.1,
)

-- A map is added, and the oldest may be dropped.
module _ (frame : ℕ) (gs : List Granted) (ms : List WindowMap) (sums : List (List ℕ)) where
  abbrev new_map : WindowMap
  new_map = record { frame = frame; grants = gs; reported = [] }

  as_many_more : length sums ≡ length ms → length (sums ++ sums_beside ms sums gs ∷ []) ≡ length (ms ++ new_map ∷ [])
  as_many_more e = omega (arith, e, length_push sums (sums_beside ms sums gs), length_push ms new_map)

  pub as_many_mapped : length sums ≡ length ms → length (last_64 (sums ++ sums_beside ms sums gs ∷ [])) ≡ length (with_map frame gs ms)
  as_many_mapped e = omega (arith, as_many_more e, length-drop (length (sums ++ sums_beside ms sums gs ∷ []) - 64) (sums ++ sums_beside ms sums gs ∷ []), length-drop (length (ms ++ new_map ∷ []) - 64) (ms ++ new_map ∷ []))

  pub summed_mapped : AreSummed ms sums → length sums ≡ length ms → All (λ g. g.words ≤ FRAME_WORDS) gs → AreSummed (with_map frame gs ms) (last_64 (sums ++ sums_beside ms sums gs ∷ []))
  summed_mapped h e small =
      summed_last (ms ++ new_map ∷ []) (sums ++ sums_beside ms sums gs ∷ [])
      (summed_push new_map (sums_beside ms sums gs) (length-map gs (λ g. or_zero (sum_now g.onu g.alloc_id ms sums))) small ms sums h e (λ u i n t b now. beside_now u i ms sums n t now gs b))
      (as_many_more e)

-- a map is restored, with the sums beside its grants
pub summed_restored : (m : WindowMap) (ms : List WindowMap) (sums : List (List ℕ)) → AreSummed ms sums → length sums ≡ length ms → All (λ g. g.words ≤ FRAME_WORDS) m.grants → AreSummed (ms ++ m ∷ []) (sums ++ sums_beside ms sums m.grants ∷ [])
summed_restored m ms sums h e small =
    summed_push m (sums_beside ms sums m.grants) (length-map m.grants (λ g. or_zero (sum_now g.onu g.alloc_id ms sums))) small ms sums h e (λ u i n t b now. beside_now u i ms sums n t now m.grants b)

-- The words granted are the difference of two sums.

pub few_granted : (u i : ℕ) (ms : List WindowMap) (sums : List (List ℕ)) → AreSummed ms sums → length sums ≡ length ms → sum_by (words_to u i) ms ≤ length ms * FRAME_WORDS
few_granted u i [] sums h e = omega arith
few_granted u i (m ∷ ms) [] h e = absurd (omega (arith, e))
few_granted u i (m ∷ ms) (ns ∷ sums) h e =
    let one : words_to u i m ≤ FRAME_WORDS = subst (λ r. words_granted r ≤ FRAME_WORDS) (sym (find_in u i m.grants)) (few_words u i m.grants h.0.small) in
    omega (arith, one, few_granted u i ms sums h.1 (omega (arith, e)), sum_by-cons (words_to u i) m ms)

pub wrapped : (b s : ℕ) → b < 2 ^ 32 → s < 2 ^ 32 → ((b + s) % 2 ^ 32 + (2 ^ 32 - b)) % 2 ^ 32 ≡ s
wrapped b s l k =
    mod-add-mod (b + s) (2 ^ 32) (2 ^ 32 - b)
    ∙ ap (λ n. n % 2 ^ 32) (let whole : b + s + (2 ^ 32 - b) ≡ 2 ^ 32 + s = omega (arith, l) in whole)
    ∙ add-mod_left (2 ^ 32) s ∙ mod-eq_of_lt k

-- A window by its last map, and by its first.

pub now_last : (u i : ℕ) (ms rest : List WindowMap) (m : WindowMap) (sums others : List (List ℕ)) (ns : List ℕ) → ms ≡ rest ++ m ∷ [] → sums ≡ others ++ ns ∷ [] → length others ≡ length rest
    → sum_now u i ms sums ≡ option_or (sum_after u i m ns) (sum_now u i rest others)
now_last u i ms rest m sums others ns e q l = (λ j. sum_now u i (e j) (q j)) ∙ now_push u i rest others m ns l

module _ (ms later : List WindowMap) (m : WindowMap) (sums others : List (List ℕ)) (ns : List ℕ) (e : ms ≡ m ∷ later) (q : sums ≡ ns ∷ others) (h : AreSummed ms sums) where
  pub summed_parts : AreSumsOf m later ns others × AreSummed later others
  summed_parts = subst (λ sums. AreSummed (m ∷ later) sums) q (subst (λ ms. AreSummed ms sums) e h)

  pub granted_later : (u i : ℕ) → sum_before u i m.grants ns ≡ None → sum_by (words_to u i) later ≡ sum_by (words_to u i) ms
  granted_later u i none =
      let all : sum_by (words_to u i) ms ≡ words_to u i m + sum_by (words_to u i) later = ap (sum_by (words_to u i)) e ∙ sum_by-cons (words_to u i) m later in
      omega (arith, all, no_grant u i m ns summed_parts.0.beside none)

  pub granted_is : (u i before sum : ℕ) → length sums ≡ length ms → length ms ≤ MAX_MAPS → before < 2 ^ 32 → sum_before u i m.grants ns ≡ Some before → sum_now u i ms sums ≡ Some sum
      → (sum + (2 ^ 32 - before)) % 2 ^ 32 ≡ sum_by (words_to u i) ms
  granted_is u i before sum same few l b now =
      let told : sum ≡ (before + sum_by (words_to u i) ms) % 2 ^ 32
      = same_Some sum ((before + sum_by (words_to u i) ms) % 2 ^ 32)
      (sym now ∙ (λ j. sum_now u i (e j) (q j)) ∙ summed_parts.0.differ u i before b ∙ ap (λ ms. Some ((before + sum_by (words_to u i) ms) % 2 ^ 32)) (sym e)) in
      ap (λ n. (n + (2 ^ 32 - before)) % 2 ^ 32) told
      ∙ wrapped before (sum_by (words_to u i) ms) l (omega (arith, few_granted u i ms sums h same, few))

  pub now_some : (u i before : ℕ) → sum_before u i m.grants ns ≡ Some before → sum_now u i ms sums ≡ None → ⊥
  now_some u i before b none =
      let some : sum_now u i ms sums ≡ Some ((before + sum_by (words_to u i) (m ∷ later)) % 2 ^ 32) = (λ j. sum_now u i (e j) (q j)) ∙ summed_parts.0.differ u i before b in
      cc
