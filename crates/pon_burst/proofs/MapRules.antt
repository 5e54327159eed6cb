-- Grants in map order that fit a frame: which of their structures start a burst, and where; so their bursts are sound, and they make a map.
use Rattle.std.proofs.Common.{◌≡◌, ℕ, zero, suc, ◌+◌, ◌*◌, ◌<◌, ◌≤◌, Bool, true, false, cond, not, ◌||◌, ◌&&◌, List, [], ◌∷◌, ◌++◌, map, get_or, length, take, drop, Option, refl, ap, sym, ◌∙◌, subst, append_assoc, add-one, arith, inl, inr}
use Rattle.std.specs.Prelude.{◌==◌, nat_lt, if◌then◌else◌, filter, sum_by, count_by, slice_get, All, AllPairs, Some, None}
use Rattle.std.specs.List.{list_any}
use Rattle.std.specs.Option.{option_eq}
use Rattle.std.proofs.lemmas.Bool.{and_right, eq-eqb, le-ltb, lt-leb, lt-ltb, ne_eqb, or_left, or_right}
use Rattle.std.proofs.lemmas.Bool.Decides.{eqb_tells, nat_tests}
use Rattle.std.proofs.lemmas.List.{append-nil, drop_more, length-map, map-append, take-append-drop, take_more}
use Rattle.std.proofs.lemmas.List.Elements.{All-append, All-cons, All-map, All-nil, All-push, All-same}
use Rattle.std.proofs.lemmas.List.Folds.{list_any-append, list_any_none}
use Rattle.std.proofs.lemmas.List.Sums.{count_by_more_yes, sum_by-append, sum_by-le, sum_by-take-le, sum_by_push}
use Rattle.std.proofs.lemmas.List.Kept.{AllPairs-cons}
use Rattle.std.proofs.lemmas.Option.{slice_get-get_or, slice_get-map}
use Rattle.pon_units.specs.declared.limits.TheConstants.{FRAME_WORDS, MAX_SERIES, MAX_STRUCTURES}
use Rattle.pon_units.specs.declared.Granted.{Granted}
use Rattle.pon_units.specs.Granted.{AreInMapOrder, ComesBefore, onus_granted}
use Rattle.pon_lists.proofs.Lists.{All-middle, list_any-map, sum_by_agree}
use Rattle.pon_lists.proofs.Order.{in_order-sides}
use Rattle.pon_lists.proofs.Distinct.{bit, count_once, count_once-append, count_once_agree, count_once_none, count_once_push, length-distinct, length-filter_distinct, occurs}
use Rattle.pon_bwmap.specs.Alloc.{Alloc}
use Rattle.pon_bwmap.specs.MapRules.{continues as lacks_start, IsMap, place_in_series, row_fault}
use Rattle.pon_bwmap.proofs.SeriesRules.{first_place}
use Rattle.pon_burst.specs.Bursts.{AreDisjoint, AreSound, Burst, bursts_of, continued}
use Rattle.pon_burst.specs.Layout.{IsLast}
use Rattle.pon_burst.specs.Maps.{follows_in_series, frame_words, grant, map_granting, start_of, structure_of}

abbrev onus : List Granted → List ℕ
onus gs = map (λ g. g.onu) gs

abbrev pub blank : Granted
blank = record { onu = 0; alloc_id = 0; words = 0 }

-- grant k
abbrev pub at : List Granted → ℕ → Granted
at gs k = get_or gs k blank

-- the words of the first grants are within the frame if those of all are
pub within_frame : (gap : ℕ) (gs : List Granted) (k : ℕ) → frame_words gap gs ≤ FRAME_WORDS → frame_words gap (take k gs) ≤ FRAME_WORDS
within_frame gap gs k fits =
    let more : frame_words gap (take k gs) ≤ frame_words gap (take k gs ++ drop k gs)
    = rw (map-append, length-distinct (onus (take k gs) ++ onus (drop k gs)), count_once-append, ← length-distinct (onus (take k gs)), sum_by-append grant (take k gs) (drop k gs)) (omega arith) in
    omega (arith, more, ap (frame_words gap) (take-append-drop k gs), fits)

any_middle : {X : Type 0} (p : X → Bool) (xs ys : List X) (x : X) → p x ≡ true → list_any p (xs ++ x ∷ ys) ≡ true
any_middle p xs ys x h = list_any-append p xs (x ∷ ys) ∙ or_right (list_any p xs) (p x || list_any p ys) (or_left (p x) (list_any p ys) h)

-- what a grant after xs brings, zs with it: the start of its structure, and the words that it takes, if it continues a burst or begins one
pub record IsNext (gap profile : ℕ) (gs xs zs : List Granted) (r : Granted) (b : Bool) : Type 0 where
  pub start : (structure_of gap profile gs r).start ≡ (if b then None else Some (gap + frame_words gap xs))
  pub words : frame_words gap zs ≡ frame_words gap xs + ((if b then 0 else gap + 2) + grant r)

module _ (gap profile : ℕ) (gs : List Granted) (order : AreInMapOrder gs) (xs ys : List Granted) (r : Granted) (whole : gs ≡ xs ++ r ∷ ys) where
  sides : All (λ q. ComesBefore q r) xs × All (λ q. ComesBefore r q) ys
  sides = in_order-sides ComesBefore r xs ys (subst AreInMapOrder whole order)

  words_more : (b : Bool) → occurs r.onu (onus xs) ≡ b → frame_words gap (xs ++ r ∷ []) ≡ (gap + 2) * (length (onus_granted xs) + bit (not b && true)) + (sum_by grant xs + grant r)
  words_more b known = rw (map-append, length-distinct (onus xs ++ r.onu ∷ []), count_once_push, ← length-distinct (onus xs), known, sum_by_push)

  abbrev leads : Granted → Bool
  leads h = h.onu == r.onu && nat_lt h.alloc_id r.alloc_id

  -- a grant after another of its ONU
  continues : (front : List Granted) (g : Granted) → xs ≡ front ++ g ∷ [] → g.onu ≡ r.onu → IsNext gap profile gs xs (xs ++ r ∷ []) r true
  continues front g cut same =
      let before = (All-middle (λ q. ComesBefore q r) front [] g (subst (All (λ q. ComesBefore q r)) cut sides.0)).1 same in
      let led : leads g ≡ true = grind (arith, nat_tests) in
      let follows : follows_in_series gap profile gs r ≡ true = ap (list_any leads) (whole ∙ ap (λ zs. zs ++ r ∷ ys) cut ∙ append_assoc front (g ∷ []) (r ∷ ys)) ∙ any_middle leads front (r ∷ ys) g led in
      let known : occurs r.onu (onus xs) ≡ true
      = list_any-map (λ v. v == r.onu) (λ h. h.onu) xs ∙ ap (list_any (λ (h : Granted). h.onu == r.onu)) cut ∙ any_middle (λ h. h.onu == r.onu) front [] g (eq-eqb g.onu r.onu same) in
      record { start = ap (λ b. if b then None else Some (start_of gap profile gs r.onu)) follows; words = omega (arith, words_more true known) }

  -- a grant after grants of ONUs of smaller number alone
  begins : All (λ q. q.onu < r.onu) xs → IsNext gap profile gs xs (xs ++ r ∷ []) r false
  begins less =
      let alone : All (λ q. leads q ≡ false) (xs ++ r ∷ ys)
      = All-append (λ q. leads q ≡ false) xs (r ∷ ys) (λ k d lt. let l = less k d lt in grind (arith, nat_tests))
      (All-cons (λ q. leads q ≡ false) r ys (grind (arith, nat_tests)) (λ k d lt. let s = sides.1 k d lt in grind (arith, nat_tests))) in
      let follows : follows_in_series gap profile gs r ≡ false = ap (list_any leads) whole ∙ list_any_none leads (xs ++ r ∷ ys) alone in
      let below : ℕ → Bool = λ v. nat_lt v r.onu in
      let yes : All (λ q. below q.onu ≡ true) xs = λ k d lt. lt-ltb (get_or xs k d).onu r.onu (less k d lt) in
      let no : All (λ q. below q.onu ≡ false) (r ∷ ys)
      = All-cons (λ q. below q.onu ≡ false) r ys (le-ltb r.onu r.onu (omega arith)) (λ k d lt. le-ltb (get_or ys k d).onu r.onu (sides.1 k d lt).0) in
      let new : ℕ → Bool = λ v. not (occurs v (onus xs)) && below v in
      let none : count_once (onus (r ∷ ys)) new ≡ 0
      = count_once_none (onus (r ∷ ys)) new (All-map (λ v. new v ≡ false) (λ g. g.onu) (r ∷ ys) (λ k d lt. and_right (not (occurs (get_or (r ∷ ys) k d).onu (onus xs))) (below (get_or (r ∷ ys) k d).onu) (no k d lt))) in
      let counted : length (filter below (onus_granted gs)) ≡ length (onus_granted xs)
      = length-filter_distinct (onus gs) below ∙ ap (λ zs. count_once (onus zs) below) whole
      ∙ rw (map-append, count_once-append, none, length-distinct, count_once_agree (onus xs) below (λ _. true) (All-map (λ v. below v ≡ true) (λ g. g.onu) xs yes)) (omega arith) in
      let f : Granted → ℕ = λ g. if below g.onu then grant g else 0 in
      let summed : sum_by f gs ≡ sum_by grant xs
      = ap (sum_by f) whole ∙ rw (sum_by-append f xs (r ∷ ys), sum_by_agree f grant xs (λ k d lt. ap (λ b. if b then grant (get_or xs k d) else 0) (yes k d lt))) (omega (arith, sum_by-le f 0 (r ∷ ys) (λ k d lt. rw (no k d lt) (omega arith)))) in
      let start : start_of gap profile gs r.onu ≡ gap + frame_words gap xs = (λ i. gap + (gap + 2) * counted i + summed i) ∙ omega arith in
      let unknown : occurs r.onu (onus xs) ≡ false
      = list_any_none (λ v. v == r.onu) (onus xs) (All-map (λ v. (v == r.onu) ≡ false) (λ g. g.onu) xs (λ k d lt. ne_eqb (get_or xs k d).onu r.onu (λ same. omega (arith, less k d lt, same)))) in
      record { start = ap (λ b. if b then None else Some (start_of gap profile gs r.onu)) follows ∙ ap Some start; words = omega (arith, words_more false unknown) }

  -- it continues a burst exactly when the grant before it is of its ONU
  next_to : (o : Option ℕ) → IsLast o xs → IsNext gap profile gs xs (xs ++ r ∷ []) r (option_eq (λ a b. a == b) o (Some r.onu))
  next_to None last = begins (All-same (λ q. q.onu < r.onu) xs [] last (All-nil (λ q. q.onu < r.onu)))
  next_to (Some u) (front, g, cut, of_g) = elim (eqb_tells u r.onu) [
    | inl t ↦ rw t.0 (continues front g cut (of_g ∙ t.1))
    | inr n ↦
        let around : All (λ q. ComesBefore q g) front × All (λ q. ComesBefore g q) (r ∷ ys)
        = in_order-sides ComesBefore g front (r ∷ ys) (subst AreInMapOrder (whole ∙ ap (λ zs. zs ++ r ∷ ys) cut ∙ append_assoc front (g ∷ []) (r ∷ ys)) order) in
        let less : g.onu < r.onu = omega (arith, (around.1 0 r (omega arith)).0, of_g, n.1) in
        rw n.0 (begins (All-same (λ q. q.onu < r.onu) xs (front ++ g ∷ []) cut (All-push (λ q. q.onu < r.onu) front g (λ k d lt. omega (arith, (around.0 k d lt).0, less)) less)))
  ]

-- what grant k brings
pub next : (gap profile : ℕ) (gs : List Granted) → AreInMapOrder gs → (k : ℕ) → k < length gs → (o : Option ℕ) → IsLast o (take k gs)
    → IsNext gap profile gs (take k gs) (take (k + 1) gs) (at gs k) (option_eq (λ a b. a == b) o (Some (at gs k).onu))
next gap profile gs order k lt = rw (take_more gs k blank lt) (next_to gap profile gs order (take k gs) (drop (k + 1) gs) (at gs k) (rw (drop_more gs k blank lt) at (sym (take-append-drop k gs))))

pub last : (gs : List Granted) (k : ℕ) → k < length gs → IsLast (Some (at gs k).onu) (take (k + 1) gs)
last gs k lt = (take k gs, at gs k, take_more gs k blank lt, refl)

-- ---- the bursts are sound

-- these structures continue a burst up to word `low` or begin one there, and their bursts lie one after another up to word `end`
record AreLaid (gap low end : ℕ) (rows : List Alloc) : Type 0 where
  words : low + continued rows ≤ end
  bursts : All (λ b. (low + continued rows ≤ b.start) × (b.start + 1 + b.words + 1 + gap ≤ end)) (bursts_of rows)
  disjoint : AllPairs (AreDisjoint gap) (bursts_of rows)

one_laid : {gap profile end : ℕ} {gs xs zs : List Granted} {r : Granted} (more : List Alloc) (b : Bool) → IsNext gap profile gs xs zs r b → AreLaid gap (gap + frame_words gap zs) end more →
    AreLaid gap (gap + frame_words gap xs) end (structure_of gap profile gs r ∷ more)
one_laid more true next laid = record {
  words = rw next.start (omega (arith, next.words, laid.words));
  bursts = rw next.start (λ k d lt. (omega (arith, next.words, (laid.bursts k d lt).0), (laid.bursts k d lt).1));
  disjoint = rw next.start laid.disjoint;
}
one_laid {gap} {profile} {end} {gs} {xs} {zs} {r} more false next laid =
    let first : Burst = record { start = gap + frame_words gap xs; words = grant r + continued more } in
    let after : All (λ b. first.start + 1 + first.words + 1 + gap ≤ b.start) (bursts_of more) = λ k d lt. omega (arith, next.words, (laid.bursts k d lt).0) in
    record {
      words = rw next.start (omega (arith, next.words, laid.words));
      bursts = rw next.start (All-cons (λ b. (first.start + 0 ≤ b.start) × (b.start + 1 + b.words + 1 + gap ≤ end)) first (bursts_of more)
          (omega arith, omega (arith, next.words, laid.words))
          (λ k d lt. (omega (arith, after k d lt), (laid.bursts k d lt).1)));
      disjoint = rw next.start (AllPairs-cons (AreDisjoint gap) first (bursts_of more) (λ k d lt. inl (after k d lt)) laid.disjoint);
    }

module _ (gap profile : ℕ) (gs : List Granted) (order : AreInMapOrder gs) where
  -- the structures of later grants are laid after those of earlier ones
  rest_laid : (o : Option ℕ) (xs ys : List Granted) → gs ≡ xs ++ ys → IsLast o xs → AreLaid gap (gap + frame_words gap xs) (gap + frame_words gap gs) (map (structure_of gap profile gs) ys)
  rest_laid o xs [] e last = record {
    words = omega (arith, ap (frame_words gap) (e ∙ append-nil xs));
    bursts = λ k d lt. absurd (omega arith);
    disjoint = λ i j d l lt. absurd (omega arith);
  }
  rest_laid o xs (r ∷ ys) e last =
      one_laid (map (structure_of gap profile gs) ys) (option_eq (λ a b. a == b) o (Some r.onu)) (next_to gap profile gs order xs ys r e o last)
      (rest_laid (Some r.onu) (xs ++ r ∷ []) ys (e ∙ sym (append_assoc xs (r ∷ []) ys)) (xs, r, refl, refl))

  pub sound_of_rising : frame_words gap gs ≤ FRAME_WORDS → AreSound gap (map_granting gap profile gs)
  sound_of_rising fits =
      let laid = rest_laid None [] gs refl refl in
      record { in_frame = λ k d lt. (omega (arith, (laid.bursts k d lt).0), omega (arith, (laid.bursts k d lt).1, fits)); disjoint = laid.disjoint }

-- ---- the structures make a map

place_more : (rows : List Alloc) (k : ℕ) → place_in_series rows (suc k) ≡ (if lacks_start (slice_get rows (suc k)) then place_in_series rows k + 1 else 0)
unfolding place_in_series
place_more rows k = refl

module _ (gap profile : ℕ) (gs : List Granted) (order : AreInMapOrder gs) (short : (u : ℕ) → count_by (λ g. g.onu == u) gs ≤ MAX_SERIES) (fits : frame_words gap gs ≤ FRAME_WORDS) where
  abbrev rows : List Alloc
  rows = map_granting gap profile gs

  there : (k : ℕ) → k < length gs → slice_get rows k ≡ Some (structure_of gap profile gs (at gs k))
  there k lt = rw (slice_get-map (structure_of gap profile gs) gs k, slice_get-get_or gs k blank lt) refl

  counted : (k : ℕ) → k < length gs → count_by (λ q. q.onu == (at gs k).onu) (take (k + 1) gs) ≡ count_by (λ q. q.onu == (at gs k).onu) (take k gs) + 1
  counted k lt = count_by_more_yes (λ q. q.onu == (at gs k).onu) gs k blank lt (eq-eqb (at gs k).onu (at gs k).onu refl)

  -- at least as many grants of its ONU come before grant k as structures of its series before structure k
  placed : (k : ℕ) → k < length gs → place_in_series rows k ≤ count_by (λ q. q.onu == (at gs k).onu) (take k gs)
  placed zero lt = omega (arith, first_place rows)
  placed (suc k) lt =
      let before : k < length gs = omega (arith, lt) in
      let start = (next gap profile gs order (suc k) lt (Some (at gs k).onu) (rw add-one at (last gs k before))).start in
      elim (eqb_tells (at gs k).onu (at gs (suc k)).onu) [
        | inl same ↦ rw (place_more rows k, there (suc k) lt, start, same.0, ← same.1, ← add-one k) (omega (arith, placed k before, counted k before))
        | inr other ↦ rw (place_more rows k, there (suc k) lt, start, other.0) (omega arith)
      ]

  fine : (k : ℕ) (b : Bool) → k < length gs → IsNext gap profile gs (take k gs) (take (k + 1) gs) (at gs k) b → (b ≡ true → 0 < k) → row_fault rows k ≡ None
  fine k true lt next some =
      rw (there k lt, next.start, ne_eqb k 0 (λ none. omega (arith, none, some refl)), le-ltb 15 (place_in_series rows k) (omega (arith, placed k lt, counted k lt, short (at gs k).onu, sum_by-take-le (λ q. cond (q.onu == (at gs k).onu) 1 0) gs (k + 1)))) refl
  fine k false lt next some =
      rw (there k lt, next.start, lt-leb FRAME_WORDS (gap + frame_words gap (take k gs)) (omega (arith, next.words, within_frame gap gs (k + 1) fits))) refl

  keeps : (k : ℕ) → k < length gs → row_fault rows k ≡ None
  keeps zero lt = fine 0 false lt (next gap profile gs order 0 lt None refl) (λ e. absurd cc)
  keeps (suc k) lt = fine (suc k) ((at gs k).onu == (at gs (suc k)).onu) lt (next gap profile gs order (suc k) lt (Some (at gs k).onu) (rw add-one at (last gs k (omega (arith, lt))))) (λ e. omega arith)

pub is_map_of_rising : (gap profile : ℕ) (gs : List Granted) → AreInMapOrder gs → ((u : ℕ) → count_by (λ g. g.onu == u) gs ≤ MAX_SERIES) → length gs ≤ MAX_STRUCTURES → frame_words gap gs ≤ FRAME_WORDS → IsMap (map_granting gap profile gs)
is_map_of_rising gap profile gs order short few fits =
    let long = length-map gs (structure_of gap profile gs) in
    record { count = rw long few; keep_rules = λ k lt. keeps gap profile gs order short fits k (rw long at lt) }
