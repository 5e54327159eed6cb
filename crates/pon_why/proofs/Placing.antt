-- Tallies at the places of a table: each Alloc-ID has one tally at most, which has its sums.
use Rattle.std.proofs.Common.{◌≡◌, ℕ, zero, suc, ◌<◌, List, [], ◌∷◌, ◌++◌, length, get_or, refl, ap, sym, ◌∙◌, subst, arith, inl, inr}
use Rattle.std.specs.Prelude.{if◌then◌else◌, slice_index, slice_set}
use Rattle.std.proofs.lemmas.Bool.Decides.{eqb_tells}
use Rattle.std.proofs.lemmas.List.{get_or-map, get_or_append_left, get_or-set_other, get_or-set_same, length-append, length-map, map-append}
use Rattle.std.proofs.Math.Seq.{get_or-append_seam, map-set_same}
use Rattle.pon_why.specs.Places.{ArePlaced, LacksAt, ids_of}
use Rattle.pon_why.specs.Sums.{no_sums, plus, sums_in}
use Rattle.pon_why.specs.declared.alloc_tallies.AllocTally.{AllocTally}
use Rattle.pon_why.proofs.SumLaws.{none_plus, plus_none}

-- a tally in the place of one of the same Alloc-ID
pub placed_set : (ts : List AllocTally) (places : List ℕ) (k : ℕ) (old new : AllocTally) → old ≡ get_or ts k old → new.alloc_id ≡ old.alloc_id → ArePlaced (ids_of ts) places → ArePlaced (ids_of (slice_set ts k new)) places
placed_set ts places k old new here same placed =
    subst (λ ids. ArePlaced ids places) (sym (map-set_same (λ (t : AllocTally). t.alloc_id) ts k new old (same ∙ ap (λ (t : AllocTally). t.alloc_id) here))) placed

-- one more tally, of an Alloc-ID that has none
pub placed_more : (ids places : List ℕ) (i : ℕ) → i < length places → LacksAt (slice_index places i) i ids → ArePlaced ids places → ArePlaced (ids ++ i ∷ []) (slice_set places i (length ids))
placed_more ids places i within lacks placed k lt = elim (eqb_tells k (length ids)) [
  | inl (_, last) ↦
      let new : slice_index (ids ++ i ∷ []) k ≡ i = ap (slice_index (ids ++ i ∷ [])) last ∙ get_or-append_seam ids i [] 0 in
      ap (slice_index (slice_set places i (length ids))) new ∙ get_or-set_same places i (length ids) 0 within ∙ sym last
  | inr (_, earlier) ↦
      let before : k < length ids = omega (arith, lt, length-append ids (i ∷ []), earlier) in
      let old : slice_index (ids ++ i ∷ []) k ≡ slice_index ids k = get_or_append_left ids (i ∷ []) 0 k before in
      let other : slice_index ids k ≡ i → ⊥ = λ e.
      let here : k ≡ slice_index places i = sym (placed k before) ∙ ap (slice_index places) e in
      subst (λ p. p < length ids → slice_index ids p ≡ i → ⊥) (sym here) lacks before e in
      ap (slice_index (slice_set places i (length ids))) old ∙ get_or-set_other places i (slice_index ids k) (length ids) 0 other ∙ placed k before
]

-- one more tally, of an Alloc-ID that has none, with its place in the table
pub placed_pushed : (ts : List AllocTally) (places : List ℕ) (i p next : ℕ) (t : AllocTally) → i < length places → p ≡ slice_index places i → i ≡ t.alloc_id → next ≡ length ts → LacksAt p t.alloc_id (ids_of ts) → ArePlaced (ids_of ts) places →
    ArePlaced (ids_of (ts ++ t ∷ [])) (slice_set places i next)
placed_pushed ts places i p next t within at own last lacks placed =
    let id = λ (t : AllocTally). t.alloc_id in
    let here : LacksAt (slice_index places i) i (ids_of ts) = subst (λ q. LacksAt q i (ids_of ts)) at (subst (λ j. LacksAt p j (ids_of ts)) (sym own) lacks) in
    let more : ids_of ts ++ i ∷ [] ≡ ids_of (ts ++ t ∷ []) = ap (λ j. ids_of ts ++ j ∷ []) own ∙ sym (map-append id ts (t ∷ [])) in
    let count : length (ids_of ts) ≡ next = length-map ts id ∙ sym last in
    subst (λ ids. ArePlaced ids (slice_set places i next)) more (subst (λ n. ArePlaced (ids_of ts ++ i ∷ []) (slice_set places i n)) count (placed_more (ids_of ts) places i within here placed))

-- The sums of an Alloc-ID.

none_of : (i : ℕ) (ts : List AllocTally) → ((k : ℕ) → k < length (ids_of ts) → slice_index (ids_of ts) k ≡ i → ⊥) → sums_in i ts ≡ no_sums
none_of i [] h = refl
none_of i (t ∷ ts) h = elim (eqb_tells t.alloc_id i) [
  | inl (_, same) ↦ absurd (h 0 (omega arith) same)
  | inr (e, _) ↦ ap (λ b. plus (if b then t.sums else no_sums) (sums_in i ts)) e ∙ none_plus (sums_in i ts) ∙ none_of i ts (λ k lt is. h (suc k) (omega (arith, lt)) is)
]

one_of : (i : ℕ) (ts : List AllocTally) (k : ℕ) (t : AllocTally) → k < length (ids_of ts) → slice_index (ids_of ts) k ≡ i → ((m : ℕ) → m < length (ids_of ts) → slice_index (ids_of ts) m ≡ i → m ≡ k) → t ≡ get_or ts k t → sums_in i ts ≡ t.sums
one_of i [] k t lt is only here = absurd (omega (arith, lt))
one_of i (u ∷ us) zero t lt is only here = elim (eqb_tells u.alloc_id i) [
  | inl (e, _) ↦
      let rest : sums_in i us ≡ no_sums = none_of i us (λ k lt is. let no : suc k ≡ 0 = only (suc k) (omega (arith, lt)) is in omega (arith, no)) in
      (λ j. plus (if e j then u.sums else no_sums) (rest j)) ∙ plus_none u.sums ∙ ap (λ (t : AllocTally). t.sums) (sym here)
  | inr (_, other) ↦ absurd (other is)
]
one_of i (u ∷ us) (suc k) t lt is only here = elim (eqb_tells u.alloc_id i) [
  | inl (_, same) ↦ absurd (let no : 0 ≡ suc k = only 0 (omega arith) same in omega (arith, no))
  | inr (e, _) ↦ ap (λ b. plus (if b then u.sums else no_sums) (sums_in i us)) e ∙ none_plus (sums_in i us)
      ∙ one_of i us k t (omega (arith, lt)) is (λ m below own. let next : suc m ≡ suc k = only (suc m) (omega (arith, below)) own in omega (arith, next)) here
]

-- a tally of another Alloc-ID is at the place
pub lacks_at : (ts : List AllocTally) (p i : ℕ) (t : AllocTally) → t ≡ get_or ts p t → (t.alloc_id ≡ i → ⊥) → LacksAt p i (ids_of ts)
lacks_at ts p i t here other lt is =
    let within : p < length ts = omega (arith, lt, length-map ts (λ (t : AllocTally). t.alloc_id)) in
    other (ap (λ (t : AllocTally). t.alloc_id) here ∙ sym (get_or-map (λ (t : AllocTally). t.alloc_id) ts p t 0 within) ∙ is)

module _ (ts : List AllocTally) (places : List ℕ) (i p : ℕ) (at : p ≡ slice_index places i) (placed : ArePlaced (ids_of ts) places) where
  only_place : (k : ℕ) → k < length (ids_of ts) → slice_index (ids_of ts) k ≡ i → k ≡ p
  only_place k lt is = sym (placed k lt) ∙ ap (slice_index places) is ∙ sym at

  pub placed_sums : (t : AllocTally) → p < length ts → t ≡ get_or ts p t → t.alloc_id ≡ i → sums_in i ts ≡ t.sums
  placed_sums t lt here own =
      let known : slice_index (ids_of ts) p ≡ i = get_or-map (λ (t : AllocTally). t.alloc_id) ts p t 0 lt ∙ ap (λ (t : AllocTally). t.alloc_id) (sym here) ∙ own in
      one_of i ts p t (omega (arith, lt, length-map ts (λ (t : AllocTally). t.alloc_id))) known only_place here

  pub absent_sums : LacksAt p i (ids_of ts) → sums_in i ts ≡ no_sums
  absent_sums lacks = none_of i ts (λ k lt is. subst (λ p. p < length (ids_of ts) → slice_index (ids_of ts) p ≡ i → ⊥) (sym (only_place k lt is)) lacks lt is)
