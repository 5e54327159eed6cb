-- The places of the entries of a port, in order.
use Rattle.std.proofs.Common.{◌≡◌, ℕ, zero, suc, ◌+◌, ◌<◌, ◌≤◌, List, [], ◌∷◌, get_or, length, Some, inl, inr, refl, sym, ap, subst, ◌∙◌, arith}
use Rattle.std.specs.Prelude.{All, flat_map, slice_get}
use Rattle.std.proofs.lemmas.Bool.{cases_lt}
use Rattle.std.proofs.lemmas.List.Elements.{All-append}
use Rattle.std.proofs.lemmas.Option.{get_or_from_slice_get, none-some, slice_get_cases, slice_get_within}
use Rattle.pon_lists.specs.Order.{IsInOrder}
use Rattle.pon_lists.proofs.Order.{in_order-append, in_order_at}
use Rattle.pon_state.specs.Entry.{Entry}
use Rattle.pon_history.specs.Chapters.{Chapter}
use Rattle.pon_desk.specs.Settling.{IsEarlier, IsRightChapter, PortHistory, all_chapters, all_placed, placed_from, placed_in}
use Rattle.pon_desk.specs.declared.receipt.Placed.{Placed}
use Rattle.pon_desk.proofs.Elements.{get_either}
use Rattle.pon_desk.proofs.RightChapters.{absent, some_and}

-- the entries of a chapter from an index on
placed_there : (c s : ℕ) (es : List Entry) (k : ℕ) (d : Placed) → k < length (placed_from c s es) → ((get_or (placed_from c s es) k d).chapter ≡ c) × (s ≤ (get_or (placed_from c s es) k d).index)
placed_there c s [] k d below = absurd (omega (arith, below))
placed_there c s (e ∷ es) zero d below = (refl, omega arith)
placed_there c s (e ∷ es) (suc k) d below =
    let rest = placed_there c (suc s) es k d (omega (arith, below)) in
    (rest.0, omega (arith, rest.1))

placed_in_order : (c s : ℕ) (es : List Entry) → IsInOrder IsEarlier (placed_from c s es)
placed_in_order c s [] = tt
placed_in_order c s (e ∷ es) = (
  λ k d below. let there = placed_there c (suc s) es k d below in inr (sym there.0, omega (arith, there.1)),
  placed_in_order c (suc s) es,
)

-- chapters numbered from a number on
abbrev AreNumbered : ℕ → List Chapter → Type 0
AreNumbered n cs = (k : ℕ) (c : Chapter) → slice_get cs k ≡ Some c → c.number ≡ n + k

numbered_rest : (n : ℕ) (c : Chapter) (cs : List Chapter) → AreNumbered n (c ∷ cs) → AreNumbered (suc n) cs
numbered_rest n c cs are k d at = omega (arith, are (suc k) d at)

-- all entries after a chapter are of later chapters
all_from : (low n : ℕ) (cs : List Chapter) → low ≤ n → AreNumbered n cs → All (λ (p : Placed). low ≤ p.chapter) (flat_map placed_in cs)
all_from low n [] least are = λ k d below. absurd (omega (arith, below))
all_from low n (c ∷ cs) least are =
    let number : c.number ≡ n + 0 = are 0 c refl in
    All-append (λ (p : Placed). low ≤ p.chapter) (placed_in c) (flat_map placed_in cs)
    (λ k d below. omega (arith, number, least, (placed_there c.number 0 c.entries k d below).0))
    (all_from low (suc n) cs (omega (arith, least)) (numbered_rest n c cs are))

chapters_in_order : (n : ℕ) (cs : List Chapter) → AreNumbered n cs → IsInOrder IsEarlier (flat_map placed_in cs)
chapters_in_order n [] are = tt
chapters_in_order n (c ∷ cs) are =
    let number : c.number ≡ n + 0 = are 0 c refl in
    let rest = numbered_rest n c cs are in
    let later = all_from (suc n) (suc n) cs (omega arith) rest in
    in_order-append IsEarlier (placed_in c) (flat_map placed_in cs) (placed_in_order c.number 0 c.entries) (chapters_in_order (suc n) cs rest)
    (λ k d below j e below'. inl (omega (arith, number, (placed_there c.number 0 c.entries k d below).0, later j e below')))

module _ (h : PortHistory) (right : (k : ℕ) → IsRightChapter h k) where
  -- right chapters are as many as the number of the kept one
  pub as_many : length h.chapters ≡ h.kept.number
  as_many = elim (slice_get_cases h.chapters h.kept.number).1 [
    | inl x ↦ absurd (none-some x.0 (sym ((right h.kept.number).no_more (omega arith)) ∙ x.2))
    | inr p ↦ elim (cases_lt (length h.chapters) h.kept.number) [
      | inl fewer ↦ absurd (absent h (length h.chapters) (omega arith) fewer (right (length h.chapters)))
      | inr all ↦ omega (arith, p.0, all)
    ]
  ]

  numbered_returned : (k : ℕ) (c : Chapter) → slice_get h.chapters k ≡ Some c → c.number ≡ k
  numbered_returned k c at = some_and (slice_get h.chapters k) (λ d. d.number ≡ k) c at ((right k).there (omega (arith, as_many, slice_get_within h.chapters k c at)))

  all_numbered : AreNumbered 0 (all_chapters h)
  all_numbered k c at = elim (get_either h.chapters h.kept k c at) [
    | inl front ↦ omega (arith, numbered_returned k c front)
    | inr last ↦ omega (arith, last.0, as_many, ap (λ (d : Chapter). d.number) last.1)
  ]

  pub all_in_order : IsInOrder IsEarlier (all_placed h)
  all_in_order = chapters_in_order 0 (all_chapters h) all_numbered

  -- the entry of the smaller index has the earlier place
  pub earlier_place : (i j : ℕ) (p q : Placed) → i < j → slice_get (all_placed h) i ≡ Some p → slice_get (all_placed h) j ≡ Some q → IsEarlier p q
  earlier_place i j p q below at there =
      let first : get_or (all_placed h) i p ≡ p = get_or_from_slice_get (all_placed h) i p p at in
      let second : get_or (all_placed h) j p ≡ q = get_or_from_slice_get (all_placed h) j q p there in
      let between = in_order_at IsEarlier (all_placed h) all_in_order i j p below (slice_get_within (all_placed h) j q there) in
      subst (λ (x : Placed). IsEarlier p x) second (subst (λ (x : Placed). IsEarlier x (get_or (all_placed h) j p)) first between)
