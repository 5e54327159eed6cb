-- Receipts compared with entries.
use Rattle.std.proofs.Common.{◌≡◌, ℕ, ◌+◌, ◌-◌, ◌<◌, ◌≤◌, Bool, true, List, [], ◌∷◌, ◌++◌, length, take, get_or, map, Some, inl, inr, sym, ap, subst, ◌∙◌, arith, below_more, eq-eqb}
use Rattle.std.specs.Prelude.{slice_get, option_map, ◌==◌}
use Rattle.std.proofs.lemmas.List.{length-take, length-take-le, length-map, length-append, take-take, take_more, map-append, append_assoc, nil_from_length, same_lists}
use Rattle.std.proofs.lemmas.List.Sums.{count_by_more_yes, count_by-le-length}
use Rattle.std.proofs.lemmas.Option.{get_or_from_slice_get, same_Some, slice_get-map, slice_get_cases, slice_get_within}
use Rattle.pon_desk.specs.Counts.{taken_of}
use Rattle.pon_desk.specs.Receipts.{Receipt}
use Rattle.pon_desk.specs.Settling.{IsEarlier, IsSettled, TellsUnsettled, IsFirstWithout, IsMiscounted, IsRightAt, IsRightChapter, IsRightReceipt, PortHistory, all_placed, posts_of}
use Rattle.pon_desk.specs.declared.receipt.Placed.{Placed}
use Rattle.pon_desk.specs.declared.unsettled.Unsettled.{Unsettled}
use Rattle.pon_desk.specs.declared.unsettled.Unsettled.TheVariants as fault
use Rattle.pon_desk.proofs.Elements.{get_after, get_in_front}
use Rattle.pon_desk.proofs.Places.{earlier_place}
use Rattle.pon_desk.proofs.SeatOrder.{less_is_earlier}

-- the last receipt of a seat names the number of those before it
pub last_of_seat : (rs : List Receipt) (left seat : ℕ) (r : Receipt) → 0 < left → left ≤ length rs → r ≡ get_or rs (left - 1) r → r.seat ≡ seat → r.nth ≡ posts_of r.seat (take (left - 1) rs) → r.nth + 1 ≡ posts_of seat (take left rs)
last_of_seat rs left seat r some fits at same nth =
    let p : Receipt → Bool = λ (x : Receipt). x.seat == seat in
    let back : (left - 1) + 1 ≡ left = omega (arith, some) in
    let yes : p (get_or rs (left - 1) r) ≡ true = eq-eqb (get_or rs (left - 1) r).seat seat (ap (λ (x : Receipt). x.seat) (sym at) ∙ same) in
    let more = count_by_more_yes p rs (left - 1) r (omega (arith, some, fits)) yes in
    ap (λ (n : ℕ). n + 1) (nth ∙ ap (λ (s : ℕ). posts_of s (take (left - 1) rs)) same) ∙ sym more ∙ ap (λ (n : ℕ). posts_of seat (take n rs)) back

pub few_of_seat : (rs : List Receipt) (n seat : ℕ) → posts_of seat (take n rs) ≤ n
few_of_seat rs n seat = omega (arith, count_by-le-length (λ (x : Receipt). x.seat == seat) (take n rs), length-take n rs)

module _ (entries : List Placed) (port : ℕ) (rs : List Receipt) where
  -- one more receipt is right
  pub one_more_right : (k : ℕ) (r : Receipt) → slice_get rs k ≡ Some r → IsRightReceipt entries port (take k rs) k r → ((j : ℕ) → j < k → IsRightAt entries port rs j) → (j : ℕ) → j < k + 1 → IsRightAt entries port rs j
  one_more_right k r at right so_far =
      let here : IsRightAt entries port rs k = λ s is. subst (λ (t : Receipt). IsRightReceipt entries port (take k rs) k t) (same_Some r s (sym at ∙ is)) right in
      below_more (IsRightAt entries port rs) k so_far here

  -- the first receipt that is not right
  pub first_wrong : (k : ℕ) (r : Receipt) → slice_get rs k ≡ Some r → (IsRightReceipt entries port (take k rs) k r → ⊥) → ((j : ℕ) → j < k → IsRightAt entries port rs j) → IsFirstWithout (IsRightAt entries port rs) k
  first_wrong k r at wrong so_far = record { earlier = so_far; wrong = λ right. wrong (right r at) }

  -- there is none past the last
  pub all_right : ((j : ℕ) → j < length rs → IsRightAt entries port rs j) → (j : ℕ) → IsRightAt entries port rs j
  all_right so_far j r is = so_far j (slice_get_within rs j r is) r is

  -- the receipts so far name the number of earlier receipts of their seats
  pub in_turn : (n : ℕ) → ((j : ℕ) → j < n → IsRightAt entries port rs j) → (k : ℕ) (r : Receipt) → slice_get (take n rs) k ≡ Some r → r.nth ≡ posts_of r.seat (take k (take n rs))
  in_turn n so_far k r is =
      let front = get_in_front rs n k r is in
      let right = so_far k front.1 r front.0 in
      right.nth ∙ ap (posts_of r.seat) (sym (take-take k n rs (omega (arith, front.1))))

  -- the next entry is passed with its receipt
  pub more_passed : (left next : List Placed) (k : ℕ) (r : Receipt) → k < length rs → r ≡ get_or rs k r → entries ≡ map (λ (x : Receipt). x.placed) (take k rs) ++ left → left ≡ r.placed ∷ next → entries ≡ map (λ (x : Receipt). x.placed) (take (k + 1) rs) ++ next
  more_passed left next k r below at so_far here =
      let placed : Receipt → Placed = λ (x : Receipt). x.placed in
      let more : take (k + 1) rs ≡ take k rs ++ r ∷ [] = take_more rs k r below ∙ ap (λ (x : Receipt). take k rs ++ x ∷ []) (sym at) in
      so_far ∙ ap (λ (l : List Placed). map placed (take k rs) ++ l) here ∙ sym (append_assoc (map placed (take k rs)) (placed r ∷ []) next) ∙ ap (λ (l : List Placed). l ++ next) (sym (map-append placed (take k rs) (r ∷ []))) ∙ ap (λ (l : List Receipt). map placed l ++ next) (sym more)

  -- the entry of a receipt is the first that is not passed
  pub entry_here : (left : List Placed) (k : ℕ) → k < length rs → entries ≡ map (λ (x : Receipt). x.placed) (take k rs) ++ left → slice_get entries k ≡ slice_get left 0
  entry_here left k below so_far =
      let placed : Receipt → Placed = λ (x : Receipt). x.placed in
      let long : length (map placed (take k rs)) ≡ k = length-map (take k rs) placed ∙ length-take-le k rs (omega (arith, below)) in
      ap (λ (l : List Placed). slice_get l k) so_far ∙ ap (λ (n : ℕ). slice_get (map placed (take k rs) ++ left) n) (sym long) ∙ get_after (map placed (take k rs)) left

-- entries are left without receipts
pub miscounted : (h : PortHistory) (port : ℕ) (rs : List Receipt) (entries left : List Placed) → entries ≡ all_placed h → ((k : ℕ) → IsRightChapter h k) → ((k : ℕ) → IsRightAt entries port rs k) → entries ≡ map (λ (x : Receipt). x.placed) rs ++ left → (left ≡ [] → ⊥) → IsMiscounted h port rs
miscounted h port rs entries left all chapters each passed more =
    let placed : Receipt → Placed = λ (x : Receipt). x.placed in
    let P : List Placed → Type 0 = λ es. (k : ℕ) → IsRightAt es port rs k in
    record {
      chapters = chapters;
      each = subst P all each;
      wrong = λ count. more (nil_from_length left (omega (arith, count.entries, ap (λ (l : List Placed). length l) (sym all ∙ passed), length-append (map placed rs) left, length-map rs placed)));
    }

-- the receipts are not as many as the port took entries
pub taken_otherwise : (h : PortHistory) (port : ℕ) (rs : List Receipt) (entries : List Placed) → entries ≡ all_placed h → ((k : ℕ) → IsRightChapter h k) → ((k : ℕ) → IsRightAt entries port rs k) → (length rs ≡ taken_of h.kept → ⊥) → IsMiscounted h port rs
taken_otherwise h port rs entries all chapters each other =
    let P : List Placed → Type 0 = λ es. (k : ℕ) → IsRightAt es port rs k in
    record { chapters = chapters; each = subst P all each; wrong = λ count. other count.taken }

-- no entry is left
pub settled_at_end : (h : PortHistory) (port : ℕ) (rs : List Receipt) (entries left : List Placed) → entries ≡ all_placed h → ((k : ℕ) → IsRightChapter h k) → ((k : ℕ) → IsRightAt entries port rs k) → entries ≡ map (λ (x : Receipt). x.placed) rs ++ left → left ≡ []
    → length rs ≡ taken_of h.kept → IsSettled h port rs
settled_at_end h port rs entries left all chapters each passed none taken =
    let placed : Receipt → Placed = λ (x : Receipt). x.placed in
    let P : List Placed → Type 0 = λ es. (k : ℕ) → IsRightAt es port rs k in
    let size : List Placed → ℕ = λ (l : List Placed). length l in
    let count : length rs ≡ length (all_placed h) = omega (arith, ap size (sym all ∙ passed), length-append (map placed rs) left, length-map rs placed, ap size none) in
    record {
      chapters = chapters;
      each = subst P all each;
      count = record { entries = count; taken = taken };
    }

-- the receipts of a settled port are those of all its entries
pub settled_entries : (h : PortHistory) (port : ℕ) (rs : List Receipt) → IsSettled h port rs → map (λ (x : Receipt). x.placed) rs ≡ all_placed h
settled_entries h port rs s =
    let placed : Receipt → Placed = λ (x : Receipt). x.placed in
    same_lists (map placed rs) (all_placed h) (length-map rs placed ∙ s.count.entries)
    (λ k d below.
    elim (slice_get_cases rs k).1 [
      | inl x ↦ get_or_from_slice_get (map placed rs) k (placed x.0) d (slice_get-map placed rs k ∙ ap (option_map placed) x.2) ∙ sym (get_or_from_slice_get (all_placed h) k (placed x.0) d (s.each k x.0 x.2).has_entry)
      | inr p ↦ absurd (omega (arith, below, p.0, length-map rs placed))
    ])

pub no_fault : (h : PortHistory) (port : ℕ) (rs : List Receipt) (why : Unsettled) → IsSettled h port rs → TellsUnsettled h port rs why → ⊥
no_fault h port rs (fault.Chapter k) s t = t.wrong (s.chapters k)
no_fault h port rs (fault.Receipt k) s t = t.first.wrong (s.each k)
no_fault h port rs fault.Count s t = t.wrong s.count

-- of two receipts of a seat, the one with the smaller number has the earlier place
pub earlier_of_seat : (h : PortHistory) (port : ℕ) (rs : List Receipt) → IsSettled h port rs → (i j : ℕ) (r s : Receipt) → slice_get rs i ≡ Some r → slice_get rs j ≡ Some s → r.seat ≡ s.seat → r.nth < s.nth → IsEarlier r.placed s.placed
earlier_of_seat h port rs settled i j r s at there same less =
    let below = less_is_earlier rs (λ k x is. (settled.each k x is).nth) i j r s at there same less in
    earlier_place h settled.chapters i j r.placed s.placed below (settled.each i r at).has_entry (settled.each j s there).has_entry
