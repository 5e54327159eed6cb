-- Items sorted by rounded parts are in the order of cap over weight.
use Rattle.std.proofs.Common.{◌≡◌, ℕ, ◌+◌, ◌*◌, ◌/◌, ◌<◌, ◌≤◌, Bool, true, false, List, length, get_or, ap, sym, ◌∙◌, inl, inr, arith}
use Rattle.std.specs.Prelude.{All, bit_and}
use Rattle.std.specs.List.Sorted.{IsPermutation, IsNonDecreasingBy}
use Rattle.std.proofs.lemmas.Bool.{cases_lt}
use Rattle.std.proofs.lemmas.List.{get_or_default}
use Rattle.std.proofs.lemmas.List.Sorted.{All-permutation, Contains-permutation}
use Rattle.std.proofs.lemmas.Nat.{and_mask}
use Rattle.std.proofs.Math.Nat.{mul-le-mul_left, mul-lt-mul_of_pos_left}
use Rattle.pon_cert.specs.declared.problem.TheConstants.{MAX_ITEMS}
use Rattle.pon_units.specs.declared.limits.TheConstants.{LINE_RATE}
use Rattle.pon_cert.specs.declared.problem.Item.{Item}
use Rattle.pon_cert.specs.Problem.{IsItem}
use Rattle.pon_fill.specs.declared.rest.Rest.{Rest}
use Rattle.pon_fill.specs.Filling.{IsFilled}
use Rattle.pon_fill.specs.Order.{IsOrder}
use Rattle.pon_fill.proofs.Filling.{higher}

-- the level that meets a cap, in parts, rounded down
abbrev pub parts : Item → ℕ
parts item = item.cap * 6191736422400 / item.weight

-- if a has at most as many parts as b, its level is at most that of b: different levels differ by at least one part
no_lower : (ca wa cb wb qa qb : ℕ) → 0 < wa → 0 < wb → wa ≤ LINE_RATE → wb ≤ LINE_RATE → ca * 6191736422400 < (qa + 1) * wa → qb * wb ≤ cb * 6191736422400 → qa ≤ qb → ca * wb ≤ cb * wa
no_lower ca wa cb wb qa qb pa pb la lb ha hb le = elim (cases_lt (cb * wa) (ca * wb)) [
  | inr ge ↦ ge
  | inl lt ↦
      let small : wa * wb ≤ 6191736422400 = omega (arith, mul-le-mul_left wa lb, la) in
      let below = mul-lt-mul_of_pos_left ha pb in
      let above = mul-le-mul_left wa hb in
      let more = mul-le-mul_left (wa * wb) le in
      absurd (omega (arith, small, below, above, more, lt))
]

rises : (a b : Item) → IsItem a → IsItem b → parts a ≤ parts b → a.cap * b.weight ≤ b.cap * a.weight
rises a b ia ib le =
    let pa : 0 < a.weight = ia.has_weight in
    let pb : 0 < b.weight = ib.has_weight in
    no_lower a.cap a.weight b.cap b.weight (parts a) (parts b) pa pb ia.weight_range ib.weight_range (omega arith) (omega arith) le

pub in_order : (items : List Item) (keys xs ys : List ℕ) → All IsItem items → length items ≤ MAX_ITEMS → length xs ≡ length items → length ys ≡ length xs
    → ((k : ℕ) → k < length items → get_or xs k 0 ≡ k)
    → ((k : ℕ) (d : Item) → k < length items → get_or keys k 0 ≡ parts (get_or items k d))
    → IsPermutation xs ys → IsNonDecreasingBy (λ i. get_or keys (bit_and i 511) 0) ys → IsOrder items ys
in_order items keys xs ys each count long same numbers parts_of perm up =
    let numbered : (k d : ℕ) → k < length xs → get_or xs k d ≡ k = λ k d lt. get_or_default xs k d 0 lt ∙ numbers k (omega (arith, lt, long)) in
    let within : (k d : ℕ) → k < length ys → get_or ys k d < length items =
    All-permutation (λ i. i < length items) xs ys perm (λ k d lt. omega (arith, numbered k d lt, lt, long)) in
    record {
      below = λ k lt. within k 0 lt;
      each = λ i lt.
          let inside : i < length xs = omega (arith, lt, long) in
          let at = Contains-permutation xs ys i perm (i, inside, numbered i i inside) in
          (at.0, at.1, get_or_default ys at.0 0 i at.1 ∙ at.2);
      rising = λ j k d le ltk.
          let ltj : j < length ys = omega (arith, le, ltk) in
          let bj = within j 0 ltj in
          let bk = within k 0 ltk in
          rises (get_or items (get_or ys j 0) d) (get_or items (get_or ys k 0) d) (each (get_or ys j 0) d bj) (each (get_or ys k 0) d bk)
          (omega (arith, up j k 0 le ltk, key (get_or ys j 0) d bj, key (get_or ys k 0) d bk));
    }
  where
    key : (i : ℕ) (d : Item) → i < length items → get_or keys (bit_and i 511) 0 ≡ parts (get_or items i d)
    key i d lt = let e : bit_and i 511 ≡ i = omega (arith, and_mask i 9, lt, count) in ap (λ (n : ℕ). get_or keys n 0) e ∙ parts_of i d lt

-- the first j items of the order are saturated
abbrev pub IsWalked : List ℕ → ℕ → List Bool → Type 0
IsWalked numbers j flags = (k : ℕ) → k < j → k < length numbers → get_or flags (get_or numbers k 0) false ≡ true

-- a cap that is above the level is above it for each later item of the order
later : (r : Rest) (a b : Item) → 0 < b.weight → a.weight * r.surplus < a.cap * r.weight → a.cap * b.weight ≤ b.cap * a.weight → b.weight * r.surplus < b.cap * r.weight
later r a b hb out le = elim (cases_lt (b.weight * r.surplus) (b.cap * r.weight)) [
  | inl lt ↦ lt
  | inr ge ↦ absurd (omega (arith, out, higher b.cap b.weight r.surplus r.weight a.cap a.weight (λ none. absurd (omega (arith, none, hb))) (omega (arith, ge)) (omega (arith, le))))
]

pub filled_in_order : (items : List Item) (numbers : List ℕ) (j : ℕ) (r : Rest) (flags : List Bool) → All IsItem items → IsOrder items numbers → IsWalked numbers j flags
    → (j < length numbers → (d : Item) → (get_or items (get_or numbers j 0) d).weight * r.surplus < (get_or items (get_or numbers j 0) d).cap * r.weight) → IsFilled items r flags
filled_in_order items numbers j r flags each o w above i d lt out =
    let at = o.each i lt in
    elim (cases_lt at.0 j) [
      | inl less ↦ (let flag : true ≡ false = sym (w at.0 less at.1) ∙ ap (λ n. get_or flags n false) at.2 ∙ out in cc)
      | inr ge ↦ (let first : j < length numbers = omega (arith, ge, at.1) in
          later r (get_or items (get_or numbers j 0) d) (get_or items i d) (each i d lt).has_weight (above first d) (rw at.2 at (o.rising j at.0 d ge at.1)))
    ]
