-- The table of the code: each entry is right, and no pair of bit positions lacks one.
use Rattle.std.proofs.Common.{◌≡◌, ℕ, zero, suc, ◌+◌, ◌-◌, ◌/◌, ◌%◌, ◌^◌, ◌<◌, ◌≤◌, Bool, true, false, ◌&&◌, ◌||◌, List, [], ◌∷◌, length, get_or, eqb, ltb, ◌⊎◌, inl, inr, refl, ap, sym, ◌∙◌, arith}
use Rattle.std.specs.Prelude.{bit_xor}
use Rattle.std.proofs.lemmas.Bool.{and_parts, eqb-true, ltb-true, cases_lt}
use Rattle.pon_hec.specs.declared.places.TheConstants.{PLACES}
use Rattle.pon_hec.proofs.Syndromes.{rests, are_rests, rests_checked, table, places_at}
use Rattle.pon_hec.proofs.Unique.{rest_of, rests-length}

-- ---- the remainders of single bits

rest_entry : (n : ℕ) (xs : List ℕ) → are_rests n xs ≡ true → length xs ≡ suc n → (i : ℕ) → i ≤ n → get_or xs (n - i) 0 ≡ rest_of (2 ^ i)
unfolding are_rests
rest_entry n [] rs l i le = absurd (omega (arith, l))
rest_entry n (x ∷ xs) rs l i le =
    let a = and_parts _ _ rs in
    elim (cases_lt i n) [
      | inr ge ↦ (let same : i ≡ n = omega (arith, ge, le) in
          let none : n - i ≡ 0 = omega (arith, ge) in
          ap (λ (k : ℕ). get_or (x ∷ xs) k 0) none ∙ sym (eqb-true _ _ a.0) ∙ ap (λ (k : ℕ). rest_of (2 ^ k)) (sym same))
      | inl lt ↦ (let next : n - i ≡ suc (n - 1 - i) = omega (arith, lt) in
          ap (λ (k : ℕ). get_or (x ∷ xs) k 0) next ∙ rest_entry (n - 1) xs a.1 (omega (arith, l, lt)) i (omega (arith, lt)))
    ]

rest_at_is : (i : ℕ) → i < 64 → get_or rests (63 - i) 0 ≡ rest_of (2 ^ i)
rest_at_is i lt = rest_entry 63 rests rests_checked rests-length i (omega (arith, lt))

-- ---- the entries

-- 0, or two bit positions, the higher one first, that have the remainder
unfoldable pub is_right : ℕ → ℕ → Bool
is_right s pair = eqb pair 0 || (ltb pair 4096 && (ltb (pair % 64) (pair / 64) && eqb (bit_xor (get_or rests (63 - pair / 64) 0) (get_or rests (63 - pair % 64) 0)) s))

unfoldable pub are_right : ℕ → List ℕ → Bool
are_right s [] = true
are_right s (x ∷ xs) = eqb x (places_at table s) && (is_right s x && are_right (s + 1) xs)

table_checked : are_right 0 PLACES ≡ true
unfolding are_right is_right rests table
table_checked = refl

entry : (from : ℕ) (xs : List ℕ) (k : ℕ) → are_right from xs ≡ true → k < length xs → (get_or xs k 0 ≡ places_at table (from + k)) × (is_right (from + k) (get_or xs k 0) ≡ true)
unfolding are_right
entry from [] k checked lt = absurd (omega (arith, lt))
entry from (x ∷ xs) zero checked lt =
    let p = and_parts _ _ checked in
    let q = and_parts _ _ p.1 in
    let e : from + 0 ≡ from = omega arith in
    rw e (eqb-true _ _ p.0, q.0)
entry from (x ∷ xs) (suc k) checked lt =
    let p = and_parts _ _ checked in
    let q = and_parts _ _ p.1 in
    let e : from + 1 + k ≡ from + suc k = omega arith in
    let shorter : k < length xs = omega (arith, lt) in
    rw e at (entry (from + 1) xs k q.1 shorter)

places-length : length PLACES ≡ 4096
places-length = refl

either : (x y : Bool) → (x || y) ≡ true → (x ≡ true) ⊎ (y ≡ true)
either true y e = inl refl
either false y e = inr e

-- an entry that is not 0 is a pair of bit positions that have the remainder
pub record IsPair (s pair : ℕ) : Type 0 where
  pub below : pair < 4096
  pub order : pair % 64 < pair / 64
  pub leave : bit_xor (rest_of (2 ^ (pair / 64))) (rest_of (2 ^ (pair % 64))) ≡ s

right_pair : (s pair : ℕ) → is_right s pair ≡ true → (pair ≡ 0) ⊎ IsPair s pair
unfolding is_right
right_pair s pair e = elim (either _ _ e) [
  | inl none ↦ inl (eqb-true _ _ none)
  | inr some ↦
      let p = and_parts _ _ some in
      let q = and_parts _ _ p.1 in
      let below : pair < 4096 = ltb-true _ _ p.0 in
      let order : pair % 64 < pair / 64 = ltb-true _ _ q.0 in
      let high : bit_xor (get_or rests (63 - pair / 64) 0) (get_or rests (63 - pair % 64) 0) ≡ s = eqb-true _ _ q.1 in
      inr (record {
        below = below;
        order = order;
        leave = ap (λ (n : ℕ). bit_xor n (rest_of (2 ^ (pair % 64)))) (sym (rest_at_is (pair / 64) (omega (arith, below))))
            ∙ ap (bit_xor (get_or rests (63 - pair / 64) 0)) (sym (rest_at_is (pair % 64) (omega arith))) ∙ high;
      })
]

pub entry_is : (k pair : ℕ) → k < 4096 → pair ≡ get_or PLACES k 0 → (pair ≡ places_at table k) × ((pair ≡ 0) ⊎ IsPair k pair)
entry_is k pair lt same =
    let e : 0 + k ≡ k = omega arith in
    let long : k < length PLACES = omega (arith, lt, places-length) in
    let p = entry 0 PLACES k table_checked long in
    let q = rw (e, ← same) at p in
    (q.0, right_pair k pair q.1)
