-- Numbers with at most two ones, and words that differ in the bits of its ones.
use Rattle.std.proofs.Common.{◌≡◌, ℕ, zero, suc, ◌+◌, ◌-◌, ◌*◌, ◌^◌, ◌<◌, ◌≤◌, ◌⊎◌, inl, inr, refl, ap, sym, ◌∙◌, arith}
use Rattle.std.specs.Prelude.{bit_xor}
use Rattle.std.specs.Int.Bits.{xor_shifted}
use Rattle.std.specs.Int.Count.{ones_in, ones}
use Rattle.std.proofs.lemmas.Nat.{ones_cat, zero_from_ones, pow_pos, pow_below}
use Rattle.std.proofs.lemmas.Bool.{cases_lt}
use Rattle.std.proofs.Math.Nat.{pow-suc}

pub ones_zero : ones 0 ≡ 0
unfolding ones ones_in
ones_zero = refl

ones_one : ones 1 ≡ 1
unfolding ones ones_in
ones_one = refl

ones_top : (n r : ℕ) → r < 2 ^ n → ones (2 ^ n + r) ≡ 1 + ones r
ones_top n r lt = let e : 1 * 2 ^ n + r ≡ 2 ^ n + r = omega arith in ap ones (sym e) ∙ ones_cat n 1 r lt ∙ ap (λ (x : ℕ). x + ones r) ones_one

pub ones_pow : (n : ℕ) → ones (2 ^ n) ≡ 1
ones_pow n = let e : 2 ^ n + 0 ≡ 2 ^ n = omega arith in ap ones (sym e) ∙ ones_top n 0 (pow_pos n) ∙ ap (λ (x : ℕ). 1 + x) ones_zero

-- the number with two ones at different positions
pub xor_pows : (i j : ℕ) → j < i → bit_xor (2 ^ i) (2 ^ j) ≡ 2 ^ i + 2 ^ j
xor_pows i j lt = let e : 1 * 2 ^ i ≡ 2 ^ i = omega arith in rw e at (xor_shifted 1 i (2 ^ j) (pow_below j i lt))

pub ones_pows : (i j : ℕ) → j < i → ones (bit_xor (2 ^ i) (2 ^ j)) ≡ 2
ones_pows i j lt = ap ones (xor_pows i j lt) ∙ ones_top i (2 ^ j) (pow_below j i lt) ∙ ap (λ (x : ℕ). 1 + x) (ones_pow j)

-- a number below 2^n is below 2^(n-1), or has a top bit
top_split : (n d : ℕ) → d < 2 ^ suc n → (d < 2 ^ n) ⊎ ((r : ℕ) × (r < 2 ^ n) × (d ≡ 2 ^ n + r))
top_split n d lt =
    let two : 2 ^ suc n ≡ 2 ^ n * 2 = rw pow-suc refl in
    elim (cases_lt d (2 ^ n)) [
      | inl low ↦ inl low
      | inr high ↦ inr (d - 2 ^ n, omega (arith, lt, two, high), omega (arith, high))
    ]

-- a number with at most one 1 is 0 or a power of 2
pub one_place : (n d : ℕ) → d < 2 ^ n → ones d ≤ 1 → (d ≡ 0) ⊎ ((i : ℕ) × (i < n) × (d ≡ 2 ^ i))
one_place zero d lt few = inl (omega (arith, lt))
one_place (suc n) d lt few = elim (top_split n d lt) [
  | inl low ↦ elim (one_place n d low few) [
    | inl none ↦ inl none
    | inr at ↦ inr (at.0, omega (arith, at.1), at.2)
  ]
  | inr top ↦
      let rest : top.0 ≡ 0 = zero_from_ones top.0 (omega (arith, ap ones top.2, ones_top n top.0 top.1, few)) in
      inr (n, omega arith, omega (arith, top.2, rest))
]

-- a number with at most two ones is 0, a power of 2 or the sum of two
pub two_places : (n d : ℕ) → d < 2 ^ n → ones d ≤ 2 → (d ≡ 0) ⊎ (((i : ℕ) × (i < n) × (d ≡ 2 ^ i)) ⊎ ((i j : ℕ) × (i < n) × (j < i) × (d ≡ bit_xor (2 ^ i) (2 ^ j))))
two_places zero d lt few = inl (omega (arith, lt))
two_places (suc n) d lt few = elim (top_split n d lt) [
  | inl low ↦ elim (two_places n d low few) [
    | inl none ↦ inl none
    | inr (inl at) ↦ inr (inl (at.0, omega (arith, at.1), at.2))
    | inr (inr at) ↦ inr (inr (at.0, at.1, omega (arith, at.2), at.3, at.4))
  ]
  | inr top ↦ elim (one_place n top.0 top.1 (omega (arith, ap ones top.2, ones_top n top.0 top.1, few))) [
    | inl none ↦ inr (inl (n, omega arith, omega (arith, top.2, none)))
    | inr at ↦ inr (inr (n, at.0, omega arith, at.1, omega (arith, top.2, at.2, xor_pows n at.0 at.1)))
  ]
]
