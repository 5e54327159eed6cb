-- The codeword of a payload: `sealed` gives it, and there is no other.
use Rattle.std.proofs.Common.{◌≡◌, ℕ, zero, suc, ◌+◌, ◌*◌, ◌/◌, ◌%◌, ◌^◌, ◌<◌, ◌≤◌, refl, ap, sym, ◌∙◌, subst, arith, lit<, lit≤}
use Rattle.std.specs.Prelude.{bit_xor}
use Rattle.std.specs.Int.Bits.{xor_self, xor_zero_l, xor_zero_r, xor_shifted}
use Rattle.std.specs.Int.Count.{ones_in, ones, ones_step}
use Rattle.std.proofs.lemmas.Nat.{xor_block, xor_lt, ones_cat}
use Rattle.std.proofs.Math.Nat.{pow-suc}
use Rattle.pon_units.specs.Polynomial.{IsMultiple, remainder}
use Rattle.pon_units.proofs.PolynomialLaws.{HasDegree, multiple_xor, multiple_small, remainder_is, xor_back, xor_swap}
use Rattle.pon_hec.specs.HeaderCode.{generator, IsCodeword, with_parity, sealed}

pub generator_degree : HasDegree generator 12
generator_degree = record { low = lit≤ tt; high = lit< tt }

pub xor_same : (a b : ℕ) → bit_xor a b ≡ 0 → a ≡ b
xor_same a b e = sym (xor_zero_r a) ∙ ap (bit_xor a) (sym e) ∙ xor_back a b

-- the remainder is the only number below x^12 that differs from the polynomial by a multiple of the generator
pub remainder_only : (n p r : ℕ) → p < 2 ^ (12 + n) → r < 2 ^ 12 → IsMultiple generator (bit_xor p r) → remainder generator 12 n p ≡ r
remainder_only n p r lt low m =
    let f = remainder_is generator 12 n p generator_degree lt in
    let both : bit_xor (bit_xor p (remainder generator 12 n p)) (bit_xor p r) ≡ bit_xor (remainder generator 12 n p) r =
    xor_swap p (remainder generator 12 n p) p r ∙ ap (λ (x : ℕ). bit_xor x (bit_xor (remainder generator 12 n p) r)) (xor_self p) ∙ xor_zero_l (bit_xor (remainder generator 12 n p) r) in
    xor_same (remainder generator 12 n p) r
    (multiple_small generator 12 (bit_xor (remainder generator 12 n p) r) generator_degree
    (subst (IsMultiple generator) both (multiple_xor generator (bit_xor p (remainder generator 12 n p)) (bit_xor p r) f.1 m))
    (xor_lt 12 (remainder generator 12 n p) r f.0 low))

abbrev pub check : ℕ → ℕ
check m = remainder generator 12 51 (m * 2 ^ 12)

pub check_facts : (m : ℕ) → m < 2 ^ 51 → (check m < 2 ^ 12) × IsMultiple generator (bit_xor (m * 2 ^ 12) (check m))
check_facts m lt = remainder_is generator 12 51 (m * 2 ^ 12) generator_degree (omega (arith, lt))

pub body_is : (m : ℕ) → m < 2 ^ 51 → bit_xor (m * 2 ^ 12) (check m) ≡ m * 2 ^ 12 + check m
body_is m lt = xor_shifted m 12 (check m) (check_facts m lt).0

-- ---- parity

ones_within : (k n : ℕ) → n < 2 ^ k → ones_in k n ≡ ones n
unfolding ones_in ones
ones_within zero n lt = let e : n ≡ 0 = omega (arith, lt) in rw e refl
ones_within (suc k) n lt = ap (λ (x : ℕ). n % 2 + x) (ones_within k (n / 2) (half k n lt)) ∙ sym (ones_step n)
  where
    half : (k n : ℕ) → n < 2 ^ suc k → n / 2 < 2 ^ k
    half k n lt = let e : 2 ^ suc k ≡ 2 ^ k * 2 = rw pow-suc refl in omega (arith, lt, e)

pub ones_bit : (b : ℕ) → b < 2 → ones b ≡ b
unfolding ones ones_in
ones_bit zero lt = refl
ones_bit (suc zero) lt = refl
ones_bit (suc (suc b)) lt = absurd (omega (arith, lt))

pub ones_double : (n b : ℕ) → b < 2 → ones (2 * n + b) ≡ ones n + b
ones_double n b lt =
    let e : n * 2 ^ 1 + b ≡ 2 * n + b = omega arith in
    let cat = ones_cat 1 n b (omega (arith, lt)) in
    ap ones (sym e) ∙ cat ∙ ap (λ (x : ℕ). ones n + x) (ones_bit b lt)

pub with_parity_is : (body : ℕ) → body < 2 ^ 63 → with_parity body ≡ 2 * body + ones body % 2
unfolding with_parity
with_parity_is body lt = ap (λ (x : ℕ). 2 * body + x % 2) (ones_within 63 body lt)

-- ---- the sealed word is a codeword with that payload

pub sealed_is : (m : ℕ) → m < 2 ^ 51 → sealed m ≡ 2 * (m * 2 ^ 12 + check m) + ones (m * 2 ^ 12 + check m) % 2
unfolding sealed
sealed_is m lt = ap with_parity (body_is m lt) ∙ with_parity_is (m * 2 ^ 12 + check m) (omega (arith, lt, (check_facts m lt).0))

pub sealed_codeword : (limit m : ℕ) → m < 2 ^ 51 → m * 2 ^ 13 + 2 ^ 13 ≤ limit → IsCodeword limit (sealed m) × (sealed m / 2 ^ 13 ≡ m)
sealed_codeword limit m lt fits =
    let facts = check_facts m lt in
    let e = sealed_is m lt in
    let half : sealed m / 2 ≡ bit_xor (m * 2 ^ 12) (check m) = omega (arith, e, body_is m lt) in (
      record {
        below = omega (arith, e, facts.0, fits);
        multiple = rw half facts.1;
        even = rw (e, ones_double (m * 2 ^ 12 + check m) (ones (m * 2 ^ 12 + check m) % 2) (omega arith)) (omega arith);
      },
      omega (arith, e, facts.0),
    )

-- ---- each codeword is the sealed word of its payload

pub codeword_sealed : (limit c : ℕ) → limit ≤ 2 ^ 64 → IsCodeword limit c → c ≡ sealed (c / 2 ^ 13)
codeword_sealed limit c le h =
    let m : ℕ = c / 2 ^ 13 in
    let lt : c / 2 ^ 13 < 2 ^ 51 = omega (arith, h.below, le) in
    let facts = check_facts (c / 2 ^ 13) lt in
    let low : ℕ = c / 2 % 2 ^ 12 in
    let split : c / 2 ^ 13 * 2 ^ 12 + c / 2 % 2 ^ 12 ≡ c / 2 = omega arith in
    let sum : bit_xor (c / 2) (bit_xor (c / 2 ^ 13 * 2 ^ 12) (check (c / 2 ^ 13))) ≡ bit_xor (c / 2 % 2 ^ 12) (check (c / 2 ^ 13)) =
    ap (λ (x : ℕ). bit_xor x (bit_xor (c / 2 ^ 13 * 2 ^ 12) (check (c / 2 ^ 13)))) (sym split)
    ∙ ap (bit_xor (c / 2 ^ 13 * 2 ^ 12 + c / 2 % 2 ^ 12)) (body_is (c / 2 ^ 13) lt)
    ∙ xor_block 12 (c / 2 ^ 13) (c / 2 ^ 13) (c / 2 % 2 ^ 12) (check (c / 2 ^ 13)) (omega arith) facts.0
    ∙ ap (λ (x : ℕ). x * 2 ^ 12 + bit_xor (c / 2 % 2 ^ 12) (check (c / 2 ^ 13))) (xor_self (c / 2 ^ 13))
    ∙ omega arith in
    let none : bit_xor (c / 2 % 2 ^ 12) (check (c / 2 ^ 13)) ≡ 0 =
    multiple_small generator 12 (bit_xor (c / 2 % 2 ^ 12) (check (c / 2 ^ 13))) generator_degree
    (subst (IsMultiple generator) sum (multiple_xor generator (c / 2) (bit_xor (c / 2 ^ 13 * 2 ^ 12) (check (c / 2 ^ 13))) h.multiple facts.1))
    (xor_lt 12 (c / 2 % 2 ^ 12) (check (c / 2 ^ 13)) (omega arith) facts.0) in
    let same : c / 2 % 2 ^ 12 ≡ check (c / 2 ^ 13) = xor_same (c / 2 % 2 ^ 12) (check (c / 2 ^ 13)) none in
    let body : c / 2 ^ 13 * 2 ^ 12 + check (c / 2 ^ 13) ≡ c / 2 = omega (arith, same, split) in
    let parts : 2 * (c / 2) + c % 2 ≡ c = omega arith in
    let parity : ones (c / 2) + c % 2 ≡ ones c = sym (ones_double (c / 2) (c % 2) (omega arith)) ∙ ap ones parts in
    omega (arith, sealed_is (c / 2 ^ 13) lt, body, ap ones body, parity, h.even, parts)
