-- A word has at most one reading.
use Rattle.std.proofs.Common.{◌≡◌, ℕ, zero, suc, ◌+◌, ◌-◌, ◌*◌, ◌/◌, ◌%◌, ◌^◌, ◌<◌, ◌≤◌, true, List, [], ◌∷◌, length, inl, inr, refl, ap, sym, ◌∙◌, subst, arith, lit<}
use Rattle.std.specs.Prelude.{bit_xor}
use Rattle.std.specs.Int.Bits.{xor_self, xor_zero_l, xor_zero_r}
use Rattle.std.specs.Int.Count.{ones}
use Rattle.std.proofs.lemmas.Nat.{xor_lt, xor_shr, xor_block, pow_below}
use Rattle.std.proofs.lemmas.Bool.{and_parts, eqb-true, cases_order, cases_lt}
use Rattle.std.proofs.Math.Nat.{pow-suc}
use Rattle.pon_units.specs.Polynomial.{IsMultiple, remainder}
use Rattle.pon_units.proofs.PolynomialLaws.{multiple_xor, remainder_is, xor_back, xor_swap}
use Rattle.pon_hec.specs.HeaderCode.{generator, Reads}
use Rattle.pon_hec.proofs.HeaderLaws.{generator_degree, remainder_only, ones_double, xor_same}
use Rattle.pon_hec.proofs.Patterns.{two_places, ones_zero, ones_pow, ones_pows}
use Rattle.pon_hec.proofs.Syndromes.{rests, are_rests, rests_checked, table, places_at, row_back, all_back, found_again}

-- the remainder of an error pattern
abbrev pub rest_of : ℕ → ℕ
rest_of d = remainder generator 12 51 (d / 2)

-- ---- the table

row_found : (t : List ℕ) (i r j : ℕ) (xs : List ℕ) → row_back t i r j xs ≡ true → are_rests j xs ≡ true → length xs ≡ suc j → (k : ℕ) → k ≤ j → places_at t (bit_xor r (rest_of (2 ^ k))) ≡ i * 64 + k
unfolding row_back are_rests
row_found t i r j [] back rs l k le = absurd (omega (arith, l))
row_found t i r j (x ∷ xs) back rs l k le =
    let b = and_parts _ _ back in
    let a = and_parts _ _ rs in
    elim (cases_lt k j) [
      | inr ge ↦ (let e : k ≡ j = omega (arith, ge, le) in
          ap (λ (n : ℕ). places_at t (bit_xor r (rest_of (2 ^ n)))) e ∙ ap (λ (n : ℕ). places_at t (bit_xor r n)) (eqb-true _ _ a.0) ∙ eqb-true _ _ b.0 ∙ ap (λ (n : ℕ). i * 64 + n) (sym e))
      | inl lt ↦ row_found t i r (j - 1) xs b.1 a.1 (omega (arith, l, lt)) k (omega (arith, lt))
    ]

all_found : (t : List ℕ) (i : ℕ) (rs : List ℕ) → all_back t i rs ≡ true → are_rests i rs ≡ true → length rs ≡ suc i → (a b : ℕ) → b < a → a ≤ i → places_at t (bit_xor (rest_of (2 ^ a)) (rest_of (2 ^ b))) ≡ a * 64 + b
unfolding all_back are_rests
all_found t i [] back rs l a b lt le = absurd (omega (arith, l))
all_found t i (x ∷ xs) back rs l a b lt le =
    let p = and_parts _ _ back in
    let q = and_parts _ _ rs in
    elim (cases_lt a i) [
      | inr ge ↦ (let e : a ≡ i = omega (arith, ge, le) in
          ap (λ (n : ℕ). places_at t (bit_xor n (rest_of (2 ^ b)))) (ap (λ (n : ℕ). rest_of (2 ^ n)) e ∙ eqb-true _ _ q.0)
          ∙ row_found t i x (i - 1) xs p.0 q.1 (omega (arith, l, e, lt)) b (omega (arith, lt, e)) ∙ ap (λ (n : ℕ). n * 64 + b) (sym e))
      | inl less ↦ all_found t (i - 1) xs p.1 q.1 (omega (arith, l, less)) a b lt (omega (arith, less))
    ]

pub rests-length : length rests ≡ 64
unfolding rests
rests-length = refl

pub pair_found : (a b : ℕ) → b < a → a < 64 → places_at table (bit_xor (rest_of (2 ^ a)) (rest_of (2 ^ b))) ≡ a * 64 + b
pair_found a b lt le = all_found table 63 rests (and_parts _ _ found_again).0 rests_checked rests-length a b lt (omega (arith, le))

-- two bit errors have a remainder other than 0
pair_left : (a b : ℕ) → b < a → a < 64 → bit_xor (rest_of (2 ^ a)) (rest_of (2 ^ b)) ≡ 0 → ⊥
pair_left a b lt le e =
    let none : a * 64 + b ≡ 0 = sym (pair_found a b lt le) ∙ ap (places_at table) e ∙ eqb-true _ _ (and_parts _ _ found_again).1 in
    omega (arith, lt, none)

-- ---- the remainder is linear

half_of : (d : ℕ) → d < 2 ^ 64 → d / 2 < 2 ^ 63
half_of d lt = omega (arith, lt)

pub rest_xor : (d e : ℕ) → d < 2 ^ 64 → e < 2 ^ 64 → rest_of (bit_xor d e) ≡ bit_xor (rest_of d) (rest_of e)
rest_xor d e ld le =
    let fd = remainder_is generator 12 51 (d / 2) generator_degree (half_of d ld) in
    let fe = remainder_is generator 12 51 (e / 2) generator_degree (half_of e le) in
    let halves : bit_xor d e / 2 ≡ bit_xor (d / 2) (e / 2) = xor_shr d e 1 in
    remainder_only 51 (bit_xor d e / 2) (bit_xor (rest_of d) (rest_of e)) (half_of (bit_xor d e) (xor_lt 64 d e ld le)) (xor_lt 12 (rest_of d) (rest_of e) fd.0 fe.0)
    (subst (IsMultiple generator) (sym (xor_swap (d / 2) (e / 2) (rest_of d) (rest_of e)) ∙ ap (λ (n : ℕ). bit_xor n (bit_xor (rest_of d) (rest_of e))) (sym halves))
    (multiple_xor generator (bit_xor (d / 2) (rest_of d)) (bit_xor (e / 2) (rest_of e)) fd.1 fe.1))

pub rest_zero : rest_of 0 ≡ 0
unfolding remainder
rest_zero = refl

-- a multiple of the generator has the remainder 0
pub rest_none : (d : ℕ) → d < 2 ^ 64 → IsMultiple generator (d / 2) → rest_of d ≡ 0
rest_none d lt m = remainder_only 51 (d / 2) 0 (half_of d lt) (lit< tt) (subst (IsMultiple generator) (sym (xor_zero_r (d / 2))) m)

-- ---- parity

xor_bits : (x y : ℕ) → x < 2 → y < 2 → bit_xor x y % 2 ≡ (x + y) % 2
xor_bits zero zero lx ly = refl
xor_bits zero (suc zero) lx ly = refl
xor_bits (suc zero) zero lx ly = refl
xor_bits (suc zero) (suc zero) lx ly = refl
xor_bits (suc (suc x)) y lx ly = absurd (omega (arith, lx))
xor_bits zero (suc (suc y)) lx ly = absurd (omega (arith, ly))
xor_bits (suc zero) (suc (suc y)) lx ly = absurd (omega (arith, ly))

pub parity-xor : (k a b : ℕ) → a < 2 ^ k → b < 2 ^ k → ones (bit_xor a b) % 2 ≡ (ones a + ones b) % 2
parity-xor zero a b la lb =
    let ea : a ≡ 0 = omega (arith, la) in
    let eb : b ≡ 0 = omega (arith, lb) in
    rw (ea, eb, ones_zero) refl
parity-xor (suc k) a b la lb =
    let two : 2 ^ suc k ≡ 2 ^ k * 2 = rw pow-suc refl in
    let ea : a / 2 * 2 ^ 1 + a % 2 ≡ a = omega arith in
    let eb : b / 2 * 2 ^ 1 + b % 2 ≡ b = omega arith in
    let block : bit_xor a b ≡ bit_xor (a / 2) (b / 2) * 2 ^ 1 + bit_xor (a % 2) (b % 2) =
    ap (λ (n : ℕ). bit_xor n b) (sym ea) ∙ ap (bit_xor (a / 2 * 2 ^ 1 + a % 2)) (sym eb) ∙ xor_block 1 (a / 2) (b / 2) (a % 2) (b % 2) (omega arith) (omega arith) in
    let small : bit_xor (a % 2) (b % 2) < 2 = xor_lt 1 (a % 2) (b % 2) (omega arith) (omega arith) in
    let wa : ones (2 * (a / 2) + a % 2) ≡ ones (a / 2) + a % 2 = ones_double (a / 2) (a % 2) (omega arith) in
    let wb : ones (2 * (b / 2) + b % 2) ≡ ones (b / 2) + b % 2 = ones_double (b / 2) (b % 2) (omega arith) in
    let wx : ones (2 * bit_xor (a / 2) (b / 2) + bit_xor (a % 2) (b % 2)) ≡ ones (bit_xor (a / 2) (b / 2)) + bit_xor (a % 2) (b % 2) = ones_double (bit_xor (a / 2) (b / 2)) (bit_xor (a % 2) (b % 2)) small in
    let ca : 2 * (a / 2) + a % 2 ≡ a = omega arith in
    let cb : 2 * (b / 2) + b % 2 ≡ b = omega arith in
    let cx : 2 * bit_xor (a / 2) (b / 2) + bit_xor (a % 2) (b % 2) ≡ bit_xor a b = omega (arith, block) in
    omega (arith, sym (ap ones ca) ∙ wa, sym (ap ones cb) ∙ wb, sym (ap ones cx) ∙ wx, parity-xor k (a / 2) (b / 2) (omega (arith, la, two)) (omega (arith, lb, two)), xor_bits (a % 2) (b % 2) (omega arith) (omega arith))

-- ---- one error pattern

pub below_64 : (i : ℕ) → i < 64 → 2 ^ i < 2 ^ 64
below_64 i lt = pow_below i 64 lt

pub one_pattern : (d e : ℕ) → d < 2 ^ 64 → e < 2 ^ 64 → ones d ≤ 2 → ones e ≤ 2 → rest_of d ≡ rest_of e → ones d % 2 ≡ ones e % 2 → d ≡ e
one_pattern d e ld le fd fe rest parity =
    elim (two_places 64 d ld fd) [
      | inl d0 ↦ elim (two_places 64 e le fe) [
        | inl e0 ↦ d0 ∙ sym e0
        | inr (inl e1) ↦ absurd (omega (arith, parity, ap ones d0, ones_zero, ap ones e1.2, ones_pow e1.0))
        | inr (inr e2) ↦ absurd (pair_left e2.0 e2.1 e2.3 e2.2 (sym (rest_xor (2 ^ e2.0) (2 ^ e2.1) (below_64 e2.0 e2.2) (below_64 e2.1 (omega (arith, e2.2, e2.3)))) ∙ sym (ap rest_of e2.4) ∙ sym rest ∙ ap rest_of d0 ∙ rest_zero))
      ]
      | inr (inl d1) ↦ elim (two_places 64 e le fe) [
        | inl e0 ↦ absurd (omega (arith, parity, ap ones e0, ones_zero, ap ones d1.2, ones_pow d1.0))
        | inr (inl e1) ↦
            let same : rest_of (2 ^ d1.0) ≡ rest_of (2 ^ e1.0) = sym (ap rest_of d1.2) ∙ rest ∙ ap rest_of e1.2 in
            elim (cases_order d1.0 e1.0) [
              | inl eq ↦ d1.2 ∙ ap (λ (n : ℕ). 2 ^ n) eq ∙ sym e1.2
              | inr (inl lt) ↦ absurd (pair_left e1.0 d1.0 lt e1.1 (ap (bit_xor (rest_of (2 ^ e1.0))) same ∙ xor_self (rest_of (2 ^ e1.0))))
              | inr (inr gt) ↦ absurd (pair_left d1.0 e1.0 gt d1.1 (ap (bit_xor (rest_of (2 ^ d1.0))) (sym same) ∙ xor_self (rest_of (2 ^ d1.0))))
            ]
        | inr (inr e2) ↦ absurd (omega (arith, parity, ap ones d1.2, ones_pow d1.0, ap ones e2.4, ones_pows e2.0 e2.1 e2.3))
      ]
      | inr (inr d2) ↦ elim (two_places 64 e le fe) [
        | inl e0 ↦ absurd (pair_left d2.0 d2.1 d2.3 d2.2 (sym (rest_xor (2 ^ d2.0) (2 ^ d2.1) (below_64 d2.0 d2.2) (below_64 d2.1 (omega (arith, d2.2, d2.3)))) ∙ sym (ap rest_of d2.4) ∙ rest ∙ ap rest_of e0 ∙ rest_zero))
        | inr (inl e1) ↦ absurd (omega (arith, parity, ap ones e1.2, ones_pow e1.0, ap ones d2.4, ones_pows d2.0 d2.1 d2.3))
        | inr (inr e2) ↦
            let rd = rest_xor (2 ^ d2.0) (2 ^ d2.1) (below_64 d2.0 d2.2) (below_64 d2.1 (omega (arith, d2.2, d2.3))) in
            let re = rest_xor (2 ^ e2.0) (2 ^ e2.1) (below_64 e2.0 e2.2) (below_64 e2.1 (omega (arith, e2.2, e2.3))) in
            let same : bit_xor (rest_of (2 ^ d2.0)) (rest_of (2 ^ d2.1)) ≡ bit_xor (rest_of (2 ^ e2.0)) (rest_of (2 ^ e2.1)) = sym rd ∙ sym (ap rest_of d2.4) ∙ rest ∙ ap rest_of e2.4 ∙ re in
            let places : d2.0 * 64 + d2.1 ≡ e2.0 * 64 + e2.1 = sym (pair_found d2.0 d2.1 d2.3 d2.2) ∙ ap (places_at table) same ∙ pair_found e2.0 e2.1 e2.3 e2.2 in
            let high : d2.0 ≡ e2.0 = omega (arith, places, d2.2, d2.3, e2.2, e2.3) in
            let low : d2.1 ≡ e2.1 = omega (arith, places, high) in
            d2.4 ∙ ap (λ (n : ℕ). bit_xor (2 ^ n) (2 ^ d2.1)) high ∙ ap (λ (n : ℕ). bit_xor (2 ^ e2.0) (2 ^ n)) low ∙ sym e2.4
      ]
    ]

one_reading_64 : (w m k n l : ℕ) → w < 2 ^ 64 → Reads (2 ^ 64) w m k → Reads (2 ^ 64) w n l → (m ≡ n) × (k ≡ l)
one_reading_64 w m k n l lt r s =
    let d : ℕ = bit_xor w r.codeword in
    let join : bit_xor (bit_xor w r.codeword) (bit_xor w s.codeword) ≡ bit_xor r.codeword s.codeword =
    xor_swap w r.codeword w s.codeword ∙ ap (λ (x : ℕ). bit_xor x (bit_xor r.codeword s.codeword)) (xor_self w) ∙ xor_zero_l (bit_xor r.codeword s.codeword) in
    let ld = xor_lt 64 w r.codeword lt r.is_codeword.below in
    let le = xor_lt 64 w s.codeword lt s.is_codeword.below in
    let none : rest_of (bit_xor r.codeword s.codeword) ≡ 0 =
    rest_none (bit_xor r.codeword s.codeword) (xor_lt 64 r.codeword s.codeword r.is_codeword.below s.is_codeword.below)
    (subst (IsMultiple generator) (sym (xor_shr r.codeword s.codeword 1)) (multiple_xor generator (r.codeword / 2) (s.codeword / 2) r.is_codeword.multiple s.is_codeword.multiple)) in
    let rest : rest_of (bit_xor w r.codeword) ≡ rest_of (bit_xor w s.codeword) =
    xor_same (rest_of (bit_xor w r.codeword)) (rest_of (bit_xor w s.codeword)) (sym (rest_xor (bit_xor w r.codeword) (bit_xor w s.codeword) ld le) ∙ ap rest_of join ∙ none) in
    let pd = parity-xor 64 w r.codeword lt r.is_codeword.below in
    let pe = parity-xor 64 w s.codeword lt s.is_codeword.below in
    let same : bit_xor w r.codeword ≡ bit_xor w s.codeword =
    one_pattern (bit_xor w r.codeword) (bit_xor w s.codeword) ld le (omega (arith, r.differs, r.few)) (omega (arith, s.differs, s.few)) rest (omega (arith, pd, pe, r.is_codeword.even, s.is_codeword.even)) in
    let code : r.codeword ≡ s.codeword = sym (xor_back w r.codeword) ∙ ap (bit_xor w) same ∙ xor_back w s.codeword in
    (sym r.has_payload ∙ ap (λ (x : ℕ). x / 2 ^ 13) code ∙ s.has_payload, sym r.differs ∙ ap ones same ∙ s.differs)

widened : (limit w m k : ℕ) → limit ≤ 2 ^ 64 → Reads limit w m k → Reads (2 ^ 64) w m k
widened limit w m k le r = record {
  codeword = r.codeword;
  is_codeword = record { below = omega (arith, r.is_codeword.below, le); multiple = r.is_codeword.multiple; even = r.is_codeword.even };
  has_payload = r.has_payload;
  differs = r.differs;
  few = r.few;
}

pub one_reading : (limit w m k n l : ℕ) → limit ≤ 2 ^ 64 → w < limit → Reads limit w m k → Reads limit w n l → (m ≡ n) × (k ≡ l)
one_reading limit w m k n l le lt r s = one_reading_64 w m k n l (omega (arith, lt, le)) (widened limit w m k le r) (widened limit w n l le s)
