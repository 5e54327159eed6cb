-- Division by the generator: the remainder of each byte of a payload, and their sum.
use Rattle.std.proofs.Common.{◌≡◌, ℕ, zero, suc, ◌+◌, ◌-◌, ◌*◌, ◌/◌, ◌%◌, ◌^◌, ◌<◌, ◌≤◌, Bool, true, ◌&&◌, List, [], ◌∷◌, length, get_or, eqb, refl, ap, sym, ◌∙◌, subst, arith, lit<}
use Rattle.std.specs.Prelude.{bit_xor}
use Rattle.std.specs.Int.Bits.{xor_shifted}
use Rattle.std.proofs.lemmas.Nat.{xor_comm, xor_block, xor_lt, pow_pos, pow-add, mod_below, mod_low, shl_below}
use Rattle.std.proofs.Math.Nat.{pow-le-pow_right}
use lib.Arith.{mod-mul}
use Rattle.std.proofs.lemmas.Bool.{and_parts, eqb-true}
use Rattle.pon_units.specs.Polynomial.{IsMultiple, remainder}
use Rattle.pon_units.proofs.PolynomialLaws.{multiple_xor, multiple_zero, remainder_is, xor_swap}
use Rattle.pon_hec.specs.HeaderCode.{generator}
use Rattle.pon_hec.specs.declared.table.TheConstants.{REMAINDERS}
use Rattle.pon_hec.proofs.HeaderLaws.{generator_degree, remainder_only}

-- ---- the table

-- each number of the list is the remainder of its byte at its position, times x^12
unfoldable pub are_left : ℕ → List ℕ → Bool
are_left n [] = true
are_left n (r ∷ rs) = eqb (remainder generator 12 56 (n % 256 * 2 ^ (8 * (n / 256)) * 2 ^ 12)) r && are_left (n + 1) rs

table_checked : are_left 0 REMAINDERS ≡ true
unfolding are_left remainder
table_checked = refl

entry : (from : ℕ) (rs : List ℕ) (k : ℕ) → are_left from rs ≡ true → k < length rs → get_or rs k 0 ≡ remainder generator 12 56 ((from + k) % 256 * 2 ^ (8 * ((from + k) / 256)) * 2 ^ 12)
unfolding are_left
entry from [] k checked lt = absurd (omega (arith, lt))
entry from (r ∷ rs) zero checked lt =
    let e : from + 0 ≡ from = omega arith in
    let here : remainder generator 12 56 (from % 256 * 2 ^ (8 * (from / 256)) * 2 ^ 12) ≡ r = eqb-true _ _ (and_parts _ _ checked).0 in
    rw e (sym here)
entry from (r ∷ rs) (suc k) checked lt =
    let e : from + 1 + k ≡ from + suc k = omega arith in
    entry (from + 1) rs k (and_parts _ _ checked).1 (omega (arith, lt)) ∙ ap (λ (n : ℕ). remainder generator 12 56 (n % 256 * 2 ^ (8 * (n / 256)) * 2 ^ 12)) e

pub table_entry : (place byte at : ℕ) → place < 7 → byte < 256 → at ≡ byte → get_or REMAINDERS (place * 256 + at) 0 ≡ remainder generator 12 56 (byte * 2 ^ (8 * place) * 2 ^ 12)
table_entry place byte at low small is =
    let b : (0 + (place * 256 + byte)) % 256 ≡ byte = omega (arith, small) in
    let p : (0 + (place * 256 + byte)) / 256 ≡ place = omega (arith, small) in
    let inside : place * 256 + byte < 1792 = omega (arith, low, small) in
    ap (λ (x : ℕ). get_or REMAINDERS (place * 256 + x) 0) is ∙ entry 0 REMAINDERS (place * 256 + byte) table_checked inside ∙ ap (λ (x : ℕ). remainder generator 12 56 (x * 2 ^ (8 * ((0 + (place * 256 + byte)) / 256)) * 2 ^ 12)) b ∙ ap (λ (y : ℕ). remainder generator 12 56 (byte * 2 ^ (8 * y) * 2 ^ 12)) p

-- ---- sums and products by x

xor_times : (n a b : ℕ) → bit_xor a b * 2 ^ n ≡ bit_xor (a * 2 ^ n) (b * 2 ^ n)
xor_times n a b =
    let l : a * 2 ^ n + 0 ≡ a * 2 ^ n = omega arith in
    let r : b * 2 ^ n + 0 ≡ b * 2 ^ n = omega arith in
    let whole : bit_xor (a * 2 ^ n) (b * 2 ^ n) ≡ bit_xor a b * 2 ^ n + bit_xor 0 0 = rw (← l, ← r) (xor_block n a b 0 0 (pow_pos n) (pow_pos n)) in
    sym (whole ∙ (omega arith))

-- ---- the bytes of a payload

-- the lower `n` bits, as a number, have the remainder `rest`
pub record Leaves (payload n rest : ℕ) : Type 0 where
  pub below : rest < 2 ^ 12
  pub multiple : IsMultiple generator (bit_xor (payload % 2 ^ n * 2 ^ 12) rest)

pub leaves_none : (payload n : ℕ) → Leaves payload (8 * (n - (n - 0))) 0
leaves_none payload n =
    let none : 8 * (n - (n - 0)) ≡ 0 = omega arith in
    let whole : payload % 2 ^ 0 * 2 ^ 12 ≡ 0 = omega arith in
    rw none (record { below = lit< tt; multiple = subst (λ (m : ℕ). IsMultiple generator (bit_xor m 0)) (sym whole) (multiple_zero generator) })

-- one more byte above the lower bits
one_more : (payload n : ℕ) → bit_xor (payload % 2 ^ n * 2 ^ 12) (payload / 2 ^ n % 2 ^ 8 * 2 ^ n * 2 ^ 12) ≡ payload % 2 ^ (8 + n) * 2 ^ 12
one_more payload n =
    sym (xor_times 12 (payload % 2 ^ n) (payload / 2 ^ n % 2 ^ 8 * 2 ^ n))
    ∙ ap (λ (x : ℕ). x * 2 ^ 12) (xor_comm (payload % 2 ^ n) (payload / 2 ^ n % 2 ^ 8 * 2 ^ n) ∙ xor_shifted (payload / 2 ^ n % 2 ^ 8) n (payload % 2 ^ n) (mod_below payload (2 ^ n) (pow_pos n))
    ∙ sym (mod-mul payload (pow_pos 8) (pow_pos n)) ∙ ap (λ (m : ℕ). payload % m) (sym (pow-add 2 8 n)))

step : (payload n rest byte left : ℕ) → n ≤ 48 → Leaves payload n rest → byte ≡ payload / 2 ^ n % 2 ^ 8 → left ≡ remainder generator 12 56 (byte * 2 ^ n * 2 ^ 12) → Leaves payload (8 + n) (bit_xor rest left)
step payload n rest byte left le h b e =
    let small : byte < 2 ^ 8 = omega (arith, b) in
    let high : byte * 2 ^ n * 2 ^ 12 < 2 ^ (8 + n + 12) = shl_below (byte * 2 ^ n) (8 + n) 12 (shl_below byte 8 n small) in
    let f = remainder_is generator 12 56 (byte * 2 ^ n * 2 ^ 12) generator_degree (within (byte * 2 ^ n * 2 ^ 12) n le high) in
    let both = multiple_xor generator (bit_xor (payload % 2 ^ n * 2 ^ 12) rest) (bit_xor (byte * 2 ^ n * 2 ^ 12) (remainder generator 12 56 (byte * 2 ^ n * 2 ^ 12))) h.multiple f.1 in
    let sum : bit_xor (payload % 2 ^ n * 2 ^ 12) (byte * 2 ^ n * 2 ^ 12) ≡ payload % 2 ^ (8 + n) * 2 ^ 12 = rw b (one_more payload n) in
    rw e (record {
      below = xor_lt 12 rest (remainder generator 12 56 (byte * 2 ^ n * 2 ^ 12)) h.below f.0;
      multiple = subst (IsMultiple generator)
          (xor_swap (payload % 2 ^ n * 2 ^ 12) rest (byte * 2 ^ n * 2 ^ 12) (remainder generator 12 56 (byte * 2 ^ n * 2 ^ 12)) ∙ ap (λ (m : ℕ). bit_xor m (bit_xor rest (remainder generator 12 56 (byte * 2 ^ n * 2 ^ 12)))) sum)
          both;
    })
  where
    within : (p n : ℕ) → n ≤ 48 → p < 2 ^ (8 + n + 12) → p < 2 ^ (12 + 56)
    within p n le lt =
        let more : 8 + n + 12 ≤ 12 + 56 = omega (arith, le) in
        let wider : 2 ^ (8 + n + 12) ≤ 2 ^ (12 + 56) = pow-le-pow_right (omega arith) more in
        omega (arith, lt, wider)

pub leaves_next : (payload n k rest byte left : ℕ) → k < n → n ≤ 7 → Leaves payload (8 * (n - (n - k))) rest → byte ≡ payload / 2 ^ (8 * k) % 2 ^ 8 → left ≡ remainder generator 12 56 (byte * 2 ^ (8 * k) * 2 ^ 12)
    → Leaves payload (8 * (n - (n - (k + 1)))) (bit_xor rest left)
leaves_next payload n k rest byte left lt most h b e =
    let here : 8 * (n - (n - k)) ≡ 8 * k = omega (arith, lt) in
    let next : 8 * (n - (n - (k + 1))) ≡ 8 + 8 * k = omega (arith, lt) in
    rw next (step payload (8 * k) rest byte left (omega (arith, lt, most)) (subst (λ (m : ℕ). Leaves payload m rest) here h) b e)

pub leaves_all : (payload n k rest : ℕ) → payload < 2 ^ 51 → payload < 2 ^ (8 * n) → n ≤ k → Leaves payload (8 * (n - (n - k))) rest → rest ≡ remainder generator 12 51 (payload * 2 ^ 12)
leaves_all payload n k rest lt fits le h =
    let end : 8 * (n - (n - k)) ≡ 8 * n = omega (arith, le) in
    let whole : payload % 2 ^ (8 * (n - (n - k))) ≡ payload = rw end (ap (λ (m : ℕ). m % 2 ^ (8 * n)) (omega arith) ∙ mod_low 0 (8 * n) payload fits) in
    sym (remainder_only 51 (payload * 2 ^ 12) rest (omega (arith, lt)) h.below (subst (λ (m : ℕ). IsMultiple generator (bit_xor (m * 2 ^ 12) rest)) whole h.multiple))
