-- The steps of opening: the bit errors of a word, from its syndrome.
use Rattle.std.proofs.Common.{◌≡◌, ℕ, ◌+◌, ◌*◌, ◌/◌, ◌%◌, ◌^◌, ◌<◌, ◌≤◌, get_or, inl, inr, refl, ap, sym, ◌∙◌, subst, arith}
use Rattle.std.specs.Prelude.{bit_xor, bit_and, Option, Some}
use Rattle.std.specs.Int.Bits.{xor_assoc, xor_self, xor_zero_r}
use Rattle.std.specs.Int.Count.{ones}
use Rattle.std.proofs.lemmas.Nat.{xor_lt, xor_block, and_mask, xor_comm}
use Rattle.pon_units.specs.Polynomial.{IsMultiple, remainder}
use Rattle.std.proofs.lemmas.Bool.{cases_lt}
use Rattle.pon_units.proofs.PolynomialLaws.{remainder_is, xor_back}
use Rattle.pon_hec.specs.declared.places.TheConstants.{PLACES}
use Rattle.pon_hec.specs.HeaderCode.{generator, IsCodeword, Reads}
use Rattle.pon_hec.specs.Syndrome.{Leaves}
use Rattle.pon_hec.proofs.HeaderLaws.{generator_degree, remainder_only, check, check_facts, body_is, ones_bit}
use Rattle.pon_hec.proofs.Patterns.{two_places, ones_zero, ones_pow, ones_pows}
use Rattle.pon_hec.proofs.Syndromes.{table, places_at}
use Rattle.pon_hec.proofs.Unique.{rest_of, rest_xor, rest_none, rest_zero, parity-xor, one_pattern, pair_found, below_64}
use Rattle.pon_hec.proofs.PlaceTable.{IsPair, entry_is}

-- ---- the remainder of a word

-- from the check bits of its payload, and the check bits that it has
pub rest_by_check : (w r : ℕ) → w < 2 ^ 64 → r ≡ check (w / 2 ^ 13) → bit_xor r (bit_and (w / 2) 4095) ≡ rest_of w
rest_by_check w r lt e =
    let low : bit_and (w / 2) 4095 ≡ w / 2 % 2 ^ 12 = and_mask (w / 2) 12 in
    let facts = check_facts (w / 2 ^ 13) (omega (arith, lt)) in
    let split : w / 2 ^ 13 * 2 ^ 12 + w / 2 % 2 ^ 12 ≡ w / 2 = omega arith in
    let sum : bit_xor (w / 2) (bit_xor (w / 2 ^ 13 * 2 ^ 12) (check (w / 2 ^ 13))) ≡ bit_xor (w / 2 % 2 ^ 12) (check (w / 2 ^ 13)) =
    ap (λ (x : ℕ). bit_xor x (bit_xor (w / 2 ^ 13 * 2 ^ 12) (check (w / 2 ^ 13)))) (sym split)
    ∙ ap (bit_xor (w / 2 ^ 13 * 2 ^ 12 + w / 2 % 2 ^ 12)) (body_is (w / 2 ^ 13) (omega (arith, lt)))
    ∙ xor_block 12 (w / 2 ^ 13) (w / 2 ^ 13) (w / 2 % 2 ^ 12) (check (w / 2 ^ 13)) (omega arith) facts.0
    ∙ ap (λ (x : ℕ). x * 2 ^ 12 + bit_xor (w / 2 % 2 ^ 12) (check (w / 2 ^ 13))) (xor_self (w / 2 ^ 13))
    ∙ omega arith in
    let back : bit_xor (w / 2) (bit_xor (w / 2 % 2 ^ 12) (check (w / 2 ^ 13))) ≡ bit_xor (w / 2 ^ 13 * 2 ^ 12) (check (w / 2 ^ 13)) =
    ap (bit_xor (w / 2)) (sym sum) ∙ xor_back (w / 2) (bit_xor (w / 2 ^ 13 * 2 ^ 12) (check (w / 2 ^ 13))) in
    let turn : bit_xor (check (w / 2 ^ 13)) (w / 2 % 2 ^ 12) ≡ bit_xor (w / 2 % 2 ^ 12) (check (w / 2 ^ 13)) = xor_comm (check (w / 2 ^ 13)) (w / 2 % 2 ^ 12) in
    ap (λ (x : ℕ). bit_xor x (bit_and (w / 2) 4095)) e ∙ ap (bit_xor (check (w / 2 ^ 13))) low ∙ turn
    ∙ sym (remainder_only 51 (w / 2) (bit_xor (w / 2 % 2 ^ 12) (check (w / 2 ^ 13))) (omega (arith, lt)) (xor_lt 12 (w / 2 % 2 ^ 12) (check (w / 2 ^ 13)) (omega arith) facts.0)
    (subst (IsMultiple generator) (sym back) facts.1))

pub rest_small : (w : ℕ) → w < 2 ^ 64 → rest_of w < 2 ^ 12
rest_small w lt = (remainder_is generator 12 51 (w / 2) generator_degree (omega (arith, lt))).0

-- ---- bit errors, and the syndrome of a word

-- an error pattern with the syndrome of the word leads to a codeword
pub near_codeword : (w wrong : ℕ) → w < 2 ^ 64 → Leaves wrong (rest_of w) (ones w % 2) → IsCodeword (2 ^ 64) (bit_xor w wrong)
near_codeword w wrong lt h =
    let below = xor_lt 64 w wrong lt h.below in
    let none : rest_of (bit_xor w wrong) ≡ 0 = rest_xor w wrong lt h.below ∙ ap (bit_xor (rest_of w)) h.rest ∙ xor_self (rest_of w) in
    let m = (remainder_is generator 12 51 (bit_xor w wrong / 2) generator_degree (omega (arith, below))).1 in
    let whole : bit_xor (bit_xor w wrong / 2) (rest_of (bit_xor w wrong)) ≡ bit_xor w wrong / 2 = ap (bit_xor (bit_xor w wrong / 2)) none ∙ xor_zero_r (bit_xor w wrong / 2) in
    record {
      below = below;
      multiple = subst (IsMultiple generator) whole m;
      even = omega (arith, parity-xor 64 w wrong lt h.below, h.parity);
    }

-- a codeword within two bit errors differs from the word by a pattern with the syndrome of the word
pub codeword_leaves : (w c : ℕ) → w < 2 ^ 64 → IsCodeword (2 ^ 64) c → ones (bit_xor w c) ≤ 2 → Leaves (bit_xor w c) (rest_of w) (ones w % 2)
codeword_leaves w c lt h few =
    record {
      below = xor_lt 64 w c lt h.below;
      few = few;
      rest = rest_xor w c lt h.below ∙ ap (bit_xor (rest_of w)) (rest_none c h.below h.multiple) ∙ xor_zero_r (rest_of w);
      parity = omega (arith, parity-xor 64 w c lt h.below, h.even);
    }

pub leaves_once : (d e r p : ℕ) → Leaves d r p → Leaves e r p → d ≡ e
leaves_once d e r p h k = one_pattern d e h.below k.below h.few k.few (h.rest ∙ sym k.rest) (h.parity ∙ sym k.parity)

-- ---- the bit errors, from the table

rest_one : rest_of 1 ≡ 0
unfolding remainder
rest_one = refl

rest_odd : (odd : ℕ) → odd < 2 → rest_of odd ≡ 0
rest_odd odd lt = let none : odd / 2 ≡ 0 = omega (arith, lt) in ap (remainder generator 12 51) none ∙ rest_zero

-- only the parity bit is wrong
pub only_parity : (odd : ℕ) → odd < 2 → Leaves odd 0 odd
only_parity odd lt = record {
  below = omega (arith, lt);
  few = omega (arith, ones_bit odd lt, lt);
  rest = rest_odd odd lt;
  parity = omega (arith, ones_bit odd lt, lt);
}

-- a pattern with a remainder is a pair of bit positions, with the parity bit if the number of bits is odd
pub has_pair : (d s odd : ℕ) → Leaves d s odd → (s ≡ 0 → ⊥) → (a b : ℕ) × (b < a) × (a < 64) × (places_at table s ≡ a * 64 + b) × (d ≡ bit_xor (bit_xor (2 ^ a) (2 ^ b)) odd)
has_pair d s odd h some = elim (two_places 64 d h.below h.few) [
  | inl none ↦ absurd (some (sym h.rest ∙ ap rest_of none ∙ rest_zero))
  | inr (inl one) ↦
      let leaves : rest_of (2 ^ one.0) ≡ s = sym (ap rest_of one.2) ∙ h.rest in
      let is_odd : odd ≡ 1 = omega (arith, h.parity, ap ones one.2, ones_pow one.0) in
      let high : 0 < one.0 = elim (cases_lt 0 one.0) [
        | inl lt ↦ lt
        | inr ge ↦ (let low : one.0 ≡ 0 = omega (arith, ge) in absurd (some (sym leaves ∙ ap (λ (n : ℕ). rest_of (2 ^ n)) low ∙ rest_one)))
      ] in
      let sum : bit_xor (rest_of (2 ^ one.0)) (rest_of (2 ^ 0)) ≡ s = ap (bit_xor (rest_of (2 ^ one.0))) rest_one ∙ xor_zero_r (rest_of (2 ^ one.0)) ∙ leaves in (
        one.0,
        0,
        high,
        one.1,
        ap (places_at table) (sym sum) ∙ pair_found one.0 0 high one.1,
        one.2 ∙ sym (xor_zero_r (2 ^ one.0)) ∙ sym (ap (bit_xor (2 ^ one.0)) (ap (bit_xor (2 ^ 0)) is_odd)) ∙ sym (xor_assoc (2 ^ one.0) (2 ^ 0) odd),
      )
  | inr (inr two) ↦
      let sum : bit_xor (rest_of (2 ^ two.0)) (rest_of (2 ^ two.1)) ≡ s = sym (rest_xor (2 ^ two.0) (2 ^ two.1) (below_64 two.0 two.2) (below_64 two.1 (omega (arith, two.2, two.3)))) ∙ sym (ap rest_of two.4) ∙ h.rest in
      let is_even : odd ≡ 0 = omega (arith, h.parity, ap ones two.4, ones_pows two.0 two.1 two.3) in (
        two.0,
        two.1,
        two.3,
        two.2,
        ap (places_at table) (sym sum) ∙ pair_found two.0 two.1 two.3 two.2,
        two.4 ∙ sym (xor_zero_r (bit_xor (2 ^ two.0) (2 ^ two.1))) ∙ sym (ap (bit_xor (bit_xor (2 ^ two.0) (2 ^ two.1))) is_even),
      )
]

-- the pair of bit positions, with the parity bit if the number of bits is odd
abbrev pub places_of : ℕ → ℕ → ℕ
places_of pair odd = bit_xor (bit_xor (2 ^ (pair / 64)) (2 ^ (pair % 64))) odd

-- the pattern as the code computes it
pub spelled : (pair odd : ℕ) → pair < 4096 → bit_xor (bit_xor (1 * 2 ^ (pair / 64) % 2 ^ 64) (1 * 2 ^ (pair % 64) % 2 ^ 64)) odd ≡ places_of pair odd
spelled pair odd lt =
    let high : 1 * 2 ^ (pair / 64) % 2 ^ 64 ≡ 2 ^ (pair / 64) = omega (arith, below_64 (pair / 64) (omega (arith, lt))) in
    let low : 1 * 2 ^ (pair % 64) % 2 ^ 64 ≡ 2 ^ (pair % 64) = omega (arith, below_64 (pair % 64) (omega arith)) in
    rw (high, low) refl

pub entry_small : (s pair : ℕ) → s < 4096 → pair ≡ get_or PLACES s 0 → pair < 4096
entry_small s pair lt same = elim ((entry_is s pair lt same).1) [
  | inl none ↦ omega (arith, none)
  | inr some ↦ some.below
]

-- if the table has no pair, no pattern has the remainder
pub no_pair : (d s odd pair : ℕ) → s < 4096 → (s ≡ 0 → ⊥) → pair ≡ get_or PLACES s 0 → pair ≡ 0 → Leaves d s odd → ⊥
no_pair d s odd pair lt some same none h =
    let p = has_pair d s odd h some in
    omega (arith, p.2, p.4, none, (entry_is s pair lt same).0)

pub its_pair : (d s odd pair : ℕ) → s < 4096 → (s ≡ 0 → ⊥) → pair ≡ get_or PLACES s 0 → Leaves d s odd → d ≡ places_of pair odd
its_pair d s odd pair lt some same h =
    let p = has_pair d s odd h some in
    let whole : pair ≡ p.0 * 64 + p.1 = (entry_is s pair lt same).0 ∙ p.4 in
    let high : pair / 64 ≡ p.0 = omega (arith, whole, p.2, p.3) in
    let low : pair % 64 ≡ p.1 = omega (arith, whole, p.2, p.3) in
    p.5 ∙ ap (λ (n : ℕ). bit_xor (bit_xor (2 ^ n) (2 ^ p.1)) odd) (sym high) ∙ ap (λ (n : ℕ). bit_xor (bit_xor (2 ^ (pair / 64)) (2 ^ n)) odd) (sym low)

pair_leaves : (s pair odd : ℕ) → odd < 2 → IsPair s pair → ones (places_of pair odd) ≤ 2 → Leaves (places_of pair odd) s odd
pair_leaves s pair odd lt h few =
    let high : pair / 64 < 64 = omega (arith, h.below) in
    let low : pair % 64 < 64 = omega arith in
    let la = below_64 (pair / 64) high in
    let lb = below_64 (pair % 64) low in
    let both = xor_lt 64 (2 ^ (pair / 64)) (2 ^ (pair % 64)) la lb in
    let small : odd < 2 ^ 64 = omega (arith, lt) in
    record {
      below = xor_lt 64 (bit_xor (2 ^ (pair / 64)) (2 ^ (pair % 64))) odd both small;
      few = few;
      rest = rest_xor (bit_xor (2 ^ (pair / 64)) (2 ^ (pair % 64))) odd both small ∙ ap (bit_xor (rest_of (bit_xor (2 ^ (pair / 64)) (2 ^ (pair % 64))))) (rest_odd odd lt)
          ∙ xor_zero_r (rest_of (bit_xor (2 ^ (pair / 64)) (2 ^ (pair % 64)))) ∙ rest_xor (2 ^ (pair / 64)) (2 ^ (pair % 64)) la lb ∙ h.leave;
      parity = omega (arith, parity-xor 64 (bit_xor (2 ^ (pair / 64)) (2 ^ (pair % 64))) odd both small, ones_pows (pair / 64) (pair % 64) h.order, ones_bit odd lt, lt);
    }

-- the pair of the table, as the code computes it, has the remainder, unless there are three bits
pub pair_found_leaves : (s odd pair : ℕ) → s < 4096 → odd < 2 → pair ≡ get_or PLACES s 0 → (pair ≡ 0 → ⊥)
    → ones (bit_xor (bit_xor (1 * 2 ^ (pair / 64) % 2 ^ 64) (1 * 2 ^ (pair % 64) % 2 ^ 64)) odd) ≤ 2
    → Leaves (bit_xor (bit_xor (1 * 2 ^ (pair / 64) % 2 ^ 64) (1 * 2 ^ (pair % 64) % 2 ^ 64)) odd) s odd
pair_found_leaves s odd pair lt small same some few =
    let e = spelled pair odd (entry_small s pair lt same) in
    elim ((entry_is s pair lt same).1) [
      | inl none ↦ absurd (some none)
      | inr is ↦ rw e (pair_leaves s pair odd small is (rw e at few))
    ]

-- if there are three bits, no pattern has the remainder
pub three_places : (d s odd pair : ℕ) → s < 4096 → (s ≡ 0 → ⊥) → pair ≡ get_or PLACES s 0
    → 2 < ones (bit_xor (bit_xor (1 * 2 ^ (pair / 64) % 2 ^ 64) (1 * 2 ^ (pair % 64) % 2 ^ 64)) odd) → Leaves d s odd → ⊥
three_places d s odd pair lt some same many h =
    let e = spelled pair odd (entry_small s pair lt same) in
    omega (arith, h.few, ap ones (its_pair d s odd pair lt some same h), ap ones e, many)

-- ---- readings

-- a codeword is read as itself
pub reads_none : (n w : ℕ) → IsCodeword (2 ^ n) w → Reads (2 ^ n) w (w / 2 ^ 13) 0
reads_none n w h = record { codeword = w; is_codeword = h; has_payload = refl; differs = ap ones (xor_self w) ∙ ones_zero; few = omega arith }

-- the codeword that the error pattern leads to is read
pub found : (limit w wrong : ℕ) → w < 2 ^ 64 → Leaves wrong (rest_of w) (ones w % 2) → bit_xor w wrong < limit → Reads limit w (bit_xor w wrong / 2 ^ 13) (ones wrong)
found limit w wrong lt h le =
    let c = near_codeword w wrong lt h in
    record {
      codeword = bit_xor w wrong;
      is_codeword = record { below = le; multiple = c.multiple; even = c.even };
      has_payload = refl;
      differs = ap ones (xor_back w wrong);
      few = h.few;
    }

widen : (limit c : ℕ) → limit ≤ 2 ^ 64 → IsCodeword limit c → IsCodeword (2 ^ 64) c
widen limit c le h = record { below = omega (arith, h.below, le); multiple = h.multiple; even = h.even }

reading_leaves : (limit w m k : ℕ) → limit ≤ 2 ^ 64 → w < 2 ^ 64 → (r : Reads limit w m k) → Leaves (bit_xor w r.codeword) (rest_of w) (ones w % 2)
reading_leaves limit w m k le lt r = codeword_leaves w r.codeword lt (widen limit r.codeword le r.is_codeword) (omega (arith, r.differs, r.few))

-- if no error pattern has the syndrome of the word, nothing is read
pub found_none : (limit w : ℕ) → limit ≤ 2 ^ 64 → w < 2 ^ 64 → ((d : ℕ) → Leaves d (rest_of w) (ones w % 2) → ⊥) → (m k : ℕ) → Reads limit w m k → ⊥
found_none limit w le lt none m k r = none (bit_xor w r.codeword) (reading_leaves limit w m k le lt r)

-- if the pattern leads past the limit, nothing is read
pub found_past : (limit w wrong : ℕ) → limit ≤ 2 ^ 64 → w < 2 ^ 64 → Leaves wrong (rest_of w) (ones w % 2) → limit ≤ bit_xor w wrong → (m k : ℕ) → Reads limit w m k → ⊥
found_past limit w wrong le lt h past m k r =
    let same : bit_xor w r.codeword ≡ wrong = leaves_once (bit_xor w r.codeword) wrong (rest_of w) (ones w % 2) (reading_leaves limit w m k le lt r) h in
    omega (arith, sym (xor_back w r.codeword) ∙ ap (bit_xor w) same, r.is_codeword.below, past)

-- a codeword has no bit errors
pub codeword_clean : (limit w wrong : ℕ) → limit ≤ 2 ^ 64 → IsCodeword limit w → Leaves wrong (rest_of w) (ones w % 2) → wrong ≡ 0
codeword_clean limit w wrong le c h =
    let wide = widen limit w le c in
    let none : ones (bit_xor w w) ≤ 2 = omega (arith, ap ones (xor_self w), ones_zero) in
    leaves_once wrong (bit_xor w w) (rest_of w) (ones w % 2) h (codeword_leaves w w wide.below wide none) ∙ xor_self w

pub codeword_found : (limit w : ℕ) → limit ≤ 2 ^ 64 → IsCodeword limit w → ((d : ℕ) → Leaves d (rest_of w) (ones w % 2) → ⊥) → ⊥
codeword_found limit w le c none =
    let wide = widen limit w le c in
    none (bit_xor w w) (codeword_leaves w w wide.below wide (omega (arith, ap ones (xor_self w), ones_zero)))

pub clean_pair : (w wrong : ℕ) → wrong ≡ 0 → ◌≡◌ {A = Option (ℕ × ℕ)} (Some (bit_xor w wrong / 2 ^ 13, ones wrong)) (Some (w / 2 ^ 13, 0))
clean_pair w wrong none =
    let same : bit_xor w wrong ≡ w = ap (bit_xor w) none ∙ xor_zero_r w in
    let few : ones wrong ≡ 0 = ap ones none ∙ ones_zero in
    rw (same, few) refl

pub past_clean : (w wrong last : ℕ) → wrong ≡ 0 → w ≤ last → last < bit_xor w wrong → ⊥
past_clean w wrong last none le past = omega (arith, ap (bit_xor w) none ∙ xor_zero_r w, le, past)
