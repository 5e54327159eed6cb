-- The steps of sealing.
use Rattle.std.proofs.Common.{◌≡◌, ℕ, ◌+◌, ◌*◌, ◌/◌, ◌%◌, ◌^◌, ◌<◌, ap, ◌∙◌, arith, bit_and, bit_or}
use Rattle.std.specs.Prelude.{bit_xor}
use Rattle.std.specs.Int.Count.{ones}
use Rattle.std.proofs.lemmas.Nat.{or_shifted, and_mask}
use Rattle.pon_hec.specs.HeaderCode.{IsCodeword, sealed}
use Rattle.pon_hec.proofs.HeaderLaws.{check, check_facts, body_is, sealed_is, sealed_codeword}

pub seal_is : (p r b : ℕ) → p < 2 ^ 51 → r ≡ check p → b ≡ bit_and (ones (bit_xor (p * 2 ^ 12 % 2 ^ 64) r)) 1 → bit_or (bit_xor (p * 2 ^ 12 % 2 ^ 64) r * 2 % 2 ^ 64) b ≡ sealed p
seal_is p r b lt e parity =
    let facts = check_facts p lt in
    let whole : p * 2 ^ 12 % 2 ^ 64 ≡ p * 2 ^ 12 = omega (arith, lt) in
    let body : bit_xor (p * 2 ^ 12 % 2 ^ 64) r ≡ p * 2 ^ 12 + check p = ap (λ (x : ℕ). bit_xor x r) whole ∙ ap (bit_xor (p * 2 ^ 12)) e ∙ body_is p lt in
    let low : b ≡ ones (p * 2 ^ 12 + check p) % 2 ^ 1 = parity ∙ ap (λ (x : ℕ). bit_and (ones x) 1) body ∙ and_mask (ones (p * 2 ^ 12 + check p)) 1 in
    let double : bit_xor (p * 2 ^ 12 % 2 ^ 64) r * 2 % 2 ^ 64 ≡ (p * 2 ^ 12 + check p) * 2 ^ 1 = ap (λ (x : ℕ). x * 2 % 2 ^ 64) body ∙ omega (arith, facts.0, lt) in
    ap (λ (x : ℕ). bit_or x b) double ∙ or_shifted (p * 2 ^ 12 + check p) 1 b (omega (arith, low)) ∙ omega (arith, sealed_is p lt, low)

pub short_codeword : (payload from s : ℕ) → payload < 2 ^ 19 → from ≡ payload → s ≡ sealed from → IsCodeword (2 ^ 32) s × (s / 2 ^ 13 ≡ payload)
short_codeword payload from s lt f e = rw (e, f) (sealed_codeword (2 ^ 32) payload (omega (arith, lt)) (omega (arith, lt)))
