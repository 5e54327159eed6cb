-- Waits, and their bounds.
use Rattle.std.proofs.Common.{◌≡◌, ℕ, ◌+◌, ◌-◌, ◌*◌, ◌/◌, ◌<◌, ◌≤◌, ap, ◌∙◌, arith, inl, inr}
use Rattle.std.specs.Prelude.{◌==◌, min}
use Rattle.std.proofs.Math.Nat.{add-div_right, div-mul-le_self, le-div_iff_mul-le, mul-le-mul_left}
use Rattle.std.proofs.lemmas.Bool.{cases_Bool, eqb-false, eqb-true}
use Rattle.pon_sure.specs.Sure.{maps_for_a_word}
use Rattle.pon_sold.specs.Watches.{lesser}

-- 256 / rate, rounded up, is 255 / rate and 1
pub rounded : (rate : ℕ) → 0 < rate → maps_for_a_word rate ≡ 255 / rate + 1
rounded rate h =
    let sum : 256 + rate - 1 ≡ 255 + rate = omega arith in
    ap (λ n. n / rate) sum ∙ add-div_right 255 h

-- maps without a word are below the bound
pub within_bound : (run rate : ℕ) → 0 < rate → run * rate ≤ 255 → run + 1 ≤ maps_for_a_word rate
within_bound run rate h small = omega (arith, rounded rate h, (le-div_iff_mul-le {k = rate} {x = run} {y = 255} h).1 small)

-- a lesser rate has a greater bound
pub greater_bound : (a b : ℕ) → 0 < b → b ≤ a → maps_for_a_word a ≤ maps_for_a_word b
greater_bound a b h le =
    let positive : 0 < a = omega (arith, h, le) in
    let fewer : 255 / a * b ≤ 255 = omega (arith, div-mul-le_self 255 a, mul-le-mul_left (255 / a) le) in
    omega (arith, rounded a positive, within_bound (255 / a) b h fewer)

-- the bound of the lesser of two rates is one of both
pub lesser_left : (a b wait : ℕ) → wait ≤ maps_for_a_word a → wait ≤ maps_for_a_word (lesser a b)
lesser_left a b wait h = elim (cases_Bool (a == 0)) [
  | inl none ↦
      let zero : a ≡ 0 = eqb-true a 0 none in
      let no_wait : wait ≤ 0 = rw zero at h in
      omega (arith, no_wait)
  | inr some ↦ elim (cases_Bool (b == 0)) [
    | inl alone ↦ rw (some, alone) h
    | inr both ↦ rw (some, both) (
        let positive_b : 0 < b = omega (arith, eqb-false b 0 both) in
        let positive_a : 0 < a = omega (arith, eqb-false a 0 some) in
        let least : min a b ≤ a = omega arith in
        let positive : 0 < min a b = omega (arith, positive_a, positive_b) in
        omega (arith, h, greater_bound a (min a b) positive least))
  ]
]

pub lesser_right : (a b wait : ℕ) → wait ≤ maps_for_a_word b → wait ≤ maps_for_a_word (lesser a b)
lesser_right a b wait h = elim (cases_Bool (a == 0)) [
  | inl none ↦ rw none h
  | inr some ↦ elim (cases_Bool (b == 0)) [
    | inl alone ↦
        let zero : b ≡ 0 = eqb-true b 0 alone in
        let no_wait : wait ≤ 0 = rw zero at h in
        omega (arith, no_wait)
    | inr both ↦ rw (some, both) (
        let positive_b : 0 < b = omega (arith, eqb-false b 0 both) in
        let positive_a : 0 < a = omega (arith, eqb-false a 0 some) in
        let least : min a b ≤ b = omega arith in
        let positive : 0 < min a b = omega (arith, positive_a, positive_b) in
        omega (arith, h, greater_bound b (min a b) positive least))
  ]
]

-- the lesser of a rate and one above 0
pub lesser_some : (a b : ℕ) → 0 < b → (0 < lesser a b) × (lesser a b ≤ b)
lesser_some a b h = elim (cases_Bool (a == 0)) [
  | inl none ↦ rw none (h, (let same : b ≤ b = omega arith in same))
  | inr some ↦ elim (cases_Bool (b == 0)) [
    | inl alone ↦ absurd (let zero : b ≡ 0 = eqb-true b 0 alone in omega (arith, h, zero))
    | inr both ↦ rw (some, both) (
        let positive_a : 0 < a = omega (arith, eqb-false a 0 some) in
        ((let p : 0 < min a b = omega (arith, h, positive_a) in p), (let q : min a b ≤ b = omega arith in q)))
  ]
]

-- the maps of a row that was known before
pub lesser_known : (a b : ℕ) → 0 < a → lesser a b ≤ a
lesser_known a b h = elim (cases_Bool (a == 0)) [
  | inl none ↦ absurd (let zero : a ≡ 0 = eqb-true a 0 none in omega (arith, h, zero))
  | inr some ↦ elim (cases_Bool (b == 0)) [
    | inl alone ↦ rw (some, alone) (let same : a ≤ a = omega arith in same)
    | inr both ↦ rw (some, both) (let q : min a b ≤ a = omega arith in q)
  ]
]

pub lesser_assoc : (a b c : ℕ) → lesser (lesser a b) c ≡ lesser a (lesser b c)
lesser_assoc a b c = grind arith

pub lesser_none : (a : ℕ) → lesser a 0 ≡ a
lesser_none a = grind arith
