-- The members of a class under its level, one by one and two by two.
use Rattle.std.proofs.Common.{◌≡◌, ℕ, ◌*◌, ◌<◌, ◌≤◌, Bool, true, false, List, [], ◌∷◌, ap, arith}
use Rattle.std.specs.Prelude.{sum_by}
use Rattle.std.specs.List.{AllByRecursion}
use Rattle.std.proofs.Math.Nat.{mul-le-mul_left}
use Rattle.std.proofs.lemmas.List.Sums.{sum_by-cons}
use Rattle.pon_units.specs.Frac.{Frac}
use Rattle.pon_cert.specs.declared.problem.Item.{Item}
use Rattle.pon_cert.specs.declared.cert.Level.{Level}
use Rattle.pon_cert.specs.declared.cert.Level.TheVariants as level
use Rattle.pon_cert.specs.Certificate.{RuleHolds, SumHolds, amount, denominator}

-- elements that have an item and a flag each
abbrev pub total_of : {X : Type 0} → Level → (X → Item) → (X → Bool) → List X → ℕ
total_of l item sat xs = sum_by (λ x. amount l (item x) (sat x)) xs

-- no item gets more than the level times its weight
top : (f : Frac) (i : Item) (b : Bool) → RuleHolds (level.At f) i b → amount (level.At f) i b ≤ i.weight * f.num
top f i true h = h
top f i false h = omega arith

pub tops : {X : Type 0} (f : Frac) (item : X → Item) (sat : X → Bool) (xs : List X) → AllByRecursion (λ x. RuleHolds (level.At f) (item x) (sat x)) xs →
    total_of (level.At f) item sat xs ≤ sum_by (λ x. (item x).weight) xs * f.num
tops f item sat [] h = omega arith
tops f item sat (x ∷ xs) h =
    rw (sum_by-cons (λ x. amount (level.At f) (item x) (sat x)) x xs, sum_by-cons (λ x. (item x).weight) x xs)
    (omega (arith, top f (item x) (sat x) h.0, tops f item sat xs h.1))

-- nor more than its cap
pub within_cap : (l : Level) (i : Item) (b : Bool) → RuleHolds l i b → amount l i b ≤ i.cap * denominator l
within_cap level.All i b h = omega arith
within_cap (level.At f) i true h = omega arith
within_cap (level.At f) i false h = omega (arith, h)

-- an item that gets less than its cap gets its weighted part of the surplus
pub part : {X : Type 0} (l : Level) (surplus : ℕ) (i : Item) (b : Bool) (item : X → Item) (sat : X → Bool) (xs : List X) →
    AllByRecursion (λ x. RuleHolds l (item x) (sat x)) xs → SumHolds l (total_of l item sat xs) surplus → RuleHolds l i b → amount l i b < i.cap * denominator l →
    surplus * i.weight * denominator l ≤ amount l i b * sum_by (λ x. (item x).weight) xs
part level.All surplus i b item sat xs all total rule less = absurd (omega (arith, less))
part (level.At f) surplus i true item sat xs all total rule less = absurd (omega (arith, less))
part (level.At f) surplus i false item sat xs all total rule less =
    omega (arith, mul-le-mul_left i.weight (tops f item sat xs all), ap (λ (n : ℕ). i.weight * n) total)

-- if an item gets less than its cap, the rates are the whole surplus
pub whole : (l : Level) (total surplus : ℕ) (i : Item) (b : Bool) → SumHolds l total surplus → amount l i b < i.cap * denominator l → total ≡ denominator l * surplus
whole level.All total surplus i b sum less = absurd (omega (arith, less))
whole (level.At f) total surplus i b sum less = sum

-- an item that gets less than its cap gets no less for each unit of weight than any other
pub no_less : (l : Level) (i j : Item) (b c : Bool) → RuleHolds l i b → RuleHolds l j c → amount l i b < i.cap * denominator l → amount l j c * i.weight ≤ amount l i b * j.weight
no_less level.All i j b c r s less = absurd (omega (arith, less))
no_less (level.At f) i j true c r s less = absurd (omega (arith, less))
no_less (level.At f) i j false true r s less = omega (arith, mul-le-mul_left i.weight s)
no_less (level.At f) i j false false r s less = omega arith
