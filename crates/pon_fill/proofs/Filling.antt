-- Saturating an item whose cap is met keeps a filling, and a filling in which no other cap is met leaves the certificate.
use Rattle.std.proofs.Common.{◌≡◌, ℕ, zero, suc, ◌+◌, ◌-◌, ◌*◌, ◌<◌, ◌≤◌, Bool, true, false, cond, List, [], ◌∷◌, length, replicate, get_or, set, refl, ap, sym, ◌∙◌, inl, inr, arith, get_or-set_other, length-set}
use Rattle.std.specs.Prelude.{All, sum, sum_by, map, if◌then◌else◌}
use Rattle.std.specs.List.{zip, AllZip}
use Rattle.std.proofs.lemmas.Bool.{cases_lt}
use Rattle.std.proofs.lemmas.Bool.Decides.{eqb_tells}
use Rattle.std.proofs.lemmas.List.{get_or_default, get_or-replicate, length-replicate}
use Rattle.std.proofs.lemmas.List.Sums.{sum_by-cons}
use Rattle.std.proofs.Math.Nat.{mul-le-mul_left, mul-lt-mul_of_pos_left}
use Rattle.pon_cert.specs.declared.problem.Item.{Item}
use Rattle.pon_cert.specs.declared.cert.Level.{Level}
use Rattle.pon_cert.specs.declared.cert.Level.TheVariants as level
use Rattle.pon_cert.specs.Problem.{IsItem}
use Rattle.pon_cert.specs.Certificate.{amount, denominator, unsaturated_weight, RuleHolds, IsCertificate}
use Rattle.pon_fill.specs.declared.rest.Rest.{Rest}
use Rattle.pon_fill.specs.Filling.{IsFilled, IsFilling, IsLevel, saturated_caps}

caps-cons : (i : Item) (b : Bool) (is : List Item) (bs : List Bool) → saturated_caps (i ∷ is) (b ∷ bs) ≡ cond b i.cap 0 + saturated_caps is bs
caps-cons i b is bs = sum_by-cons (λ (x : Item × Bool). if x.1 then x.0.cap else 0) (i, b) (zip is bs)

weight-cons : (i : Item) (b : Bool) (is : List Item) (bs : List Bool) → unsaturated_weight (i ∷ is) (b ∷ bs) ≡ cond b 0 i.weight + unsaturated_weight is bs
weight-cons i b is bs = sum_by-cons (λ (x : Item × Bool). if x.1 then 0 else x.0.weight) (i, b) (zip is bs)

-- ---- an item is saturated

-- a sum over the items with their flags, once one flag is set
sum-set : (f : Item × Bool → ℕ) (is : List Item) (bs : List Bool) (k : ℕ) (d : Item) → k < length is → length bs ≡ length is → get_or bs k false ≡ false
    → sum_by f (zip is (set bs k true)) + f (get_or is k d, false) ≡ sum_by f (zip is bs) + f (get_or is k d, true)
sum-set f [] bs k d lt long out = absurd (omega (arith, lt))
sum-set f (i ∷ is) [] k d lt long out = absurd (omega (arith, long))
sum-set f (i ∷ is) (b ∷ bs) zero d lt long out = rw (sum_by-cons f (i, true) (zip is bs), sum_by-cons f (i, b) (zip is bs), out) (omega arith)
sum-set f (i ∷ is) (b ∷ bs) (suc k) d lt long out =
    rw (sum_by-cons f (i, b) (zip is (set bs k true)), sum_by-cons f (i, b) (zip is bs)) (omega (arith, sum-set f is bs k d (omega (arith, lt)) (omega (arith, long)) out))

-- a cap that is met at a level is met at a higher one
pub higher : (p q r s c w : ℕ) → (q ≡ 0 → s ≡ 0) → p * s ≤ r * q → c * q ≤ w * p → c * s ≤ w * r
higher p zero r s c w none le h = omega (arith, ap (λ n. c * n) (none refl))
higher p (suc q) r s c w none le h = elim (cases_lt (w * r) (c * s)) [
  | inl lt ↦ absurd (omega (arith, mul-lt-mul_of_pos_left lt (let some : 0 < suc q = omega arith in some), mul-le-mul_left w le, mul-le-mul_left s h))
  | inr ge ↦ ge
]

-- an item that is not saturated has no more than the weight that is left
inside : (is : List Item) (r : Rest) (bs : List Bool) (k : ℕ) (d : Item) → IsFilling is r bs → k < length is → get_or bs k false ≡ false → (get_or is k d).weight ≤ r.weight
inside is r bs k d f lt out = omega (arith, sum-set (λ p. if p.1 then 0 else p.0.weight) is bs k d lt f.long out, f.weight)

pub none_left : (is : List Item) (r : Rest) (bs : List Bool) → All IsItem is → IsFilling is r bs → r.weight ≡ 0 → IsFilled is r bs
none_left is r bs each f none i d lt out = absurd (omega (arith, none, inside is r bs i d f lt out, (each i d lt).has_weight))

abbrev pub without : Rest → Item → Rest
without r i = record { surplus = r.surplus - i.cap; weight = r.weight - i.weight }

-- item k of the list is saturated
pub record IsStep (is : List Item) (r : Rest) (bs : List Bool) (k : ℕ) (i : Item) : Type 0 where
  pub surplus : i.cap ≤ r.surplus
  pub weight : i.weight ≤ r.weight
  pub higher : (cap weight : ℕ) → cap * r.weight ≤ weight * r.surplus → cap * (r.weight - i.weight) ≤ weight * (r.surplus - i.cap)
  pub spent : r.surplus - i.cap + saturated_caps is (set bs k true) ≡ r.surplus + saturated_caps is bs
  pub filling : IsFilling is (without r i) (set bs k true)

pub step : (is : List Item) (r : Rest) (bs : List Bool) (k : ℕ) (d : Item) → IsFilling is r bs → k < length is → get_or bs k false ≡ false → 0 < (get_or is k d).weight
    → (get_or is k d).cap * r.weight ≤ (get_or is k d).weight * r.surplus → IsStep is r bs k (get_or is k d)
step is r bs k d f lt out heavy met =
    let i : Item = get_or is k d in
    let split = sum-set (λ p. if p.1 then 0 else p.0.weight) is bs k d lt f.long out in
    let weight = inside is r bs k d f lt out in
    let surplus : i.cap ≤ r.surplus = elim (cases_lt r.surplus i.cap) [
      | inl less ↦ absurd (omega (arith, mul-lt-mul_of_pos_left less (let some : 0 < r.weight = omega (arith, weight, heavy) in some), met, mul-le-mul_left r.surplus weight))
      | inr ge ↦ ge
    ] in
    let left : (r.surplus - i.cap) + i.cap ≡ r.surplus = omega (arith, surplus) in
    let rest : (r.weight - i.weight) + i.weight ≡ r.weight = omega (arith, weight) in
    let rises : r.surplus * (r.weight - i.weight) ≤ (r.surplus - i.cap) * r.weight = omega (arith, met, ap (λ n. n * r.weight) left, ap (λ n. r.surplus * n) rest) in
    let above : (c w : ℕ) → c * r.weight ≤ w * r.surplus → c * (r.weight - i.weight) ≤ w * (r.surplus - i.cap) = λ c w. higher r.surplus r.weight (r.surplus - i.cap) (r.weight - i.weight) c w (λ none. omega (arith, none)) rises in
    record {
      surplus = surplus;
      weight = weight;
      higher = above;
      spent = omega (arith, left, sum-set (λ p. if p.1 then p.0.cap else 0) is bs k d lt f.long out);
      filling = record {
        long = length-set bs k true ∙ f.long;
        weight = omega (arith, rest, split, f.weight);
        met = λ j e ltj flag. elim (eqb_tells j k) [
          | inl same ↦ rw (ap (λ n. get_or is n e) same.1, get_or_default is k e d lt) (omega (arith, met, ap (λ n. i.weight * n) left, ap (λ n. i.cap * n) rest))
          | inr other ↦ above (get_or is j e).cap (get_or is j e).weight (f.met j e ltj (sym (get_or-set_other bs k j true false other.1) ∙ flag))
        ];
      };
    }

-- ---- the end

rule : (r : Rest) (l : Level) → IsLevel r l → (i : Item) (b : Bool) → (b ≡ true → i.cap * r.weight ≤ i.weight * r.surplus) → (b ≡ false → i.weight * r.surplus < i.cap * r.weight) → RuleHolds l i b
rule r level.All h i true met out = refl
rule r level.All h i false met out = absurd (omega (arith, out refl, ap (λ n. i.cap * n) h))
rule r (level.At f) h i true met out = rw h.1 (met refl)
rule r (level.At f) h i false met out = rw h.1 (out refl)

rules : (r : Rest) (l : Level) → IsLevel r l → (is : List Item) (bs : List Bool) → length bs ≡ length is
    → ((i : ℕ) (d : Item) → i < length is → get_or bs i false ≡ true → (get_or is i d).cap * r.weight ≤ (get_or is i d).weight * r.surplus) → IsFilled is r bs → AllZip (RuleHolds l) is bs
rules r l h [] [] long met out = tt
rules r l h [] (b ∷ bs) long met out = absurd (omega (arith, long))
rules r l h (i ∷ is) [] long met out = absurd (omega (arith, long))
rules r l h (i ∷ is) (b ∷ bs) long met out =
    (rule r l h i b (met 0 i (omega arith)) (out 0 i (omega arith)), rules r l h is bs (omega (arith, long)) (λ k d lt. met (suc k) d (omega (arith, lt))) (λ k d lt. out (suc k) d (omega (arith, lt))))

-- the numerator of a level; 0 of the level of all
abbrev numerator : Level → ℕ
numerator level.All = 0
numerator (level.At f) = f.num

total : (l : Level) (is : List Item) (bs : List Bool) → AllZip (RuleHolds l) is bs → sum (map (λ x. amount l x.0 x.1) (zip is bs)) ≡ saturated_caps is bs * denominator l + unsaturated_weight is bs * numerator l
total l [] bs h = omega arith
total l (i ∷ is) [] h = omega arith
total l (i ∷ is) (b ∷ bs) h =
    rw (sum_by-cons (λ (n : ℕ). n) (amount l i b) (map (λ x. amount l x.0 x.1) (zip is bs)), caps-cons i b is bs, weight-cons i b is bs)
    (omega (arith, one l b h.0, total l is bs h.1))
  where
    one : (l : Level) (b : Bool) → RuleHolds l i b → amount l i b ≡ cond b i.cap 0 * denominator l + cond b 0 i.weight * numerator l
    one level.All true h = omega arith
    one level.All false h = cc
    one (level.At f) true h = omega arith
    one (level.At f) false h = omega arith

pub certificate : (is : List Item) (surplus : ℕ) (r : Rest) (bs : List Bool) (l : Level) → IsLevel r l → IsFilling is r bs → r.surplus + saturated_caps is bs ≡ surplus → IsFilled is r bs
    → IsCertificate is surplus (record { level = l; saturated = bs })
certificate is surplus r bs level.All h f spent out =
    let kept = rules r level.All h is bs f.long f.met out in
    record { denominator = tt; rules = kept; total = omega (arith, total level.All is bs kept, spent) }
certificate is surplus r bs (level.At q) h f spent out =
    let kept = rules r (level.At q) h is bs f.long f.met out in
    record {
      denominator = rw h.1 (h.0, f.weight);
      rules = kept;
      total = total (level.At q) is bs kept ∙ rw h.1 (omega (arith, ap (λ (n : ℕ). r.weight * n) spent, ap (λ (n : ℕ). r.surplus * n) f.weight));
    }

-- ---- the beginning

pub none_filled : (is : List Item) (r : Rest) (n : ℕ) → n ≡ length is → r.weight ≡ sum_by (λ (i : Item). i.weight) is → IsFilling is r (replicate n false)
none_filled is r n long weight = record {
  long = length-replicate n false ∙ long;
  weight = weight ∙ sym (all is n long);
  met = λ i d lt flag. (let same : false ≡ true = sym (get_or-replicate n i false false (omega (arith, lt, long))) ∙ flag in cc);
}
  where
    all : (is : List Item) (n : ℕ) → n ≡ length is → unsaturated_weight is (replicate n false) ≡ sum_by (λ (i : Item). i.weight) is
    all [] n e = refl
    all (i ∷ is) zero e = absurd (omega (arith, e))
    all (i ∷ is) (suc n) e = rw (weight-cons i false is (replicate n false), sum_by-cons (λ (i : Item). i.weight) i is) (omega (arith, all is n (omega (arith, e))))

pub none_spent : (is : List Item) (n : ℕ) → saturated_caps is (replicate n false) ≡ 0
none_spent [] n = refl
none_spent (i ∷ is) zero = refl
none_spent (i ∷ is) (suc n) = rw (caps-cons i false is (replicate n false)) (omega (arith, none_spent is n))
