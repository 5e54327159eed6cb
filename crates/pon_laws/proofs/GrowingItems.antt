-- Two problems of a class that differ in one item, whose weight and cap do not fall.
use Rattle.std.proofs.Common.{◌≡◌, ℕ, ◌+◌, ◌*◌, ◌<◌, ◌≤◌, Bool, true, false, List, [], ◌∷◌, ◌++◌, length, refl, ap, arith, inl, inr}
use Rattle.std.specs.Prelude.{map, sum, slice_index, if◌then◌else◌}
use Rattle.std.specs.List.{AllByRecursion, AllZip, zip}
use Rattle.std.proofs.Math.Nat.{mul-le-mul_left, mul-lt-mul_of_pos_left}
use Rattle.std.proofs.lemmas.Bool.{cases_lt}
use Rattle.std.proofs.lemmas.List.Elements.{recursion_from_All}
use Rattle.std.proofs.lemmas.List.Sums.{sum_by-cons}
use Rattle.pon_units.specs.Frac.{Frac}
use Rattle.pon_cert.specs.declared.problem.Item.{Item}
use Rattle.pon_cert.specs.declared.cert.Level.{Level}
use Rattle.pon_cert.specs.declared.cert.Level.TheVariants as level
use Rattle.pon_cert.specs.declared.cert.ClassCert.{ClassCert}
use Rattle.pon_cert.specs.Certificate.{DenominatorHolds, IsCertificate, RuleHolds, SumHolds, amount, denominator, unsaturated_weight}
use Rattle.pon_cert.specs.Problem.{AreWeighted}
use Rattle.pon_cert.proofs.Fairness.{is_feasible}
use Rattle.pon_laws.specs.Growth.{Grows, IsLevelUpTo, IsUpTo, rate_at}

abbrev amounts : Level → List Item → List Bool → List ℕ
amounts l is bs = map (λ p. amount l p.0 p.1) (zip is bs)

abbrev total : Level → List Item → List Bool → ℕ
total l is bs = sum (amounts l is bs)

total-cons : (l : Level) (i : Item) (is : List Item) (b : Bool) (bs : List Bool) → total l (i ∷ is) (b ∷ bs) ≡ amount l i b + total l is bs
total-cons l i is b bs = sum_by-cons (λ (n : ℕ). n) (amount l i b) (amounts l is bs)

-- 1 for an item that is not saturated
abbrev unmet : Bool → ℕ
unmet b = if b then 0 else 1

abbrev unmet_count : List Item → List Bool → ℕ
unmet_count [] bs = 0
unmet_count (i ∷ is) [] = 0
unmet_count (i ∷ is) (b ∷ bs) = unmet b + unmet_count is bs

some_unmet : (is : List Item) (bs : List Bool) → 0 < unsaturated_weight is bs → 0 < unmet_count is bs
some_unmet [] bs h = absurd (omega (arith, h))
some_unmet (i ∷ is) [] h = absurd (omega (arith, h))
some_unmet (i ∷ is) (false ∷ bs) h = omega arith
some_unmet (i ∷ is) (true ∷ bs) h =
    let rest : 0 < unsaturated_weight is bs = omega (arith, h, sum_by-cons (λ (x : Item × Bool). if x.1 then 0 else x.0.weight) (i, true) (zip is bs)) in
    omega (arith, some_unmet is bs rest)

-- ---- the level does not rise

-- at a higher level an item that grows gets no less, and more if it was not saturated
step : (f g : Frac) (i j : Item) (b c : Bool) → RuleHolds (level.At f) i b → RuleHolds (level.At g) j c → Grows i j → f.num * g.den < g.num * f.den → 0 < f.den → 0 < g.den → 0 < i.weight →
    amount (level.At f) i b * g.den + unmet b ≤ amount (level.At g) j c * f.den
step f g i j true true r s w up hf hg hi = omega (arith, mul-le-mul_left (f.den * g.den) w.cap)
step f g i j true false r s w up hf hg hi =
    let le : f.num * g.den ≤ g.num * f.den = omega (arith, up) in
    omega (arith, mul-le-mul_left g.den r, mul-le-mul_left i.weight le, mul-le-mul_left (g.num * f.den) w.weight)
step f g i j false true r s w up hf hg hi = omega (arith, mul-lt-mul_of_pos_left r hg, mul-le-mul_left (f.den * g.den) w.cap)
step f g i j false false r s w up hf hg hi = omega (arith, mul-lt-mul_of_pos_left up hi, mul-le-mul_left (g.num * f.den) w.weight)

steps : (f g : Frac) (is js : List Item) (bs cs : List Bool) → AllZip (RuleHolds (level.At f)) is bs → AllZip (RuleHolds (level.At g)) js cs → AllZip Grows is js → AllByRecursion (λ i. 0 < i.weight) is →
    f.num * g.den < g.num * f.den → 0 < f.den → 0 < g.den → total (level.At f) is bs * g.den + unmet_count is bs ≤ total (level.At g) js cs * f.den
steps f g [] [] [] [] r s w pos up hf hg = omega arith
steps f g [] [] [] (c ∷ cs) r s w pos up hf hg = absurd s
steps f g [] [] (b ∷ bs) cs r s w pos up hf hg = absurd r
steps f g [] (j ∷ js) bs cs r s w pos up hf hg = absurd w
steps f g (i ∷ is) [] bs cs r s w pos up hf hg = absurd w
steps f g (i ∷ is) (j ∷ js) [] cs r s w pos up hf hg = absurd r
steps f g (i ∷ is) (j ∷ js) (b ∷ bs) [] r s w pos up hf hg = absurd s
steps f g (i ∷ is) (j ∷ js) (b ∷ bs) (c ∷ cs) r s w pos up hf hg =
    rw (total-cons (level.At f) i is b bs, total-cons (level.At g) j js c cs)
    (omega (arith, step f g i j b c r.0 s.0 w.0 up hf hg pos.0, steps f g is js bs cs r.1 s.1 w.1 pos.1 up hf hg))

-- nor can all items be saturated
step_all : (f : Frac) (i j : Item) (b c : Bool) → RuleHolds (level.At f) i b → Grows i j → amount (level.At f) i b + unmet b ≤ amount level.All j c * f.den
step_all f i j true c r w = omega (arith, mul-le-mul_left f.den w.cap)
step_all f i j false c r w = omega (arith, r, mul-le-mul_left f.den w.cap)

steps_all : (f : Frac) (is js : List Item) (bs cs : List Bool) → AllZip (RuleHolds (level.At f)) is bs → AllZip (RuleHolds level.All) js cs → AllZip Grows is js →
    total (level.At f) is bs + unmet_count is bs ≤ total level.All js cs * f.den
steps_all f [] [] [] [] r s w = omega arith
steps_all f [] [] [] (c ∷ cs) r s w = absurd s
steps_all f [] [] (b ∷ bs) cs r s w = absurd r
steps_all f [] (j ∷ js) bs cs r s w = absurd w
steps_all f (i ∷ is) [] bs cs r s w = absurd w
steps_all f (i ∷ is) (j ∷ js) [] cs r s w = absurd r
steps_all f (i ∷ is) (j ∷ js) (b ∷ bs) [] r s w = absurd s
steps_all f (i ∷ is) (j ∷ js) (b ∷ bs) (c ∷ cs) r s w =
    rw (total-cons (level.At f) i is b bs, total-cons level.All j js c cs)
    (omega (arith, step_all f i j b c r.0 w.0, steps_all f is js bs cs r.1 s.1 w.1))

level_by : (l m : Level) (is js : List Item) (bs cs : List Bool) (surplus less : ℕ) → less ≤ surplus → AllZip Grows is js → AllByRecursion (λ i. 0 < i.weight) is →
    DenominatorHolds l is bs → DenominatorHolds m js cs → AllZip (RuleHolds l) is bs → AllZip (RuleHolds m) js cs →
    SumHolds l (total l is bs) surplus → SumHolds m (total m js cs) less → IsLevelUpTo m l
level_by level.All level.All is js bs cs surplus less fewer w pos d e r s t u = tt
level_by level.All (level.At g) is js bs cs surplus less fewer w pos d e r s t u = tt
level_by (level.At f) level.All is js bs cs surplus less fewer w pos d e r s t u =
    absurd (omega (arith, t, mul-le-mul_left f.den u, mul-le-mul_left f.den fewer, steps_all f is js bs cs r s w, some_unmet is bs (let h : 0 < unsaturated_weight is bs = omega (arith, d.0, d.1) in h)))
level_by (level.At f) (level.At g) is js bs cs surplus less fewer w pos d e r s t u = elim (cases_lt (f.num * g.den) (g.num * f.den)) [
  | inl up ↦ absurd (omega (arith, ap (λ (n : ℕ). n * g.den) t, ap (λ (n : ℕ). n * f.den) u, mul-le-mul_left (f.den * g.den) fewer, steps f g is js bs cs r s w pos up d.0 e.0, some_unmet is bs (let h : 0 < unsaturated_weight is bs = omega (arith, d.0, d.1) in h)))
  | inr le ↦ le
]

-- nor does it if the surplus falls
pub level_falls_with : (is js : List Item) (surplus less : ℕ) (c d : ClassCert) → less ≤ surplus → AreWeighted is → AllZip Grows is js → IsCertificate is surplus c → IsCertificate js less d → IsLevelUpTo d.level c.level
level_falls_with is js surplus less c d fewer pos w hc hd =
    level_by c.level d.level is js c.saturated d.saturated surplus less fewer w (recursion_from_All (λ i. 0 < i.weight) is pos) hc.denominator hd.denominator hc.rules hd.rules hc.total hd.total

pub level_falls : (is js : List Item) (surplus : ℕ) (c d : ClassCert) → AreWeighted is → AllZip Grows is js → IsCertificate is surplus c → IsCertificate js surplus d → IsLevelUpTo d.level c.level
level_falls is js surplus c d pos w hc hd = level_falls_with is js surplus surplus c d (omega arith) pos w hc hd

-- ---- at a lower level no other item gets more

pub lower : (l m : Level) (i : Item) (b c : Bool) → RuleHolds l i b → RuleHolds m i c → IsLevelUpTo m l → 0 < denominator l → 0 < denominator m → amount m i c * denominator l ≤ amount l i b * denominator m
lower level.All level.All i b c r s le hl hm = omega arith
lower (level.At f) level.All i b c r s le hl hm = absurd le
lower level.All (level.At g) i b true r s le hl hm = omega arith
lower level.All (level.At g) i b false r s le hl hm = omega (arith, s)
lower (level.At f) (level.At g) i true true r s le hl hm = omega arith
lower (level.At f) (level.At g) i true false r s le hl hm = omega (arith, mul-lt-mul_of_pos_left s hl)
lower (level.At f) (level.At g) i false true r s le hl hm = omega (arith, mul-le-mul_left f.den s, mul-le-mul_left i.weight le)
lower (level.At f) (level.At g) i false false r s le hl hm = omega (arith, mul-le-mul_left i.weight le)

module _ (l m : Level) (le : IsLevelUpTo m l) (hl : 0 < denominator l) (hm : 0 < denominator m) where
  rest_lower : (is : List Item) (bs cs : List Bool) → AllZip (RuleHolds l) is bs → AllZip (RuleHolds m) is cs → total m is cs * denominator l ≤ total l is bs * denominator m
  rest_lower [] [] [] r s = omega arith
  rest_lower [] [] (c ∷ cs) r s = absurd s
  rest_lower [] (b ∷ bs) cs r s = absurd r
  rest_lower (i ∷ is) [] cs r s = absurd r
  rest_lower (i ∷ is) (b ∷ bs) [] r s = absurd s
  rest_lower (i ∷ is) (b ∷ bs) (c ∷ cs) r s =
      rw (total-cons m i is c cs, total-cons l i is b bs) (omega (arith, lower l m i b c r.0 s.0 le hl hm, rest_lower is bs cs r.1 s.1))

  -- all but the one item together
  others_lower : (before after : List Item) (old new : Item) (bs cs : List Bool) → AllZip (RuleHolds l) (before ++ old ∷ after) bs → AllZip (RuleHolds m) (before ++ new ∷ after) cs →
      total m (before ++ new ∷ after) cs * denominator l + slice_index (amounts l (before ++ old ∷ after) bs) (length before) * denominator m
      ≤ total l (before ++ old ∷ after) bs * denominator m + slice_index (amounts m (before ++ new ∷ after) cs) (length before) * denominator l
  others_lower [] after old new [] cs r s = absurd r
  others_lower [] after old new (b ∷ bs) [] r s = absurd s
  others_lower [] after old new (b ∷ bs) (c ∷ cs) r s =
      rw (total-cons m new after c cs, total-cons l old after b bs) (omega (arith, rest_lower after bs cs r.1 s.1))
  others_lower (i ∷ before) after old new [] cs r s = absurd r
  others_lower (i ∷ before) after old new (b ∷ bs) [] r s = absurd s
  others_lower (i ∷ before) after old new (b ∷ bs) (c ∷ cs) r s =
      rw (total-cons m i (before ++ new ∷ after) c cs, total-cons l i (before ++ old ∷ after) b bs)
      (omega (arith, lower l m i b c r.0 s.0 le hl hm, others_lower before after old new bs cs r.1 s.1))

-- at a level of all an item gets its cap
cap_at : (before after : List Item) (i : Item) (bs : List Bool) → AllZip (RuleHolds level.All) (before ++ i ∷ after) bs → slice_index (amounts level.All (before ++ i ∷ after) bs) (length before) ≡ i.cap
cap_at [] after i [] r = absurd r
cap_at [] after i (b ∷ bs) r = refl
cap_at (x ∷ before) after i [] r = absurd r
cap_at (x ∷ before) after i (b ∷ bs) r = cap_at before after i bs r.1

same_items : (is : List Item) → AllZip Grows is is
same_items [] = tt
same_items (i ∷ is) = (record { weight = omega arith; cap = omega arith }, same_items is)

pub one_grows : (before after : List Item) (old new : Item) → Grows old new → AllZip Grows (before ++ old ∷ after) (before ++ new ∷ after)
one_grows [] after old new g = (g, same_items after)
one_grows (i ∷ before) after old new g = (record { weight = omega arith; cap = omega arith }, one_grows before after old new g)

-- ---- the item that grows gets no less

own_by : (before after : List Item) (old new : Item) (surplus : ℕ) (l m : Level) (bs cs : List Bool) → Grows old new → IsLevelUpTo m l → 0 < denominator l → 0 < denominator m →
    AllZip (RuleHolds l) (before ++ old ∷ after) bs → AllZip (RuleHolds m) (before ++ new ∷ after) cs → total l (before ++ old ∷ after) bs ≤ denominator l * surplus → SumHolds m (total m (before ++ new ∷ after) cs) surplus →
    slice_index (amounts l (before ++ old ∷ after) bs) (length before) * denominator m ≤ slice_index (amounts m (before ++ new ∷ after) cs) (length before) * denominator l
own_by before after old new surplus level.All level.All bs cs g le hl hm r s t u = omega (arith, g.cap, cap_at before after old bs r, cap_at before after new cs s)
own_by before after old new surplus (level.At f) level.All bs cs g le hl hm r s t u = absurd le
own_by before after old new surplus l (level.At h) bs cs g le hl hm r s t u =
    omega (arith, others_lower l (level.At h) le hl hm before after old new bs cs r s, mul-le-mul_left h.den t, ap (λ (n : ℕ). n * denominator l) u)

pub own_rises : (before after : List Item) (old new : Item) (surplus : ℕ) (c d : ClassCert) → AreWeighted (before ++ old ∷ after) → Grows old new →
    IsCertificate (before ++ old ∷ after) surplus c → IsCertificate (before ++ new ∷ after) surplus d →
    IsUpTo (rate_at (before ++ old ∷ after) c (length before)) (rate_at (before ++ new ∷ after) d (length before))
own_rises before after old new surplus c d pos g hc hd =
    let old_feasible = is_feasible (before ++ old ∷ after) surplus c hc in
    own_by before after old new surplus c.level d.level c.saturated d.saturated g
    (level_falls (before ++ old ∷ after) (before ++ new ∷ after) surplus c d pos (one_grows before after old new g) hc hd)
    old_feasible.has_over (is_feasible (before ++ new ∷ after) surplus d hd).has_over hc.rules hd.rules old_feasible.within_surplus hd.total
