-- The items of the classes: their ranges, and the problems that they make.
use Rattle.std.proofs.Common.{◌≡◌, ℕ, suc, ◌+◌, ◌*◌, ◌<◌, ◌≤◌, Bool, true, false, cond, List, [], ◌∷◌, map, length, refl, ap, ◌∙◌, arith}
use Rattle.std.specs.Prelude.{filter, if◌then◌else◌, All, sum_by}
use Rattle.std.specs.List.{AllByRecursion, zip}
use Rattle.std.proofs.lemmas.List.{length-map}
use Rattle.std.proofs.Math.Nat.{mul-le-mul_right}
use Rattle.std.proofs.lemmas.List.Elements.{All-cons, All-head, All-nil, All-tail, recursion_from_All}
use Rattle.std.proofs.lemmas.List.Sums.{sum_by-cons}
use Rattle.pon_cert.specs.declared.problem.TheConstants.{MAX_ITEMS}
use Rattle.pon_units.specs.declared.limits.TheConstants.{FRAME_WORDS, LINE_RATE}
use Rattle.pon_descr.specs.declared.class.Class.{Class}
use Rattle.pon_descr.specs.declared.class.Class.TheVariants.{Plain, NonAssured, BestEffort}
use Rattle.pon_descr.specs.Descriptor.{Descriptor, SuitsClass, promised}
use Rattle.pon_admit.specs.Roster.{IsAdmitted, IsInRange, capacity, max_allocs}
use Rattle.pon_admit.specs.declared.row.Row.{Row}
use Rattle.pon_cert.specs.declared.problem.Item.{Item}
use Rattle.pon_cert.specs.declared.cert.Level.{Level}
use Rattle.pon_cert.specs.declared.cert.Level.TheVariants as level
use Rattle.pon_cert.specs.declared.cert.ClassCert.{ClassCert}
use Rattle.pon_cert.specs.declared.cert.MapCert.{MapCert}
use Rattle.pon_cert.specs.Problem.{IsItem, IsProblem}
use Rattle.pon_cert.specs.Certificate.{IsCertificate, IsMapCertificate, DenominatorHolds, denominator, unsaturated_weight}
use Rattle.pon_demand.specs.Input.{Input}
use Rattle.pon_demand.specs.Rates.{guaranteed_rate}
use Rattle.pon_demand.specs.Sharing.{IsCertified, item_of, items, member_ids, members, same_class, surplus, weight_in}
use Rattle.pon_demand.specs.Demands.{demand_of, demands_of}
use Rattle.pon_demand.specs.Problems.{AreProblems}
use Rattle.pon_demand.specs.declared.problems.Problems.{Problems}
use Rattle.pon_demand.specs.declared.demand.Demand.{Demand}
use Rattle.pon_lists.proofs.Lists.{map-map, map_filter, sum_by-map}
use Rattle.pon_admit.proofs.Rules.{few_allowed}

-- Ranges.

-- a row of a class that shares has a weight
weight_range : (c : Class) (d : Descriptor) → d.class ≡ c → SuitsClass c (promised d) d.max → same_class c Plain ≡ false → d.max ≤ LINE_RATE → promised d ≤ d.max → (0 < weight_in c d) × (weight_in c d ≤ LINE_RATE)
weight_range Plain d e suits shares range enough = absurd (let t : true ≡ false = shares in cc)
weight_range NonAssured d e suits shares range enough = (suits.0, omega (arith, range, enough))
weight_range BestEffort d e suits shares range enough = (omega (arith, suits), omega (arith, range))

pub item_range : (s : Input) (r : Row) → IsInRange r → same_class r.descriptor.class Plain ≡ false → IsItem (item_of s r)
item_range s r k shares =
    let weight = weight_range r.descriptor.class r.descriptor refl k.descriptor.class shares k.descriptor.in_range k.descriptor.enough in
    let most : r.descriptor.max ≤ LINE_RATE = k.descriptor.in_range in
    record { has_weight = weight.0; weight_range = weight.1; cap_range = omega (arith, most) }

pub rates_range : (s : Input) (r : Row) → IsInRange r → guaranteed_rate s r + (item_of s r).cap ≤ LINE_RATE
rates_range s r k =
    let most : r.descriptor.max ≤ LINE_RATE = k.descriptor.in_range in
    let enough : promised r.descriptor ≤ r.descriptor.max = k.descriptor.enough in
    omega (arith, most, enough)

pub shares_too : (c d : Class) → same_class c d ≡ true → same_class d Plain ≡ false → same_class c Plain ≡ false
shares_too Plain Plain t u = u
shares_too Plain NonAssured t u = absurd (let w : false ≡ true = t in cc)
shares_too Plain BestEffort t u = absurd (let w : false ≡ true = t in cc)
shares_too NonAssured d t u = refl
shares_too BestEffort d t u = refl

-- the members of a class that shares
members_are_items : (s : Input) (class : Class) → same_class class Plain ≡ false → (rows : List Row) → All IsInRange rows → All IsItem (map (item_of s) (members class rows))
members_are_items s class shares [] h = All-nil IsItem
members_are_items s class shares (r ∷ rows) h = one (members_are_items s class shares rows (All-tail IsInRange r rows h)) (same_class r.descriptor.class class) refl
  where
    one : All IsItem (map (item_of s) (members class rows)) → (b : Bool) → same_class r.descriptor.class class ≡ b → All IsItem (map (item_of s) (cond b (r ∷ members class rows) (members class rows)))
    one rest true e = All-cons IsItem (item_of s r) (map (item_of s) (members class rows)) (item_range s r (All-head IsInRange r rows h) (shares_too r.descriptor.class class e shares)) rest
    one rest false e = rest

-- the unsaturated weights fit the denominator
weights_fit : (is : List Item) (flags : List Bool) → AllByRecursion IsItem is → unsaturated_weight is flags ≤ length is * LINE_RATE
weights_fit [] flags h = omega arith
weights_fit (i ∷ is) [] h = omega arith
weights_fit (i ∷ is) (f ∷ flags) h =
    let sum = sum_by-cons (λ (p : Item × Bool). if p.1 then 0 else p.0.weight) (i, f) (zip is flags) in
    let here : (if f then 0 else i.weight) ≤ LINE_RATE = elim f as (λ f. (if f then 0 else i.weight) ≤ LINE_RATE) [ true ↦ omega arith | false ↦ h.0.weight_range ] in
    omega (arith, sum, here, weights_fit is flags h.1)

denominator_fits : (is : List Item) (flags : List Bool) (l : Level) → length is ≤ MAX_ITEMS → All IsItem is → DenominatorHolds l is flags → denominator l ≤ MAX_ITEMS * LINE_RATE
denominator_fits is flags level.All few each d = omega arith
denominator_fits is flags (level.At f) few each d =
    omega (arith, d.1, weights_fit is flags (recursion_from_All IsItem is each), mul-le-mul_right LINE_RATE few)

pub few_members : (class : Class) (rows : List Row) → length (members class rows) ≤ length rows
few_members class [] = omega arith
few_members class (r ∷ rows) = one (few_members class rows) (same_class r.descriptor.class class)
  where
    one : length (members class rows) ≤ length rows → (b : Bool) → length (cond b (r ∷ members class rows) (members class rows)) ≤ suc (length rows)
    one few true = omega (arith, few)
    one few false = omega (arith, few)

few_items : (s : Input) (class : Class) → length s.roster ≤ max_allocs s.rule → length (items class s) ≤ MAX_ITEMS
few_items s class few = omega (arith, length-map (members class s.roster) (item_of s), few_members class s.roster, few, few_allowed s.rule)

-- the denominator of a certificate
pub denominator_range : (s : Input) (class : Class) (cert : ClassCert) (n : ℕ) → IsAdmitted s.rule s.gap s.roster → IsCertificate (items class s) n cert → same_class class Plain ≡ false → denominator cert.level ≤ MAX_ITEMS * LINE_RATE
denominator_range s class cert n k c shares =
    denominator_fits (items class s) cert.saturated cert.level (few_items s class k.few_allocs) (members_are_items s class shares s.roster k.in_range) c.denominator

-- the problem of a class
pub problem_of : (s : Input) (class : Class) (surplus : ℕ) → same_class class Plain ≡ false → length s.roster ≤ max_allocs s.rule → All IsInRange s.roster → surplus ≤ LINE_RATE → IsProblem (items class s) surplus
problem_of s class surplus shares few ranges most = record {
  count = few_items s class few;
  each = members_are_items s class shares s.roster ranges;
  surplus_range = most;
}

-- The problems of the classes, from the demands.

-- the demands of a class are those of its members
of_class : {X : Type 0} (s : Input) (class : Class) (f : Demand → X) (ds : List Demand) → ds ≡ demands_of s → map f (filter (λ d. same_class d.class class) ds) ≡ map (λ r. f (demand_of s r)) (members class s.roster)
of_class s class f ds e =
    ap (λ ds. map f (filter (λ d. same_class d.class class) ds)) e
    ∙ ap (map f) (map_filter (demand_of s) (λ d. same_class d.class class) s.roster)
    ∙ map-map f (demand_of s) (members class s.roster)

pub items_demanded : (s : Input) (class : Class) (ds : List Demand) → ds ≡ demands_of s → map (λ d. d.item) (filter (λ d. same_class d.class class) ds) ≡ items class s
items_demanded s class ds e = of_class s class (λ d. d.item) ds e

pub ids_demanded : (s : Input) (class : Class) (ds : List Demand) → ds ≡ demands_of s → map (λ d. d.alloc_id) (filter (λ d. same_class d.class class) ds) ≡ member_ids class s.roster
ids_demanded s class ds e = of_class s class (λ d. d.alloc_id) ds e

pub guaranteed_demanded : (s : Input) (ds : List Demand) → ds ≡ demands_of s → sum_by (λ d. d.guaranteed) ds ≡ sum_by (guaranteed_rate s) s.roster
guaranteed_demanded s ds e = ap (sum_by (λ d. d.guaranteed)) e ∙ sum_by-map (λ d. d.guaranteed) (demand_of s) s.roster

pub surplus_range : (s : Input) → surplus s ≤ LINE_RATE
surplus_range s = let room : capacity s.rule s.gap s.roster ≤ FRAME_WORDS = omega arith in omega (arith, room)

-- a certificate for the members of the two classes is a certificate of the input
pub certified_under : (s : Input) (p : Problems) (cert : MapCert) → AreProblems s p → IsMapCertificate p.na.items.items p.be.items.items p.surplus cert → IsCertified s cert
certified_under s p cert h c = rw (← h.na_items, ← h.be_items, ← h.surplus) c
