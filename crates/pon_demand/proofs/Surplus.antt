-- The certificates of the two classes: the flags by Alloc-ID, the rates, and that the rates fit the surplus.
use Rattle.std.proofs.Common.{◌≡◌, ℕ, ◌+◌, ◌*◌, ◌<◌, ◌≤◌, ◌/◌, Bool, true, false, cond, ◌||◌, List, [], ◌∷◌, map, length, refl, ap, sym, ◌∙◌, subst, arith, inl, inr}
use Rattle.std.specs.Prelude.{◌==◌, All, sum, sum_by}
use Rattle.std.specs.List.{list_any, zip, AllZip}
use Rattle.std.proofs.Math.Nat.{mul-div-le, mul-lt-mul_of_pos_left}
use Rattle.std.proofs.lemmas.Bool.{eq-eqb, or_from, or_left, or_parts, cases_lt}
use Rattle.std.proofs.lemmas.Bool.Decides.{eqb_tells}
use Rattle.std.proofs.lemmas.List.Elements.{All-cons, All-nil}
use Rattle.std.proofs.lemmas.List.Sums.{sum_by-cons}
use Rattle.std.proofs.lemmas.Slice.Zip.{AllZip-long}
use Rattle.pon_units.specs.Frac.{Frac}
use Rattle.pon_lists.proofs.Lists.{length-map}
use Rattle.pon_descr.specs.declared.class.Class.{Class}
use Rattle.pon_descr.specs.declared.class.Class.TheVariants.{Plain, NonAssured, BestEffort}
use Rattle.pon_admit.specs.Roster.{IsDistinct, has_alloc}
use Rattle.pon_admit.specs.declared.row.Row.{Row}
use Rattle.pon_admit.proofs.AdmittedSets.{apart_filter}
use Rattle.pon_cert.specs.declared.problem.Item.{Item}
use Rattle.pon_cert.specs.declared.cert.Level.{Level}
use Rattle.pon_cert.specs.declared.cert.Level.TheVariants as level
use Rattle.pon_cert.specs.declared.cert.ClassCert.{ClassCert}
use Rattle.pon_cert.specs.Certificate.{IsCertificate, RuleHolds, DenominatorHolds, SumHolds, amount, denominator, left_surplus, spelled}
use Rattle.pon_cert.specs.Spelling.{saturated_names}
use Rattle.pon_demand.specs.Input.{Input}
use Rattle.pon_demand.specs.Sharing.{is_saturated, item_of, items, members, rate_in, same_class, spelled_rate}

-- The saturated Alloc-IDs of a class, as flags in map order.

-- an Alloc-ID that no item has is not saturated
not_named : (i : ℕ) (ids : List ℕ) (flags : List Bool) → list_any (λ j. j == i) ids ≡ false → list_any (λ j. j == i) (saturated_names ids flags) ≡ false
not_named i [] flags h = refl
not_named i (j ∷ ids) [] h = refl
not_named i (j ∷ ids) (f ∷ flags) h =
    let two : ((j == i) ≡ false) × (list_any (λ j. j == i) ids ≡ false) = or_parts (j == i) (list_any (λ j. j == i) ids) h in
    let rest : list_any (λ j. j == i) (saturated_names ids flags) ≡ false = not_named i ids flags two.1 in
    elim f as (λ f. list_any (λ j. j == i) (saturated_names (j ∷ ids) (f ∷ flags)) ≡ false) [
      | true ↦ or_from (j == i) (list_any (λ j. j == i) (saturated_names ids flags)) two.0 rest
      | false ↦ rest
    ]

abbrev ids_of : List Row → List ℕ
ids_of rows = map (λ r. r.alloc_id) rows

-- the Alloc-ID of a row is saturated by these flags
abbrev named : List Row → List Bool → Row → Bool
named rows flags r = list_any (λ j. j == r.alloc_id) (saturated_names (ids_of rows) flags)

no_id : (i : ℕ) (rows : List Row) → has_alloc i rows ≡ false → list_any (λ j. j == i) (ids_of rows) ≡ false
no_id i [] h = refl
no_id i (r ∷ rows) h =
    let two : ((r.alloc_id == i) ≡ false) × (has_alloc i rows ≡ false) = or_parts (r.alloc_id == i) (has_alloc i rows) h in
    or_from (r.alloc_id == i) (list_any (λ j. j == i) (ids_of rows)) two.0 (no_id i rows two.1)

other_way : (i j : ℕ) → (i == j) ≡ false → (j == i) ≡ false
other_way i j h = elim (eqb_tells j i) [
  | inl e ↦ absurd (let t : true ≡ false = sym (eq-eqb i j (sym e.1)) ∙ h in cc)
  | inr e ↦ e.0
]

-- one more item at the front changes nothing for the others
named_later : (r : Row) (f : Bool) (rows : List Row) (flags : List Bool) (q : Row) → (q.alloc_id == r.alloc_id) ≡ false → named (r ∷ rows) (f ∷ flags) q ≡ named rows flags q
named_later r f rows flags q h = elim f as (λ f. named (r ∷ rows) (f ∷ flags) q ≡ named rows flags q) [
  | true ↦ ap (λ b. b || named rows flags q) (other_way q.alloc_id r.alloc_id h)
  | false ↦ refl
]

all_later : (r : Row) (f : Bool) (rows : List Row) (flags : List Bool) (qs : List Row) → has_alloc r.alloc_id qs ≡ false → map (named (r ∷ rows) (f ∷ flags)) qs ≡ map (named rows flags) qs
all_later r f rows flags [] h = refl
all_later r f rows flags (q ∷ qs) h =
    let two : ((q.alloc_id == r.alloc_id) ≡ false) × (has_alloc r.alloc_id qs ≡ false) = or_parts (q.alloc_id == r.alloc_id) (has_alloc r.alloc_id qs) h in
    (λ k. named_later r f rows flags q two.0 k ∷ all_later r f rows flags qs two.1 k)

named_first : (r : Row) (f : Bool) (rows : List Row) (flags : List Bool) → has_alloc r.alloc_id rows ≡ false → named (r ∷ rows) (f ∷ flags) r ≡ f
named_first r f rows flags h = elim f as (λ f. named (r ∷ rows) (f ∷ flags) r ≡ f) [
  | true ↦ or_left (r.alloc_id == r.alloc_id) (named rows flags r) (eq-eqb r.alloc_id r.alloc_id refl)
  | false ↦ not_named r.alloc_id (ids_of rows) flags (no_id r.alloc_id rows h)
]

named_each : (rows : List Row) (flags : List Bool) → IsDistinct rows → length flags ≡ length rows → map (named rows flags) rows ≡ flags
named_each [] [] d l = refl
named_each [] (f ∷ flags) d l = absurd (omega (arith, l))
named_each (r ∷ rows) [] d l = absurd (omega (arith, l))
named_each (r ∷ rows) (f ∷ flags) d l =
    (λ k. named_first r f rows flags d.0 k ∷ (all_later r f rows flags rows d.0 ∙ named_each rows flags d.1 (omega (arith, l))) k)

-- Lists of items and flags that come from rows.

rules_each : (R : Item → Bool → Type 0) (g : Row → Item) (sat : Row → Bool) (rows : List Row) → AllZip R (map g rows) (map sat rows) → All (λ r. R (g r) (sat r)) rows
rules_each R g sat [] h = All-nil (λ r. R (g r) (sat r))
rules_each R g sat (r ∷ rows) h = All-cons (λ r. R (g r) (sat r)) r rows h.0 (rules_each R g sat rows h.1)

amounts_each : (l : Level) (g : Row → Item) (sat : Row → Bool) (rows : List Row) → sum (map (λ p. amount l p.0 p.1) (zip (map g rows) (map sat rows))) ≡ sum_by (λ r. amount l (g r) (sat r)) rows
amounts_each l g sat [] = refl
amounts_each l g sat (r ∷ rows) =
    sum_by-cons (λ (n : ℕ). n) (amount l (g r) (sat r)) (map (λ p. amount l p.0 p.1) (zip (map g rows) (map sat rows)))
    ∙ ap (λ (n : ℕ). amount l (g r) (sat r) + n) (amounts_each l g sat rows)
    ∙ sym (sum_by-cons (λ r. amount l (g r) (sat r)) r rows)

-- the rounded-down quotients times the divisor add up to at most the sum
whole_parts : (f : Row → ℕ) (d : ℕ) (rows : List Row) → d * sum_by (λ r. f r / d) rows ≤ sum_by f rows
whole_parts f d [] = omega arith
whole_parts f d (r ∷ rows) =
    let cut : d * (f r / d) ≤ f r = mul-div-le (f r) d in
    rw (sum_by-cons (λ r. f r / d) r rows, sum_by-cons f r rows) (omega (arith, cut, whole_parts f d rows))

cancelled : (d a b : ℕ) → 0 < d → d * a ≤ d * b → a ≤ b
cancelled d a b positive h = elim (cases_lt b a) [
  | inl lt ↦ absurd (let more : d * b < d * a = mul-lt-mul_of_pos_left lt positive in omega (arith, more, h))
  | inr le ↦ le
]

caps_sum : (g : Row → Item) (rows : List Row) → sum_by (λ item. item.cap) (map g rows) ≡ sum_by (λ r. (g r).cap / 1) rows
caps_sum g [] = refl
caps_sum g (r ∷ rows) =
    let one : (g r).cap / 1 ≡ (g r).cap = omega arith in
    rw (sum_by-cons (λ (item : Item). item.cap) (g r) (map g rows), sum_by-cons (λ r. (g r).cap / 1) r rows) (omega (arith, one, caps_sum g rows))

-- The certificate of one class.
module _ (s : Input) (class : Class) (cert : ClassCert) (surplus : ℕ) (apart : IsDistinct s.roster) (k : IsCertificate (items class s) surplus cert) where
  abbrev rows : List Row
  rows = members class s.roster

  abbrev sat : Row → Bool
  sat r = is_saturated class s.roster cert r.alloc_id

  -- the flags, in map order
  pub flags_each : map sat rows ≡ cert.saturated
  flags_each =
      named_each rows cert.saturated (apart_filter (λ r. same_class r.descriptor.class class) s.roster apart)
      (AllZip-long (RuleHolds cert.level) (items class s) cert.saturated k.rules ∙ length-map rows (item_of s))

  -- the rule of each member
  pub rules_hold : All (λ r. RuleHolds cert.level (item_of s r) (sat r)) rows
  rules_hold = rules_each (RuleHolds cert.level) (item_of s) sat rows (subst (AllZip (RuleHolds cert.level) (items class s)) (sym flags_each) k.rules)

  -- the sum of the members' rates, over the level's denominator
  total : sum (spelled (items class s) cert).amounts ≡ sum_by (λ r. amount cert.level (item_of s r) (sat r)) rows
  total = ap (λ flags. sum (map (λ p. amount cert.level p.0 p.1) (zip (items class s) flags))) (sym flags_each) ∙ amounts_each cert.level (item_of s) sat rows

  abbrev pub whole_share : Row → ℕ
  whole_share r = (spelled_rate s class cert r).num / (spelled_rate s class cert r).den

  -- the rates of the members and what they leave add up to at most the surplus
  pub shared : sum_by whole_share rows + left_surplus cert.level (items class s) surplus ≤ surplus
  shared = by_level cert.level k.denominator k.total total
    where
      by_level : (l : Level) → DenominatorHolds l (items class s) cert.saturated → SumHolds l (sum (map (λ p. amount l p.0 p.1) (zip (items class s) cert.saturated))) surplus →
          sum (map (λ p. amount l p.0 p.1) (zip (items class s) cert.saturated)) ≡ sum_by (λ r. amount l (item_of s r) (sat r)) rows →
          sum_by (λ r. amount l (item_of s r) (sat r) / denominator l) rows + left_surplus l (items class s) surplus ≤ surplus
      by_level level.All d t e =
          let caps : sum_by (λ item. item.cap) (items class s) ≡ sum_by (λ r. (item_of s r).cap / 1) rows = caps_sum (item_of s) rows in
          let parts : 1 * sum_by (λ r. (item_of s r).cap / 1) rows ≤ sum_by (λ r. (item_of s r).cap) rows = whole_parts (λ r. (item_of s r).cap) 1 rows in
          omega (arith, t, e, caps, parts)
      by_level (level.At f) d t e =
          let parts : f.den * sum_by (λ r. amount (level.At f) (item_of s r) (sat r) / f.den) rows ≤ sum_by (λ r. amount (level.At f) (item_of s r) (sat r)) rows
          = whole_parts (λ r. amount (level.At f) (item_of s r) (sat r)) f.den rows in
          let fits : sum_by (λ r. amount (level.At f) (item_of s r) (sat r) / f.den) rows ≤ surplus
          = cancelled f.den (sum_by (λ r. amount (level.At f) (item_of s r) (sat r) / f.den) rows) surplus d.0 (omega (arith, parts, e, t)) in
          omega (arith, fits)

-- The two classes together.

abbrev whole_of : Frac → ℕ
whole_of f = f.num / f.den

-- a sum over all rows is the sum over both classes: rows of no class add 0
pub by_class : (na be : Row → Frac) (rows : List Row) →
    sum_by (λ r. whole_of (rate_in r.descriptor.class (na r) (be r))) rows ≡ sum_by (λ r. whole_of (na r)) (members NonAssured rows) + sum_by (λ r. whole_of (be r)) (members BestEffort rows)
by_class na be [] = refl
by_class na be (r ∷ rows) =
    sum_by-cons (λ r. whole_of (rate_in r.descriptor.class (na r) (be r))) r rows ∙ ap (λ (n : ℕ). whole_of (rate_in r.descriptor.class (na r) (be r)) + n) (by_class na be rows) ∙ one r.descriptor.class
  where
    n : ℕ
    n = sum_by (λ r. whole_of (na r)) (members NonAssured rows)

    b : ℕ
    b = sum_by (λ r. whole_of (be r)) (members BestEffort rows)

    one : (c : Class) → whole_of (rate_in c (na r) (be r)) + (n + b)
        ≡ sum_by (λ r. whole_of (na r)) (cond (same_class c NonAssured) (r ∷ members NonAssured rows) (members NonAssured rows))
        + sum_by (λ r. whole_of (be r)) (cond (same_class c BestEffort) (r ∷ members BestEffort rows) (members BestEffort rows))
    one Plain = omega arith
    one NonAssured = omega (arith, sum_by-cons (λ r. whole_of (na r)) r (members NonAssured rows))
    one BestEffort = omega (arith, sum_by-cons (λ r. whole_of (be r)) r (members BestEffort rows))
