-- The laws of shares: each Alloc-ID in its class, and the classes together.
use Rattle.std.proofs.Common.{◌≡◌, ◌≢◌, ℕ, zero, suc, ◌+◌, ◌-◌, ◌*◌, ◌<◌, ◌≤◌, Bool, true, false, List, [], ◌∷◌, map, refl, ap, sym, ◌∙◌, subst, arith, inl, inr}
use Rattle.std.specs.Prelude.{◌⊎◌, All, Contains, cond, if◌then◌else◌, sum, sum_by}
use Rattle.std.specs.List.{AllByRecursion, AllZip, zip}
use Rattle.std.proofs.Math.Nat.{mul-le-mul_left, mul-le-mul_right}
use Rattle.std.proofs.lemmas.Bool.{cases_lt}
use Rattle.std.proofs.lemmas.List.Elements.{All-contains, recursion_from_All, All-contains_itself, All-filter, All-weaker, All-from_recursion, filter_passes}
use Rattle.std.proofs.lemmas.List.Sums.{sum_by-cons}
use Rattle.pon_units.specs.declared.limits.TheConstants.{WORD_RATE}
use Rattle.pon_units.specs.Frac.{Frac}
use Rattle.pon_descr.specs.Descriptor.{promised}
use Rattle.pon_descr.specs.declared.class.Class.{Class}
use Rattle.pon_descr.specs.declared.class.Class.TheVariants.{Plain, NonAssured, BestEffort}
use Rattle.pon_admit.specs.declared.row.Row.{Row}
use Rattle.pon_admit.specs.Roster.{IsAdmitted, IsInRange, capacity}
use Rattle.pon_cert.specs.declared.problem.Item.{Item}
use Rattle.pon_cert.specs.declared.cert.Level.{Level}
use Rattle.pon_cert.specs.declared.cert.ClassCert.{ClassCert}
use Rattle.pon_cert.specs.declared.cert.MapCert.{MapCert}
use Rattle.pon_cert.specs.Certificate.{IsCertificate, RuleHolds, SumHolds, amount, denominator, spelled}
use Rattle.pon_cert.proofs.Fairness.{is_feasible}
use Rattle.pon_cert.proofs.LeftSurplus.{left_rest}
use Rattle.pon_demand.specs.Input.{Input}
use Rattle.pon_demand.specs.Rates.{guaranteed_rate}
use Rattle.pon_demand.specs.Sharing.{IsCertified, is_saturated, item_of, items, members, rate_in, same_class, spelled_rate, surplus, surplus_rate}
use Rattle.pon_demand.specs.ClassShares.{best_effort_share, best_effort_surplus, non_assured_share, non_assured_surplus}
use Rattle.pon_demand.proofs.ClassShares.{best_effort_alone, non_assured_alone}
use Rattle.pon_demand.proofs.RosterMaps.{guaranteed_fits}
use Rattle.pon_demand.proofs.Surplus.{flags_each}
use Rattle.pon_laws.specs.Shares.{AssignsAll, GetsLess, GetsUse, ServesAll, HasPart, IsBelowUse, IsNoMore, class_surplus, usable}
use Rattle.pon_sure.specs.Sure.{class_weight, weight_of, weight_within}
use Rattle.pon_laws.proofs.Members.{no_less, part, total_of, whole, within_cap}

abbrev weights : List Row → ℕ
weights rows = sum_by weight_of rows

-- the members of a class have its weight
class_weights : (class : Class) (rows : List Row) → weights (members class rows) ≡ class_weight class rows
class_weights class [] = refl
class_weights class (r ∷ rows) = one (class_weights class rows) (same_class r.descriptor.class class) ∙ sym (sum_by-cons (weight_within class) r rows)
  where
    one : weights (members class rows) ≡ class_weight class rows → (b : Bool) → weights (cond b (r ∷ members class rows) (members class rows)) ≡ (if b then weight_of r else 0) + class_weight class rows
    one rest true = sum_by-cons weight_of r (members class rows) ∙ ap (λ (n : ℕ). weight_of r + n) rest
    one rest false = (let same : weights (members class rows) ≡ 0 + class_weight class rows = omega (arith, rest) in same)

-- Lists of items and flags that come from rows.

rules_each : (R : Item → Bool → Type 0) (g : Row → Item) (sat : Row → Bool) (rows : List Row) → AllZip R (map g rows) (map sat rows) → AllByRecursion (λ r. R (g r) (sat r)) rows
rules_each R g sat [] h = tt
rules_each R g sat (r ∷ rows) h = (h.0, rules_each R g sat rows h.1)

amounts_each : (l : Level) (g : Row → Item) (sat : Row → Bool) (rows : List Row) → sum (map (λ p. amount l p.0 p.1) (zip (map g rows) (map sat rows))) ≡ total_of l g sat rows
amounts_each l g sat [] = refl
amounts_each l g sat (r ∷ rows) =
    sum_by-cons (λ (n : ℕ). n) (amount l (g r) (sat r)) (map (λ p. amount l p.0 p.1) (zip (map g rows) (map sat rows)))
    ∙ ap (λ (n : ℕ). amount l (g r) (sat r) + n) (amounts_each l g sat rows)
    ∙ sym (sum_by-cons (λ r. amount l (g r) (sat r)) r rows)

-- a rate below the use is below the cap
below_cap : (g u den num : ℕ) → g * den + num < u * den → num < (u - g) * den
below_cap g u den num less = elim (cases_lt u g) [
  | inl lt ↦ absurd (let le : u ≤ g = omega arith in omega (arith, less, mul-le-mul_right den le))
  | inr ge ↦ (let parts : u ≡ g + (u - g) = omega arith in more (u - g) (subst (λ (n : ℕ). g * den + num < n * den) parts less))
]
  where
    more : (c : ℕ) → g * den + num < (g + c) * den → num < c * den
    more c h = omega (arith, h)

-- One class under its certificate.
module _ (s : Input) (class : Class) (cert : ClassCert) (surplus : ℕ) (k : IsAdmitted s.rule s.gap s.roster) (c : IsCertificate (items class s) surplus cert) where
  abbrev rows : List Row
  rows = members class s.roster

  abbrev sat : Row → Bool
  sat r = is_saturated class s.roster cert r.alloc_id

  abbrev rate : Row → Frac
  rate = spelled_rate s class cert

  rules : AllByRecursion (λ r. RuleHolds cert.level (item_of s r) (sat r)) rows
  rules = rules_each (RuleHolds cert.level) (item_of s) sat rows
      (subst (AllZip (RuleHolds cert.level) (items class s)) (sym (flags_each s class cert surplus k.apart c)) c.rules)

  pub rule : (r : Row) → Contains rows r → RuleHolds cert.level (item_of s r) (sat r)
  rule r in_it = All-contains (λ r. RuleHolds cert.level (item_of s r) (sat r)) rows r (All-from_recursion (λ r. RuleHolds cert.level (item_of s r) (sat r)) rows rules) in_it

  pub total : sum (spelled (items class s) cert).amounts ≡ total_of cert.level (item_of s) sat rows
  total = ap (λ flags. sum (map (λ p. amount cert.level p.0 p.1) (zip (items class s) flags))) (sym (flags_each s class cert surplus k.apart c)) ∙ amounts_each cert.level (item_of s) sat rows

  below : (r : Row) → IsBelowUse s r (rate r) → amount cert.level (item_of s r) (sat r) < (item_of s r).cap * denominator cert.level
  below r less = below_cap (guaranteed_rate s r) (usable s r) (denominator cert.level) (amount cert.level (item_of s r) (sat r)) less

  class_part : (r : Row) → Contains rows r → IsBelowUse s r (rate r) → HasPart surplus (weight_of r) (weights rows) (rate r)
  class_part r in_it less =
      part cert.level surplus (item_of s r) (sat r) (item_of s) sat rows rules (subst (λ n. SumHolds cert.level n surplus) total c.total) (rule r in_it) (below r less)

  class_cap : (r : Row) → Contains rows r → (rate r).num ≤ (item_of s r).cap * (rate r).den
  class_cap r in_it = within_cap cert.level (item_of s r) (sat r) (rule r in_it)

  class_whole : (r : Row) → IsBelowUse s r (rate r) → sum (spelled (items class s) cert).amounts ≡ denominator cert.level * surplus
  class_whole r less = whole cert.level (sum (spelled (items class s) cert).amounts) surplus (item_of s r) (sat r) c.total (below r less)

  class_no_more : (q r : Row) → Contains rows q → Contains rows r → IsBelowUse s r (rate r) → IsNoMore (weight_of q) (rate q) (weight_of r) (rate r)
  class_no_more q r q_in r_in less =
      omega (arith, mul-le-mul_left (denominator cert.level) (no_less cert.level (item_of s r) (item_of s q) (sat r) (sat q) (rule r r_in) (rule q q_in) (below r less)))

-- Both classes under the certificate of a map.
module _ (s : Input) (cert : MapCert) (k : IsAdmitted s.rule s.gap s.roster) (c : IsCertified s cert) where
  pub of_class : (class : Class) (r : Row) → Contains (members class s.roster) r → same_class r.descriptor.class class ≡ true
  of_class class r in_it = All-contains (λ r. same_class r.descriptor.class class ≡ true) (members class s.roster) r (filter_passes (λ r. same_class r.descriptor.class class) s.roster) in_it

  pub na_rate : (r : Row) → Contains (members NonAssured s.roster) r → surplus_rate s cert r ≡ spelled_rate s NonAssured cert.na r
  na_rate r in_it = non_assured_alone r.descriptor.class (spelled_rate s NonAssured cert.na r) (spelled_rate s BestEffort cert.be r) (of_class NonAssured r in_it)

  pub be_rate : (r : Row) → Contains (members BestEffort s.roster) r → surplus_rate s cert r ≡ spelled_rate s BestEffort cert.be r
  be_rate r in_it = best_effort_alone r.descriptor.class (spelled_rate s NonAssured cert.na r) (spelled_rate s BestEffort cert.be r) (of_class BestEffort r in_it)

  some_part : (class : Class) (r : Row) → Contains (members class s.roster) r → GetsLess s cert r → HasPart (class_surplus class s cert) (weight_of r) (weights (members class s.roster)) (surplus_rate s cert r)
  some_part Plain r in_it less = omega arith
  some_part NonAssured r in_it less =
      let e = na_rate r in_it in
      subst (HasPart (non_assured_surplus s) (weight_of r) (weights (members NonAssured s.roster))) (sym e)
      (class_part s NonAssured cert.na (surplus s) k c.non_assured r in_it (subst (IsBelowUse s r) e less))
  some_part BestEffort r in_it less =
      let e = be_rate r in_it in
      subst (HasPart (best_effort_surplus s cert) (weight_of r) (weights (members BestEffort s.roster))) (sym e)
      (class_part s BestEffort cert.be (best_effort_surplus s cert) k c.best_effort r in_it (subst (IsBelowUse s r) e less))

  pub each_part : (class : Class) (r : Row) → Contains (members class s.roster) r → GetsLess s cert r → HasPart (class_surplus class s cert) (weight_of r) (class_weight class s.roster) (surplus_rate s cert r)
  each_part class r in_it less = subst (λ all. HasPart (class_surplus class s cert) (weight_of r) all (surplus_rate s cert r)) (class_weights class s.roster) (some_part class r in_it less)

  pub plain_rate : (r : Row) → Contains (members Plain s.roster) r → surplus_rate s cert r ≡ record { num = 0; den = 1 }
  plain_rate r in_it = none r.descriptor.class (of_class Plain r in_it)
    where
      none : (class : Class) → same_class class Plain ≡ true → rate_in class (spelled_rate s NonAssured cert.na r) (spelled_rate s BestEffort cert.be r) ≡ record { num = 0; den = 1 }
      none Plain e = refl
      none NonAssured e = absurd (let t : false ≡ true = e in cc)
      none BestEffort e = absurd (let t : false ≡ true = e in cc)

  -- of two members of a class, one that gets less than it can use gets no less for its weight than the other
  pub no_more : (class : Class) (q r : Row) → Contains (members class s.roster) q → Contains (members class s.roster) r → GetsLess s cert r →
      IsNoMore (weight_of q) (surplus_rate s cert q) (weight_of r) (surplus_rate s cert r)
  no_more Plain q r q_in r_in less = rw (plain_rate q q_in) (omega arith)
  no_more NonAssured q r q_in r_in less =
      let e = na_rate q q_in in let f = na_rate r r_in in
      subst (λ a. IsNoMore (weight_of q) a (weight_of r) (surplus_rate s cert r)) (sym e)
      (subst (λ b. IsNoMore (weight_of q) (spelled_rate s NonAssured cert.na q) (weight_of r) b) (sym f)
      (class_no_more s NonAssured cert.na (surplus s) k c.non_assured q r q_in r_in (subst (IsBelowUse s r) f less)))
  no_more BestEffort q r q_in r_in less =
      let e = be_rate q q_in in let f = be_rate r r_in in
      subst (λ a. IsNoMore (weight_of q) a (weight_of r) (surplus_rate s cert r)) (sym e)
      (subst (λ b. IsNoMore (weight_of q) (spelled_rate s BestEffort cert.be q) (weight_of r) b) (sym f)
      (class_no_more s BestEffort cert.be (best_effort_surplus s cert) k c.best_effort q r q_in r_in (subst (IsBelowUse s r) f less)))

  -- What is assigned in all, from what each class gets: n over dn, and b over db.

  abbrev dn : ℕ
  dn = denominator cert.na.level

  abbrev db : ℕ
  db = denominator cert.be.level

  abbrev na_sum : ℕ
  na_sum = sum (non_assured_share s cert).amounts

  abbrev be_sum : ℕ
  be_sum = sum (best_effort_share s cert).amounts

  adds_up : (g n b room left most dn db : ℕ) → g + most ≡ room → n + dn * left ≡ dn * most → b ≡ db * left → dn * db * g + db * n + dn * b ≡ dn * db * room
  adds_up g n b room left most dn db base rest full =
      omega (arith, ap (λ (n : ℕ). dn * db * n) base, ap (λ (n : ℕ). db * n) rest, ap (λ (n : ℕ). dn * n) full)

  -- best effort gets all that the non-assured class leaves
  if_best_effort : be_sum ≡ db * best_effort_surplus s cert → AssignsAll s cert
  if_best_effort full =
      adds_up (sum_by (guaranteed_rate s) s.roster) na_sum be_sum (WORD_RATE * capacity s.rule s.gap s.roster) (best_effort_surplus s cert) (surplus s) dn db
      (omega (arith, guaranteed_fits s k)) (left_rest (items NonAssured s) (surplus s) cert.na.level cert.na.saturated c.non_assured) full

  -- the non-assured class gets all of the surplus, so nothing is left
  nothing : (d left most n : ℕ) → 0 < d → n ≡ d * most → n + d * left ≡ d * most → left ≡ 0
  nothing d zero most n h e f = refl
  nothing d (suc left) most n h e f = absurd (omega (arith, e, f, h, mul-le-mul_left d (let one : 1 ≤ suc left = omega arith in one)))

  if_non_assured : na_sum ≡ dn * surplus s → AssignsAll s cert
  if_non_assured full =
      let none : best_effort_surplus s cert ≡ 0 = nothing dn (best_effort_surplus s cert) (surplus s) na_sum (is_feasible (items NonAssured s) (surplus s) cert.na c.non_assured).has_over full
      (left_rest (items NonAssured s) (surplus s) cert.na.level cert.na.saturated c.non_assured) in
      let within : be_sum ≤ db * best_effort_surplus s cert = (is_feasible (items BestEffort s) (best_effort_surplus s cert) cert.be c.best_effort).within_surplus in
      if_best_effort (omega (arith, within, ap (λ (n : ℕ). db * n) none))

  pub no_idle : (class : Class) (r : Row) → Contains (members class s.roster) r → class ≢ Plain → GetsLess s cert r → AssignsAll s cert
  no_idle Plain r in_it shares less = absurd (shares refl)
  no_idle NonAssured r in_it shares less = if_non_assured (class_whole s NonAssured cert.na (surplus s) k c.non_assured r (subst (IsBelowUse s r) (na_rate r in_it) less))
  no_idle BestEffort r in_it shares less = if_best_effort (class_whole s BestEffort cert.be (best_effort_surplus s cert) k c.best_effort r (subst (IsBelowUse s r) (be_rate r in_it) less))

  -- Each Alloc-ID of both classes gets what it can use, or all of the capacity is assigned.

  pub in_roster : (class : Class) (r : Row) → Contains (members class s.roster) r → IsInRange r
  in_roster class r in_it = All-contains IsInRange (members class s.roster) r (All-filter (λ r. same_class r.descriptor.class class) IsInRange s.roster k.in_range) in_it

  use_or_less : (r : Row) (rate : Frac) → IsInRange r → rate.num ≤ (item_of s r).cap * rate.den → (guaranteed_rate s r * rate.den + rate.num ≡ usable s r * rate.den) ⊎ IsBelowUse s r rate
  use_or_less r rate range cap = elim (cases_lt (guaranteed_rate s r * rate.den + rate.num) (usable s r * rate.den)) [
    | inl lt ↦ inr lt
    | inr ge ↦
        let enough : promised r.descriptor ≤ r.descriptor.max = range.descriptor.enough in
        let parts : usable s r ≡ guaranteed_rate s r + (item_of s r).cap = omega (arith, enough) in
        inl (same (guaranteed_rate s r) (item_of s r).cap (usable s r) rate.den rate.num parts cap ge)
  ]
    where
      same : (g c u den num : ℕ) → u ≡ g + c → num ≤ c * den → u * den ≤ g * den + num → g * den + num ≡ u * den
      same g c u den num e most ge = omega (arith, ap (λ (n : ℕ). n * den) e, most, ge)

  -- if each element has a property or else X holds, then X holds or each has it
  either : (P : Row → Type 0) (X : Type 0) (rows : List Row) → AllByRecursion (λ r. P r ⊎ X) rows → AllByRecursion P rows ⊎ X
  either P X [] h = inl tt
  either P X (r ∷ rows) h = elim h.0 [
    | inr x ↦ inr x
    | inl p ↦ elim (either P X rows h.1) [ inl rest ↦ inl (p, rest) | inr x ↦ inr x ]
  ]

  one_served : (class : Class) → class ≢ Plain → (r : Row) → Contains (members class s.roster) r → (surplus_rate s cert r).num ≤ (item_of s r).cap * (surplus_rate s cert r).den → GetsUse s cert r ⊎ AssignsAll s cert
  one_served class shares r in_it cap = elim (use_or_less r (surplus_rate s cert r) (in_roster class r in_it) cap) [ inl exact ↦ inl exact | inr less ↦ inr (no_idle class r in_it shares less) ]

  class_served : (class : Class) → class ≢ Plain → ((r : Row) → Contains (members class s.roster) r → (surplus_rate s cert r).num ≤ (item_of s r).cap * (surplus_rate s cert r).den) →
      All (GetsUse s cert) (members class s.roster) ⊎ AssignsAll s cert
  class_served class shares caps = elim (either (GetsUse s cert) (AssignsAll s cert) (members class s.roster)
      (recursion_from_All (λ r. GetsUse s cert r ⊎ AssignsAll s cert) (members class s.roster)
      (All-weaker (Contains (members class s.roster)) (λ r. GetsUse s cert r ⊎ AssignsAll s cert) (λ r in_it. one_served class shares r in_it (caps r in_it)) (members class s.roster) (All-contains_itself (members class s.roster))))) [
        | inl each ↦ inl (All-from_recursion (GetsUse s cert) (members class s.roster) each)
        | inr x ↦ inr x
      ]

  pub na_cap : (r : Row) → Contains (members NonAssured s.roster) r → (surplus_rate s cert r).num ≤ (item_of s r).cap * (surplus_rate s cert r).den
  na_cap r in_it = subst (λ (f : Frac). f.num ≤ (item_of s r).cap * f.den) (sym (na_rate r in_it)) (class_cap s NonAssured cert.na (surplus s) k c.non_assured r in_it)

  pub be_cap : (r : Row) → Contains (members BestEffort s.roster) r → (surplus_rate s cert r).num ≤ (item_of s r).cap * (surplus_rate s cert r).den
  be_cap r in_it = subst (λ (f : Frac). f.num ≤ (item_of s r).cap * f.den) (sym (be_rate r in_it)) (class_cap s BestEffort cert.be (best_effort_surplus s cert) k c.best_effort r in_it)

  pub served_or_assigned : ServesAll s cert ⊎ AssignsAll s cert
  served_or_assigned = elim (class_served NonAssured (λ (e : NonAssured ≡ Plain). cc) na_cap) [
    | inr x ↦ inr x
    | inl na ↦ elim (class_served BestEffort (λ (e : BestEffort ≡ Plain). cc) be_cap) [ inr x ↦ inr x | inl be ↦ inl (na, be) ]
  ]
