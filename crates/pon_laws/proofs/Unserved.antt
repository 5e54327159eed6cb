-- Admitted sets of one Alloc-ID: what the laws of one map do not say, since it is false.
use Rattle.std.proofs.Common.{◌≡◌, ◌+◌, ◌*◌, ◌≤◌, List, [], ◌∷◌, true, refl, ap, arith, lit<, lit≤, inl, inr}
use Rattle.std.specs.Prelude.{◌⊎◌, All, Contains, Some}
use Rattle.std.proofs.lemmas.List.Elements.{All-nil}
use Rattle.pon_descr.specs.Descriptor.{Descriptor}
use Rattle.pon_descr.specs.declared.class.Class.{Class}
use Rattle.pon_descr.specs.declared.class.Class.TheVariants.{Plain, NonAssured, BestEffort}
use Rattle.pon_admit.specs.declared.row.Row.{Row}
use Rattle.pon_admit.specs.declared.rule.Rule.TheVariants.{CarryRemainders}
use Rattle.pon_admit.specs.Roster.{IsAdmitted, IsInRange}
use Rattle.pon_admit.proofs.AdmittedSets.{admit_keeps}
use Rattle.pon_guar.specs.Book.{load_of}
use Rattle.pon_guar.specs.declared.account.Account.{Account}
use Rattle.pon_cert.specs.declared.problem.Item.{Item}
use Rattle.pon_cert.specs.declared.cert.Level.TheVariants as level
use Rattle.pon_cert.specs.declared.cert.ClassCert.{ClassCert}
use Rattle.pon_cert.specs.declared.cert.MapCert.{MapCert}
use Rattle.pon_demand.specs.Input.{Input}
use Rattle.pon_demand.specs.Rates.{guaranteed_rate}
use Rattle.pon_demand.specs.Sharing.{IsCertified, item_of, members, surplus_rate}
use Rattle.pon_sure.specs.Sure.{class_weight, sure_surplus, weight_of}
use Rattle.pon_sure.specs.declared.sure.Sure.{Sure}
use Rattle.pon_laws.specs.Exact.{IsAtLeast}
use Rattle.pon_laws.specs.Shares.{AssignsAll, GetsLess, HasPart, IsSureOf, rate_of}

abbrev row : Descriptor → Row
row d = record { onu = 0; alloc_id = 1024; descriptor = d }

abbrev alone : Row → List Account → Input
alone r book = record { rule = CarryRemainders; gap = 16; roster = r ∷ []; book = book }

no_rows : IsAdmitted CarryRemainders 16 []
no_rows = record { in_map_order = tt; apart = tt; in_range = All-nil IsInRange; few_allocs = lit≤ tt; few_onus = lit≤ tt; short_series = λ u. omega arith; fitting = refl }

-- ---- without a class: 256 of at most 768 kbit/s are promised, and 512 are reported

abbrev plain : Row
plain = row (record { fixed = 256; assured = 0; max = 768; class = Plain })

abbrev loaded : Input
loaded = alone plain (record { alloc_id = 1024; since = 0; counted = Some (record { frame = 0; words = 2 }) } ∷ [])

plain_in_range : IsInRange plain
plain_in_range = record { onu = lit≤ tt; managed = lit≤ tt; alloc_id = lit≤ tt; descriptor = record { in_range = lit≤ tt; enough = lit≤ tt; class = tt } }

abbrev nobody : ClassCert
nobody = record { level = level.All; saturated = [] }

abbrev empty : MapCert
empty = record { na = nobody; be = nobody }

empty_certified : IsCertified loaded empty
empty_certified = record { non_assured = record { denominator = tt; rules = tt; total = omega arith }; best_effort = record { denominator = tt; rules = tt; total = omega arith } }

plain_admitted : IsAdmitted CarryRemainders 16 (plain ∷ [])
plain_admitted = admit_keeps CarryRemainders 16 [] plain refl plain_in_range no_rows

-- it waits, and 9,699 words are idle: the law is about the two classes
plain_waits : ((s : Input) (cert : MapCert) → IsAdmitted s.rule s.gap s.roster → IsCertified s cert → (class : Class) (r : Row) → Contains (members class s.roster) r → GetsLess s cert r → AssignsAll s cert) → ⊥
plain_waits claim =
    let bad : 256 ≡ 2483200 = claim loaded empty plain_admitted empty_certified Plain plain (0, lit< tt, refl) (lit< tt) in
    omega (arith, bad)

-- nor has it any part of what the promised rates leave: a class has its own sure surplus
plain_shares_nothing : ((s : Input) (cert : MapCert) → IsAdmitted s.rule s.gap s.roster → IsCertified s cert → (class : Class) (r : Row) → Contains (members class s.roster) r → GetsLess s cert r →
    HasPart (sure_surplus NonAssured s.rule s.gap s.roster) (weight_of r) (class_weight class s.roster) (surplus_rate s cert r)) → ⊥
plain_shares_nothing claim =
    let bad : 2482944 * 256 * 1 ≤ 0 = claim loaded empty plain_admitted empty_certified Plain plain (0, lit< tt, refl) (lit< tt) in
    omega (arith, bad)

-- what is sure of it is a surplus of 0, and no more
abbrev sure : Sure
sure = record { guaranteed = 256; surplus = 0; wait = Some 1 }

sure_of_no_more : ((s : Input) (cert : MapCert) (class : Class) (r : Row) (x : Sure) → IsAdmitted s.rule s.gap s.roster → IsCertified s cert → Contains (members class s.roster) r → Contains s.roster r → IsSureOf s r x →
    x.guaranteed + x.surplus ≤ load_of s.book r.alloc_id → IsAtLeast (rate_of s cert r) (x.guaranteed + x.surplus + 1) 0) → ⊥
sure_of_no_more claim =
    let bad : 257 ≤ 256 = claim loaded empty Plain plain sure plain_admitted empty_certified (0, lit< tt, refl) (0, lit< tt, refl) refl (lit≤ tt) in
    omega (arith, bad)

-- its cap is of its own load, and not of that of another number
own_cap : ((s t : Input) (r : Row) → load_of s.book r.onu ≡ load_of t.book r.onu → item_of s r ≡ item_of t r) → ⊥
own_cap claim = let bad : 256 ≡ 0 = ap (λ (i : Item). i.cap) (claim loaded (alone plain []) plain refl) in omega (arith, bad)

-- ---- in the non-assured class: at most 768 kbit/s, and nothing is reported

abbrev quiet : Row
quiet = row (record { fixed = 0; assured = 256; max = 768; class = NonAssured })

abbrev silent : Input
silent = alone quiet []

quiet_in_range : IsInRange quiet
quiet_in_range = record { onu = lit≤ tt; managed = lit≤ tt; alloc_id = lit≤ tt; descriptor = record { in_range = lit≤ tt; enough = lit≤ tt; class = (lit< tt, lit< tt) } }

abbrev satisfied : MapCert
satisfied = record { na = record { level = level.All; saturated = true ∷ [] }; be = nobody }

silent_certified : IsCertified silent satisfied
silent_certified = record { non_assured = record { denominator = tt; rules = (refl, tt); total = lit≤ tt }; best_effort = record { denominator = tt; rules = tt; total = omega arith } }

abbrev GetsMax : Input → MapCert → Row → Type 0
GetsMax s cert r = guaranteed_rate s r * (surplus_rate s cert r).den + (surplus_rate s cert r).num ≡ r.descriptor.max * (surplus_rate s cert r).den

-- it gets nothing, and 9,700 words are idle: a maximum rate is not served without a load
quiet_idles : ((s : Input) (cert : MapCert) → IsAdmitted s.rule s.gap s.roster → IsCertified s cert → (All (GetsMax s cert) (members NonAssured s.roster) × All (GetsMax s cert) (members BestEffort s.roster)) ⊎ AssignsAll s cert) → ⊥
quiet_idles claim = elim (claim silent satisfied (admit_keeps CarryRemainders 16 [] quiet refl quiet_in_range no_rows) silent_certified) [
  | inl served ↦ (let bad : 0 ≡ 768 = served.0 0 quiet (lit< tt) in omega (arith, bad))
  | inr all ↦ (let bad : 0 ≡ 2483200 = all in omega (arith, bad))
]
