-- How the rate that is not guaranteed is shared: the problem of each class, and the rates that a certificate gives
-- (ITU-T G.987.3: rate-proportional assignment, the non-assured class before best effort). Rates in kbit/s.
use Rattle.std.specs.Prelude.{ℕ, ◌-◌, ◌*◌, ◌==◌, Bool, true, false, List, map, filter, sum_by}
use Rattle.std.specs.List.{list_any}
use Rattle.pon_units.specs.declared.limits.TheConstants.{WORD_RATE}
use Rattle.pon_units.specs.Frac.{Frac}
use Rattle.pon_descr.specs.declared.class.Class.{Class}
use Rattle.pon_descr.specs.declared.class.Class.TheVariants.{Plain, NonAssured, BestEffort}
use Rattle.pon_descr.specs.Descriptor.{Descriptor, promised}
use Rattle.pon_admit.specs.declared.row.Row.{Row}
use Rattle.pon_admit.specs.Roster.{capacity}
use Rattle.pon_guar.specs.Book.{load_of}
use Rattle.pon_guar.specs.Rates.{cap}
use Rattle.pon_cert.specs.declared.problem.Item.{Item}
use Rattle.pon_cert.specs.declared.cert.ClassCert.{ClassCert}
use Rattle.pon_cert.specs.declared.cert.MapCert.{MapCert}
use Rattle.pon_cert.specs.Certificate.{IsMapCertificate, amount, denominator}
use Rattle.pon_cert.specs.Spelling.{saturated_names}
use Rattle.pon_demand.specs.Input.{Input}
use Rattle.pon_demand.specs.Rates.{guaranteed_rate}

abbrev pub same_class : Class → Class → Bool
same_class Plain Plain = true
same_class NonAssured NonAssured = true
same_class BestEffort BestEffort = true
same_class _ _ = false

-- the rows of a class, and their Alloc-IDs, in map order
abbrev pub members : Class → List Row → List Row
members class rows = filter (λ r. same_class r.descriptor.class class) rows

abbrev pub member_ids : Class → List Row → List ℕ
member_ids class rows = map (λ r. r.alloc_id) (members class rows)

-- the weight: in best effort the maximum rate reduced by the promised rate, otherwise the promised rate
abbrev pub weight_in : Class → Descriptor → ℕ
weight_in BestEffort d = d.max - promised d
weight_in _ d = promised d

-- the item of an admitted Alloc-ID: its weight, and the greatest surplus that it can use
abbrev pub item_of : Input → Row → Item
item_of s r = record { weight = weight_in r.descriptor.class r.descriptor; cap = cap r.descriptor (load_of s.book r.alloc_id) }

abbrev pub items : Class → Input → List Item
items class s = map (item_of s) (members class s.roster)

-- the capacity, at 256 kbit/s a word, reduced by the guaranteed rates
abbrev pub surplus : Input → ℕ
surplus s = WORD_RATE * capacity s.rule s.gap s.roster - sum_by (guaranteed_rate s) s.roster

-- the non-assured class shares the surplus, and best effort what that class leaves
abbrev pub IsCertified : Input → MapCert → Type 0
IsCertified s cert = IsMapCertificate (items NonAssured s) (items BestEffort s) (surplus s) cert

-- an Alloc-ID is saturated by the certificate of a class
abbrev pub is_saturated : Class → List Row → ClassCert → ℕ → Bool
is_saturated class rows cert i = list_any (λ j. j == i) (saturated_names (member_ids class rows) cert.saturated)

-- the rate that the certificate of a class gives to an Alloc-ID
abbrev pub spelled_rate : Input → Class → ClassCert → Row → Frac
spelled_rate s class cert r = record {
  num = amount cert.level (item_of s r) (is_saturated class s.roster cert r.alloc_id);
  den = denominator cert.level;
}

-- the rate of an Alloc-ID in its class: 0 if it has none, otherwise that of the class
abbrev pub rate_in : Class → Frac → Frac → Frac
rate_in Plain na be = record { num = 0; den = 1 }
rate_in NonAssured na be = na
rate_in BestEffort na be = be

abbrev pub surplus_rate : Input → MapCert → Row → Frac
surplus_rate s cert r = rate_in r.descriptor.class (spelled_rate s NonAssured cert.na r) (spelled_rate s BestEffort cert.be r)
