-- What is sure for an Alloc-ID whatever others report: it follows from the admitted set alone. Rates in kbit/s.
use Rattle.std.specs.Prelude.{ℕ, ◌+◌, ◌-◌, ◌*◌, ◌/◌, ◌==◌, if◌then◌else◌, List, find, min, option_map, sum_by, Option, Some, None}
use Rattle.pon_units.specs.declared.limits.TheConstants.{WORD_RATE}
use Rattle.pon_descr.specs.declared.class.Class.{Class}
use Rattle.pon_descr.specs.declared.class.Class.TheVariants.{Plain, NonAssured, BestEffort}
use Rattle.pon_descr.specs.Descriptor.{promised}
use Rattle.pon_admit.specs.declared.row.Row.{Row}
use Rattle.pon_admit.specs.declared.rule.Rule.{Rule}
use Rattle.pon_admit.specs.Roster.{Roster, capacity, promised_sum}
use Rattle.pon_demand.specs.Sharing.{same_class, weight_in}
use Rattle.pon_sure.specs.declared.sure.Sure.{Sure}

-- the weight of an Alloc-ID in its class, and that of all members of a class
abbrev pub weight_of : Row → ℕ
weight_of r = weight_in r.descriptor.class r.descriptor

abbrev pub weight_within : Class → Row → ℕ
weight_within class r = if same_class r.descriptor.class class then weight_of r else 0

abbrev pub class_weight : Class → List Row → ℕ
class_weight class rows = sum_by (weight_within class) rows

-- the most that an Alloc-ID can take before best effort shares
abbrev pub most_before : Class → Row → ℕ
most_before NonAssured r = r.descriptor.max
most_before _ r = promised r.descriptor

abbrev pub most_before_best_effort : Row → ℕ
most_before_best_effort r = most_before r.descriptor.class r

-- the surplus that no reports can take from a class
abbrev pub sure_surplus : Class → Rule → ℕ → List Row → ℕ
sure_surplus Plain rule gap rows = 0
sure_surplus NonAssured rule gap rows = WORD_RATE * capacity rule gap rows - promised_sum rows
sure_surplus BestEffort rule gap rows = WORD_RATE * capacity rule gap rows - sum_by most_before_best_effort rows

-- the whole kbit/s of the weighted part of an Alloc-ID of it, up to its maximum rate
abbrev pub sure_part : Class → Rule → ℕ → List Row → Row → ℕ
sure_part class rule gap rows r = min (r.descriptor.max - promised r.descriptor) (sure_surplus class rule gap rows * weight_of r / class_weight class rows)

-- the least number of maps in which a rate makes a word: 256 / rate, rounded up
abbrev pub maps_for_a_word : ℕ → ℕ
maps_for_a_word rate = (WORD_RATE + rate - 1) / rate

-- none at a rate of 0
abbrev pub longest_wait : ℕ → Option ℕ
longest_wait rate = if rate == 0 then None else Some (maps_for_a_word rate)

abbrev pub sure_of_row : Roster → Row → Sure
sure_of_row s r = record {
  guaranteed = promised r.descriptor;
  surplus = sure_part r.descriptor.class s.rule s.gap s.rows r;
  wait = longest_wait (promised r.descriptor);
}

-- none if the Alloc-ID is not admitted
abbrev pub sure_of : Roster → ℕ → Option Sure
sure_of s i = option_map (sure_of_row s) (find (λ r. r.alloc_id == i) s.rows)
