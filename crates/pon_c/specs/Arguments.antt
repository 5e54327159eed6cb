-- The arguments of calls from C: their ranges, and what they stand for.
use Rattle.std.specs.Prelude.{ℕ, zero, suc, ◌≤◌, ◌≡◌, ◌⊎◌, ◌==◌, if◌then◌else◌, List, All, map, Some, None}
use Rattle.std.specs.declared.option.Option.{Option}
use Rattle.pon_units.specs.declared.limits.TheConstants.{MAX_ALLOC_ID, MAX_GAP, MAX_OCCUPANCY, MIN_ALLOC_ID, MIN_GAP}
use Rattle.pon_admit.specs.declared.event.Event.{Event}
use Rattle.pon_admit.specs.declared.event.Event.TheVariants.{Admit, Change, Report}
use Rattle.pon_descr.specs.declared.class.Class.{Class}
use Rattle.pon_descr.specs.declared.class.Class.TheVariants.{Plain, NonAssured, BestEffort}
use Rattle.pon_descr.specs.Descriptor.{Descriptor, descriptor_refusal}
use Rattle.pon_descr.specs.declared.refusal.Refusal.{Refusal}
use Rattle.pon_c.specs.Numbers.{number_of}
use Rattle.pon_c.specs.declared.numbers.TheConstants.{GARBLED}

abbrev pub IsAllocId : ℕ → Type 0
IsAllocId n = (MIN_ALLOC_ID ≤ n) × (n ≤ MAX_ALLOC_ID)

abbrev pub IsGap : ℕ → Type 0
IsGap n = (MIN_GAP ≤ n) × (n ≤ MAX_GAP)

abbrev pub IsCause : ℕ → Type 0
IsCause n = (1 ≤ n) × (n ≤ 9)

-- a class of a number: 0 shares no surplus, 1 is non-assured, 2 best effort
abbrev pub IsClass : ℕ → Type 0
IsClass n = n ≤ 2

abbrev pub class_of : ℕ → Class
class_of zero = Plain
class_of (suc zero) = NonAssured
class_of (suc (suc n)) = BestEffort

abbrev pub descriptor_of : ℕ → ℕ → ℕ → ℕ → Descriptor
descriptor_of fixed assured max class = record { fixed = fixed; assured = assured; max = max; class = class_of class }

-- the events of these numbers
abbrev pub admits : ℕ → ℕ → Descriptor → Event
admits onu alloc_id descriptor = Admit (record { onu = onu; alloc_id = alloc_id; descriptor = descriptor })

abbrev pub changes : ℕ → Descriptor → Event
changes alloc_id descriptor = Change alloc_id descriptor

-- the number of the refusal of a descriptor
abbrev pub TellsDescriptor : Descriptor → ℕ → Type 0
TellsDescriptor d n = (why : Refusal) × (descriptor_refusal d ≡ Some why) × (n ≡ number_of why)

-- an occupancy in words, or the number of a garbled report
abbrev pub IsWord : ℕ → Type 0
IsWord n = (n ≡ GARBLED) ⊎ (n ≤ MAX_OCCUPANCY)

abbrev pub AreWords : List ℕ → Type 0
AreWords words = All IsWord words

abbrev pub occupancy_of : ℕ → Option ℕ
occupancy_of n = if n == GARBLED then None else Some n

abbrev pub occupancies_of : List ℕ → List (Option ℕ)
occupancies_of words = map occupancy_of words

abbrev pub reports : ℕ → ℕ → List ℕ → Event
reports frame onu words = Report frame onu (occupancies_of words)
