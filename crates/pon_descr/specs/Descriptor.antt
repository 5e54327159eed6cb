-- Descriptors of the rate-proportional reference model of dynamic bandwidth assignment (ITU-T G.987.3).
use Rattle.std.specs.Prelude.{ℕ, ◌+◌, ◌<◌, ◌≤◌, ◌==◌, ◌||◌, nat_lt, [], ◌∷◌, Option, None}
use Rattle.pon_units.specs.declared.limits.TheConstants.{LINE_RATE}
use Rattle.pon_descr.specs.declared.class.Class.{Class}
use Rattle.pon_descr.specs.declared.class.Class.TheVariants.{Plain, NonAssured, BestEffort}
use Rattle.pon_descr.specs.Checks.{when, first_refusal_of}
use Rattle.pon_descr.specs.declared.refusal.Refusal.{Refusal}
use Rattle.pon_descr.specs.declared.refusal.Refusal.TheVariants.{RateRange, MaxBelowGuaranteed, NeedsGuarantee, NoSurplusRoom}

-- fixed, assured and maximum rate in kbit/s, and the class by which surplus is shared
pub record Descriptor : Type 0 where
  pub fixed : ℕ
  pub assured : ℕ
  pub max : ℕ
  pub class : Class

-- the promised rate: fixed and assured rate together
abbrev pub promised : Descriptor → ℕ
promised d = d.fixed + d.assured

-- a class that shares surplus has a maximum above the promised rate; the non-assured class has a promised rate above 0
abbrev pub SuitsClass : Class → ℕ → ℕ → Type 0
SuitsClass Plain promise most = Unit {0}
SuitsClass NonAssured promise most = (0 < promise) × (promise < most)
SuitsClass BestEffort promise most = promise < most

-- rates in range, the maximum at least the promised rate
pub record IsLawful (d : Descriptor) : Type 0 where
  pub in_range : d.max ≤ LINE_RATE
  pub enough : promised d ≤ d.max
  pub class : SuitsClass d.class (promised d) d.max

-- the refusal of a class for its promised and maximum rate
abbrev pub class_refusal : Class → ℕ → ℕ → Option Refusal
class_refusal Plain promise most = None
class_refusal NonAssured promise most = first_refusal_of (when (promise == 0) NeedsGuarantee ∷ when (promise == most) NoSurplusRoom ∷ [])
class_refusal BestEffort promise most = when (promise == most) NoSurplusRoom

-- the first refusal of the numbers of a descriptor
abbrev pub descriptor_refusal : Descriptor → Option Refusal
descriptor_refusal d = first_refusal_of (
    when (nat_lt LINE_RATE d.fixed || (nat_lt LINE_RATE d.assured || nat_lt LINE_RATE d.max)) RateRange
    ∷ when (nat_lt d.max (promised d)) MaxBelowGuaranteed
    ∷ class_refusal d.class (promised d) d.max
    ∷ [])
