-- Why a certificate is refused: the first fault, in the order length, denominator, items in order, sum.
use Rattle.std.specs.Prelude.{◌≡◌, ◌≢◌, ℕ, ◌*◌, ◌<◌, Bool, true, false, List, ◌++◌, length, take, sum, Some, slice_get, codes, decimal}
use Rattle.std.specs.List.{AllZip}
use Rattle.pon_cert.specs.declared.problem.Item.{Item}
use Rattle.pon_cert.specs.declared.cert.Level.{Level}
use Rattle.pon_cert.specs.declared.cert.Level.TheVariants as level
use Rattle.pon_cert.specs.declared.cert.ClassCert.{ClassCert}
use Rattle.pon_cert.specs.declared.cert.MapCert.{MapCert}
use Rattle.pon_cert.specs.Certificate.{IsCertificate, RuleHolds, DenominatorHolds, denominator, left_surplus, spelled}
use Rattle.pon_check.specs.declared.fault.CertFault.{CertFault}
use Rattle.pon_check.specs.declared.fault.CertFault.TheVariants.{Length, Denominator, Saturated, Unsaturated, NotExhausted, Overspent}
use Rattle.pon_check.specs.declared.fault.MapCertFault.{MapCertFault}
use Rattle.pon_check.specs.declared.fault.MapCertFault.TheVariants.{NonAssured, BestEffort}

-- there are as many flags as items, and the denominator is right
pub record IsAligned (items : List Item) (cert : ClassCert) : Type 0 where
  pub lengths : length items ≡ length cert.saturated
  pub denominator : DenominatorHolds cert.level items cert.saturated

-- item i, saturated or not as given, is the first that breaks its rule
pub record FailsFirst (level : Level) (items : List Item) (flags : List Bool) (i : ℕ) (saturated : Bool) : Type 0 where
  pub item : Item
  pub is_item : slice_get items i ≡ Some item
  pub is_flag : slice_get flags i ≡ Some saturated
  pub fails : RuleHolds level item saturated → ⊥
  pub before : AllZip (RuleHolds level) (take i items) (take i flags)

-- every item keeps its rule
pub record KeepsRules (items : List Item) (cert : ClassCert) : Type 0 where
  pub aligned : IsAligned items cert
  pub rules : AllZip (RuleHolds cert.level) items cert.saturated

abbrev pub IsFraction : Level → Type 0
IsFraction level.All = ⊥
IsFraction (level.At f) = Unit {0}

-- the sum of the rates is above the surplus, or below it at a fraction
abbrev pub IsSumFault : Level → ℕ → ℕ → CertFault → Type 0
IsSumFault l total surplus Overspent = denominator l * surplus < total
IsSumFault l total surplus NotExhausted = IsFraction l × (total < denominator l * surplus)
IsSumFault l total surplus Length = ⊥
IsSumFault l total surplus Denominator = ⊥
IsSumFault l total surplus (Saturated i) = ⊥
IsSumFault l total surplus (Unsaturated i) = ⊥

abbrev pub IsFirstClassFault : List Item → ℕ → ClassCert → CertFault → Type 0
IsFirstClassFault items surplus cert Length = length items ≢ length cert.saturated
IsFirstClassFault items surplus cert Denominator = (length items ≡ length cert.saturated) × (DenominatorHolds cert.level items cert.saturated → ⊥)
IsFirstClassFault items surplus cert (Saturated i) = IsAligned items cert × FailsFirst cert.level items cert.saturated i true
IsFirstClassFault items surplus cert (Unsaturated i) = IsAligned items cert × FailsFirst cert.level items cert.saturated i false
IsFirstClassFault items surplus cert Overspent = KeepsRules items cert × IsSumFault cert.level (sum (spelled items cert).amounts) surplus Overspent
IsFirstClassFault items surplus cert NotExhausted = KeepsRules items cert × IsSumFault cert.level (sum (spelled items cert).amounts) surplus NotExhausted

-- the first fault of a map: the non-assured class is checked first, best effort against what that class leaves
abbrev pub IsFirstMapCertFault : List Item → List Item → ℕ → MapCert → MapCertFault → Type 0
IsFirstMapCertFault na be surplus cert (NonAssured fault) = IsFirstClassFault na surplus cert.na fault
IsFirstMapCertFault na be surplus cert (BestEffort fault) =
    IsCertificate na surplus cert.na × IsFirstClassFault be (left_surplus cert.na.level na surplus) cert.be fault

-- the name of the fault, and the index of the item if it has one
abbrev pub cert_fault_text : CertFault → List ℕ
cert_fault_text Length = codes "Length"
cert_fault_text Denominator = codes "Denominator"
cert_fault_text (Saturated i) = codes "Saturated " ++ decimal i
cert_fault_text (Unsaturated i) = codes "Unsaturated " ++ decimal i
cert_fault_text NotExhausted = codes "NotExhausted"
cert_fault_text Overspent = codes "Overspent"
