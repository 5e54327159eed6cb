-- Certificates in their parts, and the check of a class, as C is given them.
use Rattle.std.specs.Prelude.{ℕ, zero, suc, ◌≡◌, ◌≢◌, ◌≤◌, ◌++◌, Bool, List, drop, length, map, Some, None}
use Rattle.std.specs.declared.option.Option.{Option}
use Rattle.pon_cert.specs.Certificate.{IsCertificate}
use Rattle.pon_cert.specs.declared.cert.ClassCert.{ClassCert}
use Rattle.pon_cert.specs.declared.cert.Level.{Level}
use Rattle.pon_cert.specs.declared.cert.Level.TheVariants.{All, At}
use Rattle.pon_cert.specs.declared.cert.MapCert.{MapCert}
use Rattle.pon_cert.specs.declared.problem.Item.{Item}
use Rattle.pon_check.specs.Faults.{IsFirstClassFault}
use Rattle.pon_check.specs.declared.fault.CertFault.{CertFault}
use Rattle.pon_check.specs.declared.fault.CertFault.TheVariants as faults
use Rattle.pon_history.specs.Chapters.{Chapter}
use Rattle.pon_history.specs.Last.{LastMap, last_map}
use Rattle.pon_c.specs.Whys.{level_den, level_kind, level_num}
use Rattle.pon_c.specs.declared.checking.ItemInfo.{ItemInfo}
use Rattle.pon_c.specs.declared.checking.LevelsInfo.{LevelsInfo}
use Rattle.pon_c.specs.declared.numbers.TheConstants.{BAD_LEVEL, CERT_DENOMINATOR, CERT_LENGTH, CERT_NOT_EXHAUSTED, CERT_OVERSPENT, CERT_SATURATED, CERT_UNSATURATED, CLOSED, NO_MAP, NO_ROOM}

abbrev pub levels_info : MapCert → LevelsInfo
levels_info cert = record {
  na_num = level_num (Some cert.na.level);
  na_den = level_den (Some cert.na.level);
  be_num = level_num (Some cert.be.level);
  be_den = level_den (Some cert.be.level);
  na_count = length cert.na.saturated;
  be_count = length cert.be.saturated;
  na_level = level_kind (Some cert.na.level);
  be_level = level_kind (Some cert.be.level);
}

-- the levels of a certificate are shown, and its flags are at the front of both rooms, or one is too small
pub record AreShown (cert : MapCert) (n : ℕ) (info : LevelsInfo) (na na_after be be_after : List Bool) : Type 0 where
  pub levels : info ≡ levels_info cert
  pub non_assured : n ≡ 0 → na_after ≡ cert.na.saturated ++ drop (length cert.na.saturated) na
  pub best_effort : n ≡ 0 → be_after ≡ cert.be.saturated ++ drop (length cert.be.saturated) be
  pub few : n ≢ 0 → (n ≡ NO_ROOM) × (na_after ≡ na) × (be_after ≡ be)
  pub enough : length cert.na.saturated ≤ length na → length cert.be.saturated ≤ length be → n ≡ 0

abbrev pub TellsLevels : Option LastMap → ℕ → LevelsInfo → List Bool → List Bool → List Bool → List Bool → Type 0
TellsLevels None n info na na_after be be_after = (n ≡ NO_MAP) × (na_after ≡ na) × (be_after ≡ be)
TellsLevels (Some l) n info na na_after be be_after = AreShown l.made.cert n info na na_after be be_after

abbrev pub ShowsLevels : Option Chapter → ℕ → LevelsInfo → List Bool → List Bool → List Bool → List Bool → Type 0
ShowsLevels None n info na na_after be be_after = (n ≡ CLOSED) × (na_after ≡ na) × (be_after ≡ be)
ShowsLevels (Some c) n info na na_after be be_after = TellsLevels (last_map c) n info na na_after be be_after

abbrev pub item_of : ItemInfo → Item
item_of info = record { weight = info.weight; cap = info.cap }

abbrev pub items_of : List ItemInfo → List Item
items_of infos = map item_of infos

-- a fraction, if its denominator is above 0
abbrev pub fraction_of : ℕ → ℕ → Option Level
fraction_of num zero = None
fraction_of num (suc den) = Some (At (record { num = num; den = suc den }))

-- a level: 1 if each item gets its cap, 2 for a fraction
abbrev pub level_of : ℕ → ℕ → ℕ → Option Level
level_of (suc zero) num den = Some All
level_of (suc (suc zero)) num den = fraction_of num den
level_of _ num den = None

abbrev pub cert_fault_number : CertFault → ℕ
cert_fault_number faults.Length = CERT_LENGTH
cert_fault_number faults.Denominator = CERT_DENOMINATOR
cert_fault_number (faults.Saturated i) = CERT_SATURATED
cert_fault_number (faults.Unsaturated i) = CERT_UNSATURATED
cert_fault_number faults.NotExhausted = CERT_NOT_EXHAUSTED
cert_fault_number faults.Overspent = CERT_OVERSPENT

abbrev pub cert_fault_place : CertFault → ℕ
cert_fault_place faults.Length = 0
cert_fault_place faults.Denominator = 0
cert_fault_place (faults.Saturated i) = i
cert_fault_place (faults.Unsaturated i) = i
cert_fault_place faults.NotExhausted = 0
cert_fault_place faults.Overspent = 0

-- whether this is the certificate of the class problem, or its first fault
pub record TellsClass (items : List Item) (surplus : ℕ) (cert : ClassCert) (n place : ℕ) : Type 0 where
  pub ok : n ≡ 0 → IsCertificate items surplus cert
  pub fault : n ≢ 0 → (fault : CertFault) × IsFirstClassFault items surplus cert fault × (n ≡ cert_fault_number fault) × (place ≡ cert_fault_place fault)

abbrev pub TellsCheck : List Item → ℕ → Option Level → List Bool → ℕ → ℕ → Type 0
TellsCheck items surplus None flags n place = n ≡ BAD_LEVEL
TellsCheck items surplus (Some level) flags n place = TellsClass items surplus (record { level = level; saturated = flags }) n place
