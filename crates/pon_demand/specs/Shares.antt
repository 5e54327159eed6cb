-- The shares of a map under a certificate, from one demand on.
use Rattle.std.specs.Prelude.{◌≡◌, ℕ, ◌*◌, ◌≤◌, Bool, List, ◌∷◌, drop, map, slice_get, Some}
use Rattle.pon_units.specs.declared.limits.TheConstants.{LINE_RATE}
use Rattle.pon_descr.specs.declared.class.Class.{Class}
use Rattle.pon_descr.specs.declared.class.Class.TheVariants.{NonAssured, BestEffort}
use Rattle.pon_admit.specs.declared.row.Row.{Row}
use Rattle.pon_admit.specs.Roster.{IsAdmitted}
use Rattle.pon_cert.specs.declared.problem.TheConstants.{MAX_ITEMS}
use Rattle.pon_cert.specs.declared.problem.Item.{Item}
use Rattle.pon_cert.specs.declared.cert.Level.{Level}
use Rattle.pon_cert.specs.declared.cert.ClassCert.{ClassCert}
use Rattle.pon_cert.specs.declared.cert.MapCert.{MapCert}
use Rattle.pon_cert.specs.Certificate.{RuleHolds, denominator}
use Rattle.pon_cert.specs.Problem.{IsItem}
use Rattle.pon_demand.specs.Demands.{demand_of}
use Rattle.pon_demand.specs.Input.{Input}
use Rattle.pon_demand.specs.Sharing.{IsCertified, is_saturated, members}
use Rattle.pon_demand.specs.declared.demand.Demand.{Demand}
use Rattle.pon_demand.specs.declared.shares.Shares.{Shares}

-- an item of the next member of a class, for which the level and the flag of the member keep the rule of a certificate
pub record IsMember (level : Level) (flags : List Bool) (item : Item) : Type 0 where
  pub flag : Bool
  pub rest : List Bool
  pub first : flags ≡ flag ∷ rest
  pub shares : IsItem item
  pub rule : RuleHolds level item flag
  pub over : denominator level ≤ MAX_ITEMS * LINE_RATE

-- the flags of the members of a class among the rows from row i on
abbrev pub flags_from : Class → Input → ClassCert → ℕ → List Bool
flags_from class s cert i = map (λ r. is_saturated class s.roster cert r.alloc_id) (members class (drop i s.roster))

-- the shares of the rows from row i on
pub record AreSharesAt (s : Input) (cert : MapCert) (i : ℕ) (shares : Shares) : Type 0 where
  pub admitted : IsAdmitted s.rule s.gap s.roster
  pub certified : IsCertified s cert
  pub na_level : shares.na.level.now ≡ cert.na.level
  pub be_level : shares.be.level.now ≡ cert.be.level
  pub na_flags : shares.na.flags.now ≡ flags_from NonAssured s cert.na i
  pub be_flags : shares.be.flags.now ≡ flags_from BestEffort s cert.be i

-- the demand is that of the next row
pub record IsNext (shares : Shares) (d : Demand) : Type 0 where
  pub input : Input
  pub cert : MapCert
  pub index : ℕ
  pub row : Row
  pub shares_at : AreSharesAt input cert index shares
  pub here : slice_get input.roster index ≡ Some row
  pub is : d ≡ demand_of input row
