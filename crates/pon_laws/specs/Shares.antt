-- What a map gives an Alloc-ID, compared with what it can use and with the other members of its class. Rates in kbit/s; a
-- surplus rate is the fraction num / den.
use Rattle.std.specs.Prelude.{◌≡◌, ◌≢◌, All, ℕ, ◌+◌, ◌-◌, ◌*◌, ◌<◌, ◌≤◌, List, Some, length, max, min, sum, sum_by}
use Rattle.pon_units.specs.declared.limits.TheConstants.{WORD_RATE}
use Rattle.pon_units.specs.Frac.{Frac}
use Rattle.pon_bwmap.specs.Alloc.{Alloc}
use Rattle.pon_descr.specs.declared.class.Class.{Class}
use Rattle.pon_descr.specs.declared.class.Class.TheVariants.{Plain, NonAssured, BestEffort}
use Rattle.pon_admit.specs.declared.row.Row.{Row}
use Rattle.pon_admit.specs.Roster.{Roster, capacity}
use Rattle.pon_guar.specs.Book.{load_of}
use Rattle.pon_guar.specs.declared.account.Account.{Account}
use Rattle.pon_cert.specs.declared.cert.MapCert.{MapCert}
use Rattle.pon_demand.specs.ClassShares.{best_effort_share, best_effort_surplus, non_assured_share, non_assured_surplus}
use Rattle.pon_demand.specs.Input.{Input}
use Rattle.pon_demand.specs.Rates.{guaranteed_rate}
use Rattle.pon_demand.specs.Sharing.{members, surplus_rate}
use Rattle.pon_sure.specs.Sure.{sure_of}
use Rattle.pon_sure.specs.declared.sure.Sure.{Sure}
use Rattle.pon_state.specs.State.{State}
use Rattle.pon_state.specs.declared.reply.MadeMap.{MadeMap}

-- the rate that an Alloc-ID can use: its load, but at least the fixed and at most the maximum rate
abbrev pub usable : Input → Row → ℕ
usable s r = min r.descriptor.max (max (load_of s.book r.alloc_id) r.descriptor.fixed)

-- with a surplus rate, an Alloc-ID gets less than it can use
abbrev pub IsBelowUse : Input → Row → Frac → Type 0
IsBelowUse s r rate = guaranteed_rate s r * rate.den + rate.num < usable s r * rate.den

abbrev pub GetsLess : Input → MapCert → Row → Type 0
GetsLess s cert r = IsBelowUse s r (surplus_rate s cert r)

-- it gets exactly what it can use
abbrev pub GetsUse : Input → MapCert → Row → Type 0
GetsUse s cert r = guaranteed_rate s r * (surplus_rate s cert r).den + (surplus_rate s cert r).num ≡ usable s r * (surplus_rate s cert r).den

-- each Alloc-ID of the two classes does
abbrev pub ServesAll : Input → MapCert → Type 0
ServesAll s cert = All (GetsUse s cert) (members NonAssured s.roster) × All (GetsUse s cert) (members BestEffort s.roster)

-- a rate is at least the weighted part of a surplus: surplus * weight / all weights
abbrev pub HasPart : ℕ → ℕ → ℕ → Frac → Type 0
HasPart surplus weight all rate = surplus * weight * rate.den ≤ rate.num * all

-- the surplus that a class shares
abbrev pub class_surplus : Class → Input → MapCert → ℕ
class_surplus Plain s cert = 0
class_surplus NonAssured s cert = non_assured_surplus s
class_surplus BestEffort s cert = best_effort_surplus s cert

-- the roster of an input
abbrev pub roster_of : Input → Roster
roster_of s = record { rule = s.rule; gap = s.gap; rows = s.roster }

-- these numbers are sure for an Alloc-ID
abbrev pub IsSureOf : Input → Row → Sure → Type 0
IsSureOf s r x = sure_of (roster_of s) r.alloc_id ≡ Some x

-- a rate is no more than another, each for a unit of its weight
abbrev pub IsNoMore : ℕ → Frac → ℕ → Frac → Type 0
IsNoMore w a v b = a.num * (v * b.den) ≤ b.num * (w * a.den)

-- the guaranteed rates and the surplus rates of both classes are the capacity, at 256 kbit/s a word; all over the
-- denominators of both classes
abbrev pub AssignsAll : Input → MapCert → Type 0
AssignsAll s cert =
    (non_assured_share s cert).over * (best_effort_share s cert).over * sum_by (guaranteed_rate s) s.roster
    + (best_effort_share s cert).over * sum (non_assured_share s cert).amounts
    + (non_assured_share s cert).over * sum (best_effort_share s cert).amounts
    ≡ (non_assured_share s cert).over * (best_effort_share s cert).over * (WORD_RATE * capacity s.rule s.gap s.roster)

-- the same port with other reports
abbrev pub with_reports : Input → List Account → Input
with_reports s book = record { rule = s.rule; gap = s.gap; roster = s.roster; book = book }

-- the reports differ in the load of one Alloc-ID alone, which is no lower in the second book
pub record IsOnlyMore (s : Input) (book : List Account) (i : ℕ) : Type 0 where
  pub others : (j : ℕ) → j ≢ i → load_of s.book j ≡ load_of book j
  pub own : load_of s.book i ≤ load_of book i

-- guaranteed and surplus rate of an Alloc-ID together
abbrev pub rate_of : Input → MapCert → Row → Frac
rate_of s cert r = record { num = guaranteed_rate s r * (surplus_rate s cert r).den + (surplus_rate s cert r).num; den = (surplus_rate s cert r).den }

-- no load is lower in the second book, and that of one Alloc-ID is the same
pub record IsMoreOfOthers (s : Input) (book : List Account) (i : ℕ) : Type 0 where
  pub others : (j : ℕ) → load_of s.book j ≤ load_of book j
  pub own : load_of s.book i ≡ load_of book i

-- the payload words of a map
abbrev pub payload_words : List Alloc → ℕ
payload_words allocs = sum_by (λ a. a.grant - 1) allocs

-- the words of a map are the capacity, but for less than a word for each Alloc-ID
abbrev pub GrantsAll : State → MadeMap → Type 0
GrantsAll s made = capacity s.rule s.gap s.roster < payload_words made.map + length s.roster
