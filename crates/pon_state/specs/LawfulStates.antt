-- Lawful states: those that a port may have.
use Rattle.std.specs.Prelude.{ℕ, ◌≡◌, ◌<◌, ◌≤◌, ◌^◌, List, [], length, All, Contains, None, IfSome}
use Rattle.pon_units.specs.declared.limits.TheConstants.{MAX_GAP, MAX_PROFILE, MIN_GAP}
use Rattle.pon_admit.specs.declared.row.Row.{Row}
use Rattle.pon_admit.specs.Roster.{IsAdmitted}
use Rattle.pon_demand.specs.Carries.{AreCarries}
use Rattle.pon_guar.specs.declared.account.Account.{Account}
use Rattle.pon_guar.specs.declared.account.Counted.{Counted}
use Rattle.pon_guar.specs.declared.window.TheConstants.{MAX_MAPS}
use Rattle.pon_guar.specs.Window.{AreConsecutive, IsLawfulMap}
use Rattle.pon_state.specs.Accounts.{AccountsFor}
use Rattle.pon_state.specs.State.{State}

-- an ONU owns the Alloc-ID
abbrev pub Owns : List Row → ℕ → ℕ → Type 0
Owns rows i u = All (λ r. r.alloc_id ≡ i → r.onu ≡ u) rows

-- a counted report is of a frame from the since-frame on, below the next; if its map is in the window, its ONU reported
-- for it
pub record CountedIsLawful (s : State) (a : Account) (c : Counted) : Type 0 where
  pub not_early : a.since ≤ c.frame
  pub not_late : c.frame < s.next
  pub reported : All (λ m. m.frame ≡ c.frame → All (λ r. r.alloc_id ≡ a.alloc_id → Contains m.reported r.onu) s.roster) s.window

-- from the since-frame on, the maps of the window grant to an Alloc-ID under its own ONU
pub record AccountIsLawful (s : State) (a : Account) : Type 0 where
  pub since : a.since ≤ s.next
  pub counted : IfSome a.counted (CountedIsLawful s a)
  pub owner : All (λ m. a.since ≤ m.frame → All (λ g. g.alloc_id ≡ a.alloc_id → Owns s.roster g.alloc_id g.onu) m.grants) s.window

-- a failed port has no window and no counted reports
abbrev pub IsSilent : State → Type 0
IsSilent s = (s.window ≡ []) × All (λ a. a.counted ≡ None) s.book

-- the gap and the burst profile are in their ranges, and the next frame and the number of earlier entries have 64 bits
pub record HasNumbersInRange (s : State) : Type 0 where
  pub shortest_gap : MIN_GAP ≤ s.gap
  pub longest_gap : s.gap ≤ MAX_GAP
  pub profile : s.profile ≤ MAX_PROFILE
  pub next : s.next < 2 ^ 64
  pub taken_before : s.taken_before < 2 ^ 64

-- a state that a port may have
pub record IsLawfulState (s : State) : Type 0 where
  pub numbers : HasNumbersInRange s
  pub admitted : IsAdmitted s.rule s.gap s.roster
  pub book : AccountsFor s.roster s.book
  pub carries : AreCarries s.rule s.roster s.carries
  pub accounts : All (AccountIsLawful s) s.book
  pub few_maps : length s.window ≤ MAX_MAPS
  pub frames : AreConsecutive s.next s.window
  pub maps : All IsLawfulMap s.window
  pub failed : IfSome s.cause (λ cause. IsSilent s)
