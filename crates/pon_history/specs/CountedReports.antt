-- The report that the load of an Alloc-ID depends on, in one sentence: an accepted report of a frame that is not below
-- the since-frame, its words less what was granted from that frame on, and no later one is accepted.
use Rattle.std.specs.Prelude.{ℕ, ◌≡◌, ◌-◌, ◌≤◌, ◌⊎◌, false, List, Contains, Option, Some}
use Rattle.std.specs.List.{list_any}
use Rattle.pon_guar.specs.declared.account.Counted.{Counted}
use Rattle.pon_guar.specs.Book.{account_of, known_report}
use Rattle.pon_guar.specs.Reports.{occupancies}
use Rattle.pon_guar.specs.Window.{grants_at, words_from}
use Rattle.pon_state.specs.State.{State}
use Rattle.pon_history.specs.Windows.{all_maps, maps_of}
use Rattle.pon_history.specs.Parts.{begins}
use Rattle.pon_history.specs.Reports.{since_of}
use Rattle.pon_admit.specs.declared.event.Event.TheVariants.{Report}
use Rattle.pon_state.specs.Entry.{Entry}

-- an entry reports `reported` words for the Alloc-ID, and `c` has them less what the maps from the report's frame on
-- grant
pub record IsEntryReport (o : State) (es : List Entry) (i : ℕ) (c : Counted) : Type 0 where
  pub entry : Entry
  pub onu : ℕ
  pub occ : List (Option ℕ)
  pub reported : ℕ
  pub accepted : Contains es entry
  pub report : entry.event ≡ Report c.frame onu occ
  pub own : Contains (occupancies i (grants_at c.frame onu (all_maps o es)) occ) reported
  pub not_early : since_of o es i ≤ c.frame
  pub left : c.words ≡ reported - words_from i c.frame (all_maps o es)

-- the opening has a report of the Alloc-ID that no entry drops, and `c` has its words less what the entries' maps grant
pub record IsOpeningReport (o : State) (es : List Entry) (i : ℕ) (c : Counted) : Type 0 where
  pub counted : Counted
  pub known : known_report (account_of o.book i) ≡ Some counted
  pub kept : list_any (begins i) es ≡ false
  pub frame : c.frame ≡ counted.frame
  pub left : c.words ≡ counted.words - words_from i 0 (maps_of o.roster o.next es)

-- an accepted report of the Alloc-ID
abbrev pub IsReport : State → List Entry → ℕ → Counted → Type 0
IsReport o es i c = IsEntryReport o es i c ⊎ IsOpeningReport o es i c

-- it counts: no accepted report is of a later frame
pub record Counts (o : State) (es : List Entry) (i : ℕ) (c : Counted) : Type 0 where
  pub accepted : IsReport o es i c
  pub last : (d : Counted) → IsReport o es i d → d.frame ≤ c.frame
