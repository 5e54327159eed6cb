-- A recorded chapter, and the state that it opens with.
use Rattle.std.specs.Prelude.{ℕ, ◌≡◌, ◌<◌, ◌≤◌, ◌&&◌, ◌==◌, Bool, true, All, Contains, IfSome, List, [], None, map}
use Rattle.std.specs.List.{list_any}
use Rattle.pon_units.specs.declared.granted.Granted.{Granted}
use Rattle.pon_admit.specs.declared.row.Row.{Row}
use Rattle.pon_guar.specs.declared.account.Account.{Account}
use Rattle.pon_guar.specs.declared.account.Counted.{Counted}
use Rattle.pon_guar.specs.Book.{account_of, known_since}
use Rattle.pon_guar.specs.Parts.{book_from}
use Rattle.pon_guar.specs.Window.{AreConsecutive, WindowMap}
use Rattle.pon_state.specs.State.{State}
use Rattle.pon_history.specs.Chapters.{Chapter, IsLawfulOpening}
use Rattle.pon_record.specs.declared.row.RawRow.{RawRow}
use Rattle.pon_record.specs.Openings.{Opening}
use Rattle.pon_record.specs.declared.version.Version.{Version}
use Rattle.pon_record.specs.Chapters.{Body, FitsChapter}

-- the chapter fits one of the versions
pub record FitsRecording (b : Body) : Type 0 where
  pub version : Version
  pub fits : FitsChapter version b

-- the row of the roster, and the account of the report book
abbrev pub admitted_row : RawRow → Row
admitted_row r = record { onu = r.onu; alloc_id = r.alloc_id; descriptor = r.descriptor }

abbrev pub row_account : RawRow → Account
row_account r = record { alloc_id = r.alloc_id; since = r.since; counted = r.counted }

-- the roster, and the accounts in the order of the rows
abbrev pub roster_of : Opening → List Row
roster_of o = map admitted_row o.rows

abbrev pub accounts_of : Opening → List Account
accounts_of o = map row_account o.rows

-- what the last map left to each row
abbrev pub row_carries : Opening → List ℕ
row_carries o = map (λ r. r.carry) o.rows

-- the state, under the rule of the opening
abbrev pub state_of : Opening → State
state_of o = record {
  rule = o.rule;
  gap = o.gap;
  profile = o.profile;
  next = o.next;
  cause = o.cause;
  taken_before = o.taken_before;
  roster = roster_of o;
  book = book_from (accounts_of o);
  carries = row_carries o;
  window = o.window;
}

-- the chapter, opened with the state of its opening
abbrev pub chapter_of : Body → Chapter
chapter_of b = record { number = b.number; opening = state_of b.opening; entries = b.entries }

abbrev pub OpensLawfully : Body → Type 0
OpensLawfully b = IsLawfulOpening b.number (state_of b.opening)

-- Parts of a lawful opening.

-- no rows, no window, no cause, no earlier entries
pub record IsBare (o : Opening) : Type 0 where
  pub no_rows : o.rows ≡ []
  pub no_window : o.window ≡ []
  pub up : o.cause ≡ None
  pub none_before : o.taken_before ≡ 0

-- no maps, and no counted reports
pub record AreQuiet (rows : List RawRow) (window : List WindowMap) : Type 0 where
  pub no_window : window ≡ []
  pub no_reports : All (λ r. r.counted ≡ None) rows

-- the counted report is of a frame from the since-frame on, below the next; if its map is in the window, the ONU
-- reported for it
pub record ReportIsLawful (next : ℕ) (window : List WindowMap) (r : RawRow) (c : Counted) : Type 0 where
  pub not_early : r.since ≤ c.frame
  pub not_late : c.frame < next
  pub reported : All (λ m. m.frame ≡ c.frame → Contains m.reported r.onu) window

pub record RowIsLawful (next : ℕ) (window : List WindowMap) (r : RawRow) : Type 0 where
  pub since : r.since ≤ next
  pub counted : IfSome r.counted (ReportIsLawful next window r)

-- an ONU owns an Alloc-ID
abbrev pub has_row : ℕ → ℕ → List Row → Bool
has_row u i rows = list_any (λ r. r.onu == u && r.alloc_id == i) rows

-- a grant in the map of a frame, from the since-frame of its Alloc-ID on, is to the ONU that owns the Alloc-ID
abbrev pub GrantIsOwned : List Row → List Account → ℕ → Granted → Type 0
GrantIsOwned rows book frame g = IfSome (known_since (account_of book g.alloc_id)) (λ since. since ≤ frame → has_row g.onu g.alloc_id rows ≡ true)

abbrev pub MapIsOwned : List Row → List Account → WindowMap → Type 0
MapIsOwned rows book m = All (GrantIsOwned rows book m.frame) m.grants

-- the rows and the window of an opening fit each other and the next frame
pub record Fits (o : Opening) (rows : List Row) (book : List Account) : Type 0 where
  pub frames : AreConsecutive o.next o.window
  pub reports : All (RowIsLawful o.next o.window) o.rows
  pub owned : All (MapIsOwned rows book) o.window
