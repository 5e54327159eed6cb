-- Whether an opening is a given state.
use Rattle.std.specs.Prelude.{◌≡◌, ◌+◌, All, List, Some}
use Rattle.pon_guar.specs.declared.account.Account.{Account}
use Rattle.pon_guar.specs.Book.{account_of}
use Rattle.pon_state.specs.State.{State}
use Rattle.pon_record.specs.declared.row.RawRow.{RawRow}
use Rattle.pon_record.specs.Openings.{Opening}
use Rattle.pon_record.specs.Chapters.{PlacedChapter}
use Rattle.pon_audit.specs.declared.ends.End.{End}
use Rattle.pon_audit.specs.Openings.{roster_of, row_account, row_carries}

-- a report book has the account of a row
abbrev pub HasAccount : List Account → RawRow → Type 0
HasAccount book r = account_of book r.alloc_id ≡ Some (row_account r)

-- an opening has the rule, the gap, the profile, the next frame, the cause and the number of earlier entries of a state
pub record HasNumbers (o : Opening) (s : State) : Type 0 where
  pub rule : o.rule ≡ s.rule
  pub gap : o.gap ≡ s.gap
  pub profile : o.profile ≡ s.profile
  pub next : o.next ≡ s.next
  pub cause : o.cause ≡ s.cause
  pub taken_before : o.taken_before ≡ s.taken_before

-- an opening has the numbers, the rows, their carries and accounts, and the window of a state
pub record HasParts (o : Opening) (s : State) : Type 0 where
  pub numbers : HasNumbers o s
  pub rows : roster_of o ≡ s.roster
  pub carries : row_carries o ≡ s.carries
  pub accounts : All (HasAccount s.book) o.rows
  pub window : o.window ≡ s.window

-- the end of a chapter of the same port with the number before
pub record IsBefore (e : End) (later : PlacedChapter) : Type 0 where
  pub port : e.port ≡ later.body.port
  pub number : later.body.number ≡ e.number + 1
