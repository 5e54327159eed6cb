-- The chapters of ports, as a recording has them.
use Rattle.std.specs.Prelude.{◌≡◌, ℕ, ◌<◌, ◌≤◌, ◌^◌, ◌++◌, All, List, length, map}
use Rattle.std.specs.Int.{w64, to_be_bytes}
use Rattle.std.specs.List.{zip}
use Rattle.pon_units.specs.declared.limits.TheConstants.{MAX_PORTS, MAX_STRUCTURES}
use Rattle.pon_cert.specs.Texts.{FitsCert}
use Rattle.pon_admit.specs.declared.row.Row.{Row}
use Rattle.pon_admit.specs.declared.rule.Rule.TheVariants as rule
use Rattle.pon_guar.specs.declared.account.Account.{Account}
use Rattle.pon_guar.specs.Book.{account_of, known_report, since_of_account}
use Rattle.pon_guar.specs.Window.{WindowMap}
use Rattle.pon_state.specs.State.{State}
use Rattle.pon_state.specs.declared.reply.Reply.{Reply}
use Rattle.pon_state.specs.declared.reply.Reply.TheVariants.{Taken, Map}
use Rattle.pon_history.specs.Chapters.{Chapter, IsLawfulChapter}
use Rattle.pon_state.specs.Ranges.{IsStateInRange}
use Rattle.pon_record.specs.declared.limits.TheConstants.{MAX_REPORTED}
use Rattle.pon_record.specs.declared.row.RawRow.{RawRow}
use Rattle.pon_record.specs.declared.version.Version.TheVariants as version
use Rattle.pon_record.specs.Fields.{failure, gap, profile}
use Rattle.pon_record.specs.Openings.{Opening, row_in}
use Rattle.pon_record.specs.Chapters.{Body}

-- an admitted Alloc-ID with what its account has, and its carry
abbrev pub recorded_row : List Account → Row × ℕ → RawRow
recorded_row book x = record {
  onu = x.0.onu;
  alloc_id = x.0.alloc_id;
  descriptor = x.0.descriptor;
  since = since_of_account (account_of book x.0.alloc_id);
  counted = known_report (account_of book x.0.alloc_id);
  carry = x.1;
}

-- the bytes of such a row; they are the same under each rule
abbrev pub row_bytes : List Account → Row × ℕ → List ℕ
row_bytes book x = (row_in version.Two rule.CarryRemainders).write (recorded_row book x)

-- the opening of a chapter
abbrev pub recorded_opening : State → Opening
recorded_opening s = record {
  rule = s.rule;
  gap = s.gap;
  profile = s.profile;
  cause = s.cause;
  next = s.next;
  taken_before = s.taken_before;
  rows = map (recorded_row s.book) (zip s.roster s.carries);
  window = s.window;
}

-- the body that records a chapter of a port
abbrev pub chapter_body : ℕ → Chapter → Body
chapter_body port c = record { port = port; number = c.number; opening = recorded_opening c.opening; entries = c.entries }

-- the body is that of a lawful chapter of a port, from an opening in range
pub record IsOfPort (b : Body) : Type 0 where
  pub port : ℕ
  pub chapter : Chapter
  pub numbered : port < MAX_PORTS
  pub lawful : IsLawfulChapter chapter
  pub count : chapter.number < 2 ^ 64
  pub in_range : IsStateInRange chapter.opening
  pub is : b ≡ chapter_body port chapter

-- the certificate of a replied map fits the format
abbrev pub HoldsFittingCert : Reply → Type 0
HoldsFittingCert Taken = Unit {0}
HoldsFittingCert (Map made) = FitsCert made.cert

-- the counts of a map of the window fit the format
pub record FitsWindowMap (m : WindowMap) : Type 0 where
  pub grants : length m.grants ≤ MAX_STRUCTURES
  pub reported : length m.reported ≤ MAX_REPORTED

-- the counts of an opening fit the format
pub record FitsCounts (s : State) : Type 0 where
  pub rows : length s.roster ≤ MAX_STRUCTURES
  pub carries : length s.carries ≡ length s.roster
  pub maps : All FitsWindowMap s.window

-- the bytes of an opening before its rows
abbrev pub head_bytes : State → List ℕ
head_bytes s = gap.write s.gap ++ profile.write s.profile ++ failure.write s.cause ++ to_be_bytes w64 s.next ++ to_be_bytes w64 s.taken_before
