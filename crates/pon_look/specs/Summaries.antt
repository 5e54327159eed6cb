-- The summary of a chapter.
use Rattle.std.specs.Prelude.{◌≡◌, ◌+◌, length}
use Rattle.pon_record.specs.Chapters.{Body}
use Rattle.pon_look.specs.Counts.{allocs_at_end, failure_count, first_frame, last_frame, map_count, report_count}
use Rattle.pon_look.specs.declared.summary.Summary.{Summary}
use Rattle.pon_look.specs.declared.summary.Totals.{Totals}

-- each number of the summary is that of the chapter
pub record IsSummary (b : Body) (s : Summary) : Type 0 where
  pub of_port : s.port ≡ b.port
  pub of_number : s.number ≡ b.number
  pub first : s.first ≡ first_frame b.entries
  pub last : s.last ≡ last_frame b.entries
  pub maps : s.maps ≡ map_count b.entries
  pub reports : s.reports ≡ report_count b.entries
  pub failures : s.failures ≡ failure_count b.entries
  pub allocs : s.allocs ≡ length b.opening.rows
  pub allocs_end : s.allocs_end ≡ allocs_at_end b

-- one chapter more in the totals
pub record Adds (old new : Totals) (s : Summary) : Type 0 where
  pub chapters : new.chapters ≡ old.chapters + 1
  pub maps : new.maps ≡ old.maps + s.maps
  pub reports : new.reports ≡ old.reports + s.reports
  pub failures : new.failures ≡ old.failures + s.failures
