-- Chapters of ports in the order in which a recording has them.
use Rattle.std.specs.Prelude.{ℕ, ◌≡◌, ◌<◌, ◌^◌, All, AllPairs, List, count_by, sum_by}
use Rattle.pon_units.specs.declared.limits.TheConstants.{MAX_PORTS}
use Rattle.pon_state.specs.Maps.{makes_map}
use Rattle.pon_history.specs.Chapters.{Chapter, Follows, IsLawfulChapter}
use Rattle.pon_state.specs.Ranges.{IsStateInRange}
use Rattle.pon_record.specs.Chapters.{Body}
use Rattle.pon_record.specs.Bodies.{chapter_body}

-- a chapter of a port
pub record PortChapter : Type 0 where
  pub port : ℕ
  pub chapter : Chapter

-- the body that records it
abbrev pub body_of : PortChapter → Body
body_of x = chapter_body x.port x.chapter

-- a lawful chapter, from an opening in range, of a port that there may be
pub record IsRecordable (x : PortChapter) : Type 0 where
  pub numbered : x.port < MAX_PORTS
  pub lawful : IsLawfulChapter x.chapter
  pub count : x.chapter.number < 2 ^ 64
  pub in_range : IsStateInRange x.chapter.opening

-- a later chapter of a port: it has a greater number, and with the next number it opens with the end of the earlier one
pub record IsLater (earlier later : Chapter) : Type 0 where
  pub rises : earlier.number < later.number
  pub follows : Follows earlier later

-- if both are chapters of one port, they are in order
abbrev pub InOrder : PortChapter → PortChapter → Type 0
InOrder earlier later = earlier.port ≡ later.port → IsLater earlier.chapter later.chapter

-- lawful chapters, those of each port in order; one for each port, or all of one port in a row, among others
pub record AreHistories (chapters : List PortChapter) : Type 0 where
  pub each : All IsRecordable chapters
  pub ordered : AllPairs InOrder chapters

-- the number of maps of all chapters
abbrev pub map_count : List PortChapter → ℕ
map_count chapters = sum_by (λ x. count_by (λ e. makes_map e.event) x.chapter.entries) chapters
