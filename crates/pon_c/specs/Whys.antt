-- Why the last map gives an Alloc-ID what it gives, in the numbers that C gets.
use Rattle.std.specs.Prelude.{ℕ, ◌≡◌, is_some, Some, None}
use Rattle.std.specs.declared.option.Option.{Option}
use Rattle.pon_bwmap.specs.Alloc.{Alloc}
use Rattle.pon_cert.specs.declared.cert.Level.{Level}
use Rattle.pon_cert.specs.declared.cert.Level.TheVariants.{All, At}
use Rattle.pon_history.specs.Chapters.{Chapter}
use Rattle.pon_why.specs.declared.last.LastExplanation.{LastExplanation}
use Rattle.pon_why.specs.declared.last.LastWhy.{LastWhy}
use Rattle.pon_why.specs.declared.last.LastWhy.TheVariants.{Explained as Explains, NoMap, NoSuchAlloc}
use Rattle.pon_why.specs.Lasts.{why_of}
pub use Rattle.pon_c.specs.States.{class_number, frame_of, words_of}
use Rattle.pon_c.specs.declared.numbers.TheConstants.{CLOSED, NO_MAP, NO_START, NO_SUCH_ALLOC}
use Rattle.pon_c.specs.declared.why.WhyInfo.{WhyInfo}

-- 0 for no level, 1 if each gets its cap, 2 for a fraction
abbrev pub level_kind : Option Level → ℕ
level_kind None = 0
level_kind (Some All) = 1
level_kind (Some (At f)) = 2

abbrev pub level_num : Option Level → ℕ
level_num None = 0
level_num (Some All) = 0
level_num (Some (At f)) = f.num

abbrev pub level_den : Option Level → ℕ
level_den None = 0
level_den (Some All) = 0
level_den (Some (At f)) = f.den

abbrev pub start_or : Option ℕ → ℕ
start_or None = NO_START
start_or (Some start) = start

abbrev pub start_of : Option Alloc → ℕ
start_of None = NO_START
start_of (Some a) = start_or a.start

abbrev pub grant_of : Option Alloc → ℕ
grant_of None = 0
grant_of (Some a) = a.grant

abbrev pub explained : LastExplanation → WhyInfo
explained x = record {
  frame = x.frame;
  fixed = x.row.row.descriptor.fixed;
  assured = x.row.row.descriptor.assured;
  max = x.row.row.descriptor.max;
  load = x.row.load;
  guaranteed = x.row.guaranteed;
  weight = x.row.item.weight;
  cap = x.row.item.cap;
  surplus_num = x.row.surplus.num;
  surplus_den = x.row.surplus.den;
  owed = x.row.owed;
  level_num = level_num x.level;
  level_den = level_den x.level;
  report_frame = frame_of x.row.counted;
  report_words = words_of x.row.counted;
  onu = x.row.row.onu;
  alloc_id = x.row.row.alloc_id;
  start = start_of x.structure;
  grant = grant_of x.structure;
  class = class_number x.row.row.descriptor.class;
  level = level_kind x.level;
  carry = x.row.carry;
  has_report = is_some x.row.counted;
}

abbrev pub TellsLastWhy : LastWhy → ℕ → WhyInfo → Type 0
TellsLastWhy NoMap n info = n ≡ NO_MAP
TellsLastWhy NoSuchAlloc n info = n ≡ NO_SUCH_ALLOC
TellsLastWhy (Explains x) n info = (n ≡ 0) × (info ≡ explained x)

-- the explanation of the last map of the kept chapter, or why there is none
abbrev pub TellsExplained : Option Chapter → ℕ → ℕ → WhyInfo → Type 0
TellsExplained None i n info = n ≡ CLOSED
TellsExplained (Some c) i n info = TellsLastWhy (why_of c.opening c.entries i) n info
