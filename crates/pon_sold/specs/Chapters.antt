-- What was sold to an Alloc-ID over the entries of a chapter.
use Rattle.std.specs.Prelude.{ℕ, zero, suc, List, [], ◌∷◌, length, ⊤, ◌+◌, ◌≤◌, ◌<◌, ◌==◌, ◌&&◌, nat_le, Bool, if◌then◌else◌, slice_get, Option, Some, None}
use Rattle.pon_units.specs.declared.limits.TheConstants.{WORD_RATE}
use Rattle.pon_admit.specs.declared.event.Event.{Event}
use Rattle.pon_admit.specs.declared.event.Event.TheVariants.{Admit, Remove}
use Rattle.pon_admit.specs.declared.rule.Rule.{Rule}
use Rattle.pon_admit.specs.declared.rule.Rule.TheVariants.{DropRemainders, CarryRemainders}
use Rattle.pon_state.specs.State.{State}
use Rattle.pon_state.specs.Entry.{Entry}
use Rattle.pon_state.specs.declared.reply.MadeMap.{MadeMap}
use Rattle.pon_state.specs.declared.reply.Reply.{Reply}
use Rattle.pon_state.specs.declared.reply.Reply.TheVariants.{Taken, Map}
use Rattle.pon_history.specs.Chapters.{Chapter, Follows, IsLawfulChapter, state_before}
use Rattle.pon_sure.specs.Sure.{maps_for_a_word}
use Rattle.pon_why.specs.Rates.{rates_of}
use Rattle.pon_sold.specs.Watches.{after_rows, restarted, stopped}
use Rattle.pon_sold.specs.declared.watch.Sold.{Sold}
use Rattle.pon_sold.specs.declared.watch.Watch.{Watch}

-- only maps under the rule that carries what whole words leave are looked at
abbrev pub where_carried : Rule → Watch → Watch → Watch
where_carried CarryRemainders new old = new
where_carried DropRemainders new old = old

-- the map of a state
abbrev pub after_map : ℕ → State → MadeMap → Watch → Watch
after_map i s made w = where_carried s.rule (after_rows i s.roster (rates_of s made.cert) made.map w) w

-- an admission begins a run of maps, and a removal ends it
abbrev pub after_event : ℕ → Event → Watch → Watch
after_event i (Admit r) w = if r.alloc_id == i then restarted w else w
after_event i (Remove alloc_id) w = if alloc_id == i then restarted w else w
after_event i _ w = w

-- the frame is in a range
abbrev pub is_between : ℕ → ℕ → ℕ → Bool
is_between first last frame = nat_le first frame && nat_le frame last

-- what an event and its reply do, with maps of frames of a range
abbrev pub after_reply : ℕ → ℕ → ℕ → State → Event → Reply → Watch → Watch
after_reply first last i s event Taken w = after_event i event w
after_reply first last i s event (Map made) w = if is_between first last made.frame then after_map i s made w else w

abbrev pub after_entry : ℕ → ℕ → ℕ → State → Option Entry → Watch → Watch
after_entry first last i s None w = w
after_entry first last i s (Some e) w = after_reply first last i s e.event e.reply w

-- the first `n` entries of a chapter
abbrev pub watch_over : ℕ → ℕ → ℕ → Chapter → Watch → ℕ → Watch
watch_over first last i c w zero = w
watch_over first last i c w (suc n) = after_entry first last i (state_before c n) (slice_get c.entries n) (watch_over first last i c w n)

-- over no run of maps a word is missing, and no wait is above the bound
pub record GotAllSold (s : Sold) : Type 0 where
  pub words : s.shortfall < WORD_RATE
  pub wait : s.wait ≤ maps_for_a_word s.least

-- Chapters of a port, one after another.

-- a chapter goes on with the runs of maps of the one before it if its number is the next one
abbrev pub begun : Option ℕ → ℕ → Watch → Watch
begun None number w = stopped w
begun (Some before) number w = if number == before + 1 then w else stopped w

-- the chapters after one with a number, or after none
abbrev pub watch_all : ℕ → ℕ → ℕ → Option ℕ → List Chapter → Watch → Watch
watch_all first last i before [] w = w
watch_all first last i before (c ∷ cs) w = watch_all first last i (Some c.number) cs (watch_over first last i c (begun before c.number w) (length c.entries))

-- lawful chapters after one, of which each opens with the end of the one before it if its number is the next one
abbrev pub GoOn : Chapter → List Chapter → Type 0
GoOn c [] = ⊤
GoOn c (d ∷ ds) = IsLawfulChapter d × Follows c d × GoOn d ds

-- lawful chapters of a port
abbrev pub AreOfPort : List Chapter → Type 0
AreOfPort [] = ⊤
AreOfPort (c ∷ cs) = IsLawfulChapter c × GoOn c cs
