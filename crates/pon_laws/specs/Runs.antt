-- A run: consecutive entries of a chapter, as a chapter of its own; and what its maps give an Alloc-ID.
use Rattle.std.specs.Prelude.{◌≡◌, ℕ, ◌+◌, ◌-◌, ◌/◌, ◌<◌, ◌≤◌, ◌==◌, true, if◌then◌else◌, List, [], ◌∷◌, count_by, drop, length, map, slice_get, take, Option, Some, None}
use Rattle.pon_units.specs.declared.limits.TheConstants.{WORD_RATE}
use Rattle.pon_descr.specs.Descriptor.{Descriptor}
use Rattle.pon_admit.specs.declared.row.Row.{Row}
use Rattle.pon_admit.specs.declared.rule.Rule.TheVariants.{CarryRemainders}
use Rattle.pon_demand.specs.Carries.{number_of}
use Rattle.pon_demand.specs.Rates.{guaranteed_rate}
use Rattle.pon_state.specs.After.{after_entry}
use Rattle.pon_state.specs.Entry.{Entry}
use Rattle.pon_state.specs.Maps.{makes_map}
use Rattle.pon_state.specs.State.{State, input_of}
use Rattle.pon_history.specs.Carries.{rate_of_reply}
use Rattle.pon_history.specs.Chapters.{Chapter, IsLawfulChapter, state_before}
use Rattle.pon_history.specs.WordRuns.{words_of_reply}

-- `count` entries of a chapter, from an index on
abbrev pub run_of : Chapter → ℕ → ℕ → Chapter
run_of c from count = record { number = c.number + 1; opening = state_before c from; entries = take count (drop from c.entries) }

-- the number of maps that entries make
abbrev pub maps_of_entries : List Entry → ℕ
maps_of_entries es = count_by (λ e. makes_map e.event) es

abbrev pub maps_over : Chapter → ℕ
maps_over run = maps_of_entries run.entries

-- the payload words that these maps grant to an Alloc-ID
abbrev pub words_after : State → ℕ → List Entry → ℕ
words_after s i [] = 0
words_after s i (e ∷ es) = words_of_reply s.roster e.reply i + words_after (after_entry s e) i es

abbrev pub words_over : Chapter → ℕ → ℕ
words_over run i = words_after run.opening i run.entries

-- the whole kbit/s of its guaranteed and surplus rates in these maps together
abbrev pub rates_after : State → ℕ → List Entry → ℕ
rates_after s i [] = 0
rates_after s i (e ∷ es) = rate_of_reply (input_of s) e.reply i + rates_after (after_entry s e) i es

abbrev pub rates_over : Chapter → ℕ → ℕ
rates_over run i = rates_after run.opening i run.entries

-- the descriptor of an Alloc-ID, if it is admitted
abbrev pub descriptor_of : List Row → ℕ → Option Descriptor
descriptor_of [] i = None
descriptor_of (r ∷ rows) i = if r.alloc_id == i then Some r.descriptor else descriptor_of rows i

-- the guaranteed rate of an Alloc-ID, 0 if it is not admitted
abbrev pub guaranteed_of : State → ℕ → ℕ
guaranteed_of s i = number_of s.roster (map (guaranteed_rate (input_of s)) s.roster) i

-- in the state before each entry of a run
abbrev pub BeforeEach : (State → Type 0) → Chapter → Type 0
BeforeEach P run = (k : ℕ) → k < length run.entries → P (state_before run k)

-- in the state before each map of a run
abbrev pub BeforeMaps : (State → Type 0) → Chapter → Type 0
BeforeMaps P run = (k : ℕ) (e : Entry) → slice_get run.entries k ≡ Some e → makes_map e.event ≡ true → P (state_before run k)

-- a chapter with a run in which the bounds of the laws are met: over its one map an Alloc-ID with a fixed rate of 255
-- kbit/s is granted no word
pub record IsShortOfAWord (c : Chapter) (from i : ℕ) (d : Descriptor) : Type 0 where
  pub lawful : IsLawfulChapter c
  pub rule : c.opening.rule ≡ CarryRemainders
  pub kept : BeforeEach (λ s. descriptor_of s.roster i ≡ Some d) (run_of c from 1)
  pub fixed : d.fixed ≡ 255
  pub guaranteed : BeforeMaps (λ s. 255 ≤ guaranteed_of s i) (run_of c from 1)
  pub maps : maps_over (run_of c from 1) ≡ 1
  pub rates : rates_over (run_of c from 1) i ≡ 255
  pub words : words_over (run_of c from 1) i ≡ 0
