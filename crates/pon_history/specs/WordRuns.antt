-- The words of an Alloc-ID over a run of maps.
use Rattle.std.specs.Prelude.{ℕ, ◌≡◌, ◌-◌, ◌/◌, List, [], map, take}
use Rattle.pon_units.specs.declared.limits.TheConstants.{WORD_RATE}
use Rattle.pon_admit.specs.declared.row.Row.{Row}
use Rattle.pon_admit.specs.declared.rule.Rule.TheVariants.{CarryRemainders}
use Rattle.pon_demand.specs.Carries.{number_of}
use Rattle.pon_state.specs.State.{State}
use Rattle.pon_history.specs.Carries.{owed_of, sum_since}
use Rattle.pon_state.specs.History.{replay}
use Rattle.pon_history.specs.Chapters.{Chapter}
use Rattle.pon_state.specs.declared.reply.Reply.{Reply}
use Rattle.pon_state.specs.declared.reply.Reply.TheVariants.{Taken, Map}
use Rattle.pon_state.specs.Entry.{Entry}

-- the payload words that a reply gives to an Alloc-ID: 0 if it has no map, or the Alloc-ID is not admitted
abbrev pub words_of_reply : List Row → Reply → ℕ → ℕ
words_of_reply rows Taken i = 0
words_of_reply rows (Map made) i = number_of rows (map (λ a. a.grant - 1) made.map) i

-- the sum of the words of an Alloc-ID in the maps of the entries since its last admission
abbrev pub words_since : State → ℕ → List Entry → ℕ
words_since o i es = sum_since (λ before e. words_of_reply (replay o before).roster e.reply i) i [] es

-- over the maps since its last admission, each Alloc-ID is granted the whole part of what it is owed: of the sum of its
-- rates, and of the opening's carry if no entry admits it
abbrev pub GrantsWholeParts : State → List Entry → Type 0
GrantsWholeParts o es = (i : ℕ) → words_since o i es ≡ owed_of o es i / WORD_RATE

-- under the rule that carries what whole words leave, each Alloc-ID is granted the whole part of what it is owed over each
-- run of maps: from an admission, or from the opening, up to any later entry
abbrev pub RunsAreWhole : Chapter → Type 0
RunsAreWhole c = c.opening.rule ≡ CarryRemainders → (k : ℕ) → GrantsWholeParts c.opening (take k c.entries)
