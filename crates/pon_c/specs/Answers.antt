-- What an event does to the port of a handle.
use Rattle.std.specs.Prelude.{ℕ, ◌≡◌, ◌≢◌, ◌+◌, ◌*◌, ◌++◌, List, [], length, drop, Some, None}
use Rattle.std.specs.declared.option.Option.{Option}
use Rattle.pon_bwmap.specs.MapBytes.{map_bytes}
use Rattle.pon_descr.specs.Checks.{IsTold}
use Rattle.pon_descr.specs.declared.refusal.Refusal.{Refusal}
use Rattle.pon_admit.specs.declared.event.Event.{Event}
use Rattle.pon_admit.specs.declared.event.Event.TheVariants.{MakeMap}
use Rattle.pon_state.specs.State.{just_opened}
use Rattle.pon_state.specs.declared.reply.MadeMap.{MadeMap}
use Rattle.pon_state.specs.declared.reply.Reply.TheVariants.{Map}
use Rattle.pon_history.specs.Chapters.{Chapter, present_state}
use Rattle.pon_history.specs.FairMaps.{IsFairMap}
use Rattle.pon_history.specs.Last.{LastMap, last_map}
use Rattle.pon_cert.specs.Spelling.{cert_bytes}
use Rattle.pon_history.specs.Taking.{Keeps, Takes, refusal_of}
use Rattle.pon_history.specs.WordRuns.{RunsAreWhole}
use Rattle.pon_c.specs.Filling.{IsGiven}
use Rattle.pon_c.specs.Numbers.{number_of}
use Rattle.pon_c.specs.declared.numbers.TheConstants.{CLOSED, NO_MAP}

-- the chapter of a port that was just opened
abbrev pub opened_chapter : ℕ → ℕ → ℕ → Chapter
opened_chapter gap profile first = record { number = 0; opening = just_opened gap profile first; entries = [] }

-- both handles are open, and the relation holds between their chapters
abbrev pub Between : (Chapter → Chapter → Type 0) → Option Chapter → Option Chapter → Type 0
Between P (Some c) (Some d) = P c d
Between P (Some c) None = ⊥
Between P None d = ⊥

-- the event was taken and is kept: a map in its reply is fair, and over each run of maps from an admission on the words
-- are the whole part of the sum of the rates
pub record Took (event : Event) (c d : Chapter) : Type 0 where
  pub keeps : Keeps c event d
  pub whole : RunsAreWhole d

-- the number of the first refusal of the event; that of `OutOfMemory` only if no check refuses
abbrev pub TellsRefusal : Event → Chapter → ℕ → Type 0
TellsRefusal event c n = (told : Refusal) × IsTold (refusal_of c event) told × (n ≡ number_of told)

-- why an event was not taken: the handle is closed, or the first refusal
abbrev pub TellsWhy : Event → Option Chapter → ℕ → Type 0
TellsWhy event None n = n ≡ CLOSED
TellsWhy event (Some c) n = n ≢ 0 → TellsRefusal event c n

-- the map has this frame and this number of bytes, which are at the front of the room
pub record IsWritten (made : MadeMap) (no count : ℕ) (before after : List ℕ) : Type 0 where
  pub frame : no ≡ made.frame
  pub size : count ≡ 4 + 8 * length made.map
  pub bytes : after ≡ map_bytes made.map ++ drop count before

-- a fair map of the kept history was made, is kept, and was given out like this
pub record Made (Given : MadeMap → Type 0) (c d : Chapter) : Type 0 where
  pub made : MadeMap
  pub takes : Takes c MakeMap (Map made) d
  pub fair : IsFairMap (present_state c) made
  pub whole : RunsAreWhole d
  pub given : Given made

-- its bytes are at the front of the room
abbrev pub MadeInto : Chapter → Chapter → ℕ → ℕ → List ℕ → List ℕ → Type 0
MadeInto c d frame count before after = Made (λ made. IsWritten made frame count before after) c d

-- the bytes of the certificate of the last map, or why there are none
abbrev pub TellsLast : Option LastMap → ℕ → ℕ → List ℕ → List ℕ → Type 0
TellsLast None n size before after = (n ≡ NO_MAP) × (after ≡ before)
TellsLast (Some l) n size before after = IsGiven (cert_bytes l.made.cert) n size before after

abbrev pub TellsCert : Option Chapter → ℕ → ℕ → List ℕ → List ℕ → Type 0
TellsCert None n size before after = (n ≡ CLOSED) × (after ≡ before)
TellsCert (Some c) n size before after = TellsLast (last_map c) n size before after
