-- The last map of a chapter, explained for one Alloc-ID.
use Rattle.std.specs.Prelude.{ℕ, ◌+◌, ◌==◌, Bool, true, false, List, [], ◌∷◌, take, find, slice_get, Option, Some, None}
use Rattle.pon_descr.specs.declared.class.Class.{Class}
use Rattle.pon_descr.specs.declared.class.Class.TheVariants.{Plain, NonAssured, BestEffort}
use Rattle.pon_cert.specs.declared.cert.Level.{Level}
use Rattle.pon_cert.specs.declared.cert.MapCert.{MapCert}
use Rattle.pon_state.specs.Entry.{Entry}
use Rattle.pon_state.specs.Maps.{makes_map}
use Rattle.pon_state.specs.State.{State}
use Rattle.pon_state.specs.declared.reply.MadeMap.{MadeMap}
use Rattle.pon_state.specs.declared.reply.Reply.{Reply}
use Rattle.pon_state.specs.declared.reply.Reply.TheVariants.{Taken, Map}
use Rattle.pon_state.specs.History.{replay}
use Rattle.pon_history.specs.Chapters.{Chapter}
use Rattle.pon_why.specs.Explanations.{explanations_of}
use Rattle.pon_why.specs.declared.numbers.Explanation.{Explanation}
use Rattle.pon_why.specs.declared.last.LastWhy.{LastWhy}
use Rattle.pon_why.specs.declared.last.LastWhy.TheVariants.{NoMap, NoSuchAlloc, Explained}

abbrev pub chapter_with : ℕ → State → List Entry → Chapter
chapter_with number opening entries = record { number = number; opening = opening; entries = entries }

-- the index of the last entry that makes a map: that among the later entries, or that of the first
abbrev pub or_first : Option ℕ → Bool → Option ℕ
or_first (Some place) first = Some (place + 1)
or_first None true = Some 0
or_first None false = None

abbrev pub last_place : List Entry → Option ℕ
last_place [] = None
last_place (e ∷ es) = or_first (last_place es) (makes_map e.event)

-- the map of an entry
abbrev pub made_in : Reply → Option MadeMap
made_in Taken = None
made_in (Map made) = Some made

abbrev pub made_at : Option Entry → Option MadeMap
made_at None = None
made_at (Some e) = made_in e.reply

-- the level of a class; the plain class has none
abbrev pub level_in : MapCert → Class → Option Level
level_in cert Plain = None
level_in cert NonAssured = Some cert.na.level
level_in cert BestEffort = Some cert.be.level

-- the numbers of an Alloc-ID in a map, with its level and its structure
abbrev pub explained_by : MadeMap → ℕ → Option Explanation → LastWhy
explained_by made i None = NoSuchAlloc
explained_by made i (Some x) = Explained (record {
  frame = made.frame;
  row = x;
  level = level_in made.cert x.row.descriptor.class;
  structure = find (λ a. a.id == i) made.map;
})

-- the explanation of a map of a state for an Alloc-ID
abbrev pub why_in : State → ℕ → Option MadeMap → LastWhy
why_in s i None = NoMap
why_in s i (Some made) = explained_by made i (find (λ x. x.row.alloc_id == i) (explanations_of s made.cert))

-- that of the map of an entry, in the state before it
abbrev pub why_at : State → List Entry → ℕ → Option ℕ → LastWhy
why_at o es i None = NoMap
why_at o es i (Some place) = why_in (replay o (take place es)) i (made_at (slice_get es place))

-- that of the last map of a chapter, given by its opening and its entries
abbrev pub why_of : State → List Entry → ℕ → LastWhy
why_of o es i = why_at o es i (last_place es)
