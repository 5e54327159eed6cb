-- The text of lines, as a relation: the request of a line is answered by the entry that a port keeps for it.
use Rattle.std.specs.Prelude.{ℕ, ◌≡◌, ◌*◌, List, [], ◌∷◌, ◌++◌, length, codes, decimal, slice_get, slice_set, Option, Some, None, ◌-◌, option_map}
use Rattle.pon_units.specs.declared.limits.TheConstants.{WORD_RATE}
use Rattle.hex.specs.Hex.{encode_lower}
use Rattle.pon_bwmap.specs.MapBytes.{map_bytes}
use Rattle.pon_cert.specs.Spelling.{cert_text}
use Rattle.pon_admit.specs.Roster.{capacity, onus_of, promised_sum}
use Rattle.pon_state.specs.State.{State}
use Rattle.pon_history.specs.Chapters.{Chapter, present_state}
use Rattle.pon_history.specs.Last.{LastMap, last_map}
use Rattle.pon_history.specs.Taking.{Takes, refusal_of}
use Rattle.pon_admit.specs.declared.event.Event.{Event}
use Rattle.pon_state.specs.declared.reply.Reply.{Reply}
use Rattle.pon_state.specs.declared.reply.Reply.TheVariants.{Taken, Map}
use Rattle.pon_descr.specs.declared.refusal.Refusal.{Refusal}
use Rattle.pon_line.specs.Faults.{line_fault_text}
use Rattle.pon_line.specs.Reading.{read_line}
use Rattle.pon_line.specs.declared.fault.LineFault.{LineFault}
use Rattle.pon_line.specs.declared.fault.LineFault.TheVariants.{NoMap, Port, UnknownCommand}
use Rattle.pon_line.specs.declared.reading.Reading.{Reading}
use Rattle.pon_line.specs.declared.reading.Reading.TheVariants.{Nothing, Refused, Asks, AsksCert, AsksState, AsksRows, AsksHelp, AsksStop, AsksWhy, AsksSure}
use Rattle.pon_text.specs.Giving.{GivesText}
use Rattle.pon_manage.specs.Help.{help_text}
use Rattle.pon_manage.specs.Rows.{list_text, named}
use Rattle.pon_manage.specs.Sures.{sure_in, sure_line}
use Rattle.pon_manage.specs.Whys.{why_line}
use Rattle.pon_why.specs.Lasts.{why_of}
use Rattle.pon_manage.specs.declared.show.Shown.{Shown}

-- a refusal line
abbrev pub refusal_line : LineFault → List ℕ
refusal_line fault = codes "err " ++ line_fault_text fault ++ 10 ∷ []

-- the reply line of an entry, by its index in the kept chapter; 32 is a space, 10 the line feed
abbrev pub reply_line : ℕ → Reply → List ℕ
reply_line index Taken = codes "ok " ++ decimal index ++ 10 ∷ []
reply_line index (Map made) = codes "map " ++ (decimal made.frame ++ (32 ∷ encode_lower (map_bytes made.map) ++ 10 ∷ []))

-- an event at a port: the text is the first refusal, or the entry is kept and the text is its reply
abbrev pub Posts : List Chapter → ℕ → Chapter → Event → Option Refusal → List ℕ → List Chapter → Type 0
Posts old port c event (Some refusal) text new = (text ≡ refusal_line (Port refusal)) × (new ≡ old)
Posts old port c event None text new =
    (reply : Reply) × (next : Chapter) × Takes c event reply next × (text ≡ reply_line (length c.entries) reply) × (new ≡ slice_set old port next)

abbrev pub AsksPort : List Chapter → ℕ → Option Chapter → Event → List ℕ → List Chapter → Type 0
AsksPort old port None event text new = ⊥
AsksPort old port (Some c) event text new = Posts old port c event (refusal_of c event) text new

-- the reply of the last entry of a port
abbrev pub last_reply : Option Chapter → Option Reply
last_reply None = None
last_reply (Some c) = option_map (λ e. e.reply) (slice_get c.entries (length c.entries - 1))

-- the certificate line of the last map of the kept chapter, or the refusal `NoMap`
abbrev pub cert_line : Option LastMap → List ℕ
cert_line None = refusal_line NoMap
cert_line (Some l) = codes "cert " ++ (decimal l.made.frame ++ (32 ∷ cert_text l.na l.be l.made.cert ++ 10 ∷ []))

-- the text is the certificate line of an existing port
abbrev pub TellsCert : Option Chapter → List ℕ → Type 0
TellsCert None text = ⊥
TellsCert (Some c) text = text ≡ cert_line (last_map c)

-- what is shown of a state: its cause of failure, its next frame, and of its roster the numbers of Alloc-IDs and ONUs,
-- the sum of the promised rates in kbit/s and the capacity in words
abbrev pub shown_of : State → Shown
shown_of s = record {
  cause = s.cause;
  next = s.next;
  allocs = length s.roster;
  onus = length (onus_of s.roster);
  guaranteed = promised_sum s.roster;
  capacity = capacity s.rule s.gap s.roster;
}

-- the numbers after the cause, the capacity in kbit/s
abbrev pub shown_numbers : Shown → List ℕ
shown_numbers s =
    named (codes " next ") s.next (
    named (codes " allocs ") s.allocs (
    named (codes " onus ") s.onus (
    named (codes " guaranteed ") s.guaranteed (
    named (codes " capacity ") (WORD_RATE * s.capacity) (10 ∷ [])))))

-- the line is up, or it is down with a cause
abbrev pub show_line : Option ℕ → List ℕ → List ℕ
show_line None numbers = codes "show up" ++ numbers
show_line (Some cause) numbers = codes "show down " ++ (decimal cause ++ numbers)

abbrev pub shown_line : Shown → List ℕ
shown_line s = show_line s.cause (shown_numbers s)

-- the line that shows a state
abbrev pub state_line : State → List ℕ
state_line s = shown_line (shown_of s)

-- the text is the state line of an existing port
abbrev pub TellsState : Option Chapter → List ℕ → Type 0
TellsState None text = ⊥
TellsState (Some c) text = text ≡ state_line (present_state c)

-- the text lists the Alloc-IDs of an existing port
abbrev pub TellsRows : Option Chapter → List ℕ → Type 0
TellsRows None text = ⊥
TellsRows (Some c) text = text ≡ list_text (present_state c)

-- the text explains the last map of an existing port for an Alloc-ID
abbrev pub TellsWhy : Option Chapter → ℕ → List ℕ → Type 0
TellsWhy None alloc text = ⊥
TellsWhy (Some c) alloc text = text ≡ why_line (why_of c.opening c.entries alloc)

-- the text says what is sure for an Alloc-ID of an existing port
abbrev pub TellsSure : Option Chapter → ℕ → List ℕ → Type 0
TellsSure None alloc text = ⊥
TellsSure (Some c) alloc text = text ≡ sure_line alloc (sure_in (present_state c) alloc)

-- the text of a reading, and the chapters of the ports after it
abbrev pub Answers : List Chapter → Reading → List ℕ → List Chapter → Type 0
Answers old Nothing text new = (text ≡ []) × (new ≡ old)
Answers old (Refused refusal) text new = (text ≡ refusal_line refusal.fault) × (new ≡ old)
Answers old (Asks port event) text new = AsksPort old port (slice_get old port) event text new
Answers old (AsksCert port) text new = TellsCert (slice_get old port) text × (new ≡ old)
Answers old (AsksState port) text new = TellsState (slice_get old port) text × (new ≡ old)
Answers old (AsksRows port) text new = TellsRows (slice_get old port) text × (new ≡ old)
Answers old (AsksHelp port) text new = (text ≡ help_text) × (new ≡ old)
Answers old (AsksStop port) text new = (text ≡ refusal_line UnknownCommand) × (new ≡ old)
Answers old (AsksWhy port alloc) text new = TellsWhy (slice_get old port) alloc text × (new ≡ old)
Answers old (AsksSure port alloc) text new = TellsSure (slice_get old port) alloc text × (new ≡ old)

-- the text of a reading is appended to the replies
abbrev pub AddsAnswer : List Chapter → Reading → List Chapter → List ℕ → List ℕ → Type 0
AddsAnswer old reading new replies_old replies_new = (text : List ℕ) × Answers old reading text new × (replies_new ≡ replies_old ++ text)

-- the text of a line, and the chapters of the ports after it
abbrev pub Gives : List Chapter → List ℕ → List ℕ → List Chapter → Type 0
Gives old line text new = Answers old (read_line (length old) line) text new

-- the output text of an input
abbrev pub IsOutput : List Chapter → List ℕ → List ℕ → Type 0
IsOutput ports input text = GivesText Gives ports input text
