-- The text of lines at a desk, where other threads post too: that of some port with a lawful chapter.
use Rattle.std.specs.Prelude.{ℕ, ◌≡◌, ◌≢◌, ◌⊎◌, List, [], ◌++◌, length}
use Rattle.pon_admit.specs.declared.event.Event.{Event}
use Rattle.pon_descr.specs.declared.refusal.Refusal.{Refusal}
use Rattle.pon_descr.specs.declared.refusal.Refusal.TheVariants.{OutOfMemory}
use Rattle.pon_history.specs.Chapters.{Chapter, IsLawfulChapter, present_state}
use Rattle.pon_history.specs.Last.{last_map}
use Rattle.pon_desk.specs.Counts.{SeatState, one_more_at}
use Rattle.pon_lists.specs.Kept.{AddsTo}
use Rattle.pon_desk.specs.Posts.{IsSomePost, IsSomeRefusal, NamesPost}
use Rattle.pon_desk.specs.Receipts.{Receipt}
use Rattle.pon_desk.specs.declared.view.PortView.{PortView}
use Rattle.pon_line.specs.Reading.{read_line}
use Rattle.pon_line.specs.declared.fault.LineFault.TheVariants.{Port}
use Rattle.pon_line.specs.declared.reading.Reading.{Reading}
use Rattle.pon_line.specs.declared.reading.Reading.TheVariants.{Nothing, Refused, Asks, AsksCert, AsksState, AsksRows, AsksHelp, AsksStop, AsksWhy, AsksSure}
use Rattle.pon_manage.specs.declared.show.Shown.{Shown}
use Rattle.pon_manage.specs.Help.{run_help_text, stop_line}
use Rattle.pon_manage.specs.Rows.{list_text}
use Rattle.pon_manage.specs.Sures.{sure_in, sure_line}
use Rattle.pon_manage.specs.Whys.{why_line}
use Rattle.pon_why.specs.Lasts.{why_of}
use Rattle.pon_manage.specs.Text.{cert_line, refusal_line, reply_line, state_line}

-- a seat after a post at a port, whose receipt it was given to keep
pub record KeepsReceipt (port : ℕ) (old : SeatState) (receipt : Receipt) (new : SeatState) : Type 0 where
  pub names : NamesPost port old receipt
  pub number : new.number ≡ old.number
  pub counts : new.counts ≡ (one_more_at port old).counts
  pub kept : AddsTo old.receipts receipt new.receipts

-- the port of this number, with a lawful chapter, took the event, the text is its reply, and the seat counts the post
abbrev pub TellsPosted : ℕ → Event → SeatState → List ℕ → SeatState → Type 0
TellsPosted port event old text new =
    (receipt : Receipt) × IsSomePost event receipt × KeepsReceipt port old receipt new × (text ≡ reply_line receipt.placed.index receipt.placed.entry.reply)

-- a check of a port with a lawful chapter refused the event, or the desk is full, and the text is the refusal
abbrev pub TellsRefused : Event → List ℕ → Type 0
TellsRefused event text = (told : Refusal) × IsSomeRefusal event told × (told ≢ OutOfMemory) × (text ≡ refusal_line (Port told))

-- a text of this kind is appended to the replies
abbrev pub AddsText : (List ℕ → Type 0) → List ℕ → List ℕ → Type 0
AddsText IsText replies_old replies_new = (text : List ℕ) × IsText text × (replies_new ≡ replies_old ++ text)

-- the text is the certificate line of a port with a lawful chapter
abbrev pub ShowsCert : List ℕ → Type 0
ShowsCert text = (at : Chapter) × IsLawfulChapter at × (text ≡ cert_line (last_map at))

-- the text is the state line of a port with a lawful chapter
abbrev pub ShowsState : List ℕ → Type 0
ShowsState text = (at : Chapter) × IsLawfulChapter at × (text ≡ state_line (present_state at))

-- the text lists the Alloc-IDs of a port with a lawful chapter
abbrev pub ShowsRows : List ℕ → Type 0
ShowsRows text = (at : Chapter) × IsLawfulChapter at × (text ≡ list_text (present_state at))

-- the text explains the last map of a port with a lawful chapter for an Alloc-ID
abbrev pub ShowsWhy : ℕ → List ℕ → Type 0
ShowsWhy alloc text = (at : Chapter) × IsLawfulChapter at × (text ≡ why_line (why_of at.opening at.entries alloc))

-- the text says what is sure for an Alloc-ID of a port with a lawful chapter
abbrev pub ShowsSure : ℕ → List ℕ → Type 0
ShowsSure alloc text = (at : Chapter) × IsLawfulChapter at × (text ≡ sure_line alloc (sure_in (present_state at) alloc))

-- the text of a reading at a desk, and the seat after it: one post more at the port of the reading, or as before
abbrev pub DeskAnswers : SeatState → Reading → List ℕ → SeatState → Type 0
DeskAnswers old Nothing text new = (text ≡ []) × (new ≡ old)
DeskAnswers old (Refused refusal) text new = (text ≡ refusal_line refusal.fault) × (new ≡ old)
DeskAnswers old (Asks port event) text new = TellsPosted port event old text new ⊎ (TellsRefused event text × (new ≡ old))
DeskAnswers old (AsksCert port) text new = ShowsCert text × (new ≡ old)
DeskAnswers old (AsksState port) text new = ShowsState text × (new ≡ old)
DeskAnswers old (AsksRows port) text new = ShowsRows text × (new ≡ old)
DeskAnswers old (AsksHelp port) text new = (text ≡ run_help_text) × (new ≡ old)
DeskAnswers old (AsksStop port) text new = (text ≡ stop_line) × (new ≡ old)
DeskAnswers old (AsksWhy port alloc) text new = ShowsWhy alloc text × (new ≡ old)
DeskAnswers old (AsksSure port alloc) text new = ShowsSure alloc text × (new ≡ old)

-- the text of a line at a desk, and the seat after it; a seat has a count for each port of its desk
abbrev pub DeskGives : SeatState → List ℕ → List ℕ → SeatState → Type 0
DeskGives old line text new = DeskAnswers old (read_line (length old.counts) line) text new

-- what is shown of a view, except its last map
abbrev pub shown_in : PortView → Shown
shown_in view = record {
  cause = view.cause;
  next = view.next;
  allocs = view.allocs;
  onus = view.onus;
  guaranteed = view.guaranteed;
  capacity = view.capacity;
}
