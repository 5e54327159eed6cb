-- The effect of a post on its port, its receipt, and its refusals.
use Rattle.std.specs.Prelude.{ℕ, ◌≡◌, ◌⊎◌, length, slice_index}
use Rattle.pon_descr.specs.Checks.{IsTold}
use Rattle.pon_descr.specs.declared.refusal.Refusal.{Refusal}
use Rattle.pon_descr.specs.declared.refusal.Refusal.TheVariants.{ChapterFull}
use Rattle.pon_admit.specs.declared.event.Event.{Event}
use Rattle.pon_history.specs.Chapters.{Chapter, IsLawfulChapter, present_state}
use Rattle.pon_history.specs.FairMaps.{TellsFairMap}
use Rattle.pon_history.specs.Taking.{Takes, Turns, refusal_of, turn_refusal}
use Rattle.pon_desk.specs.Counts.{SeatState}
use Rattle.pon_desk.specs.Receipts.{Receipt}
use Rattle.pon_desk.specs.declared.receipt.Placed.{Placed}

-- the port took the event as `Port::take` does, and this is the entry that it kept, with its place
pub record IsPosted (old : Chapter) (event : Event) (placed : Placed) (new : Chapter) : Type 0 where
  pub same_event : placed.entry.event ≡ event
  --   the entry may follow, and is kept
  pub takes : Takes old event placed.entry.reply new
  --   a map in the reply keeps the whole promise of a map
  pub fair : TellsFairMap (present_state old) placed.entry.reply
  --   the number of the port's kept chapter
  pub chapter : placed.chapter ≡ old.number
  pub index : placed.index ≡ length old.entries

-- the receipt names the port and the seat, and the number of the seat's posts at the port before
pub record NamesPost (port : ℕ) (seat : SeatState) (receipt : Receipt) : Type 0 where
  pub at_port : receipt.port ≡ port
  pub of_seat : receipt.seat ≡ seat.number
  pub nth : receipt.nth ≡ slice_index seat.counts port

-- a port with a lawful chapter accepted this post
pub record IsSomePost (event : Event) (receipt : Receipt) : Type 0 where
  pub old : Chapter
  pub new : Chapter
  pub lawful : IsLawfulChapter old
  pub posted_there : IsPosted old event receipt.placed new

-- a port with a lawful chapter gave this refusal, or the desk is full
pub record IsSomeRefusal (event : Event) (told : Refusal) : Type 0 where
  pub at : Chapter
  pub lawful : IsLawfulChapter at
  pub refused : IsTold (refusal_of at event) told ⊎ (told ≡ ChapterFull)

-- a port with a lawful chapter was turned, and gave this chapter
pub record IsSomeTurn (chapter : Chapter) : Type 0 where
  pub old : Chapter
  pub new : Chapter
  pub lawful : IsLawfulChapter old
  pub turned_there : Turns old chapter new

-- a port with a lawful chapter was not turned, for this reason
pub record IsSomeTurnRefusal (told : Refusal) : Type 0 where
  pub at : Chapter
  pub lawful : IsLawfulChapter at
  pub refused : IsTold (turn_refusal at) told
