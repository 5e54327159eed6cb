-- What the host learns of a map of a recording.
use Rattle.std.specs.Prelude.{ℕ, ◌≡◌, List, [], ◌∷◌, ◌++◌, Some, slice_get}
use Rattle.pon_state.specs.Entry.{Entry}
use Rattle.pon_record.specs.Chapters.{PlacedChapter}
use Rattle.pon_record.specs.Recordings.{Holds}
use Rattle.pon_record.specs.declared.version.Version.{Version}
use Rattle.pon_web.specs.Frames.{frame_of}
use Rattle.pon_web.specs.Handing.{HandsOut}

-- the entry at this place is the map of the frame
pub record IsMapOf (entries : List Entry) (frame place : ℕ) : Type 0 where
  pub entry : Entry
  pub here : slice_get entries place ≡ Some entry
  pub is_map : frame_of entry.reply ≡ Some frame

-- a chapter that the bytes begin with, after whole ones, is of the port and has the map of the frame
pub record HasMap (bytes : List ℕ) (port frame : ℕ) : Type 0 where
  pub version : Version
  pub before : List PlacedChapter
  pub chapter : PlacedChapter
  pub rest : List ℕ
  pub holds : Holds version bytes (before ++ chapter ∷ []) rest
  pub of_port : chapter.body.port ≡ port
  pub place : ℕ
  pub is : IsMapOf chapter.body.entries frame place

-- a picture of the map, which is there
pub record TellsPicture (recording : List ℕ) (port frame : ℕ) (before after : List ℕ) (told : ℕ) : Type 0 where
  pub has : HasMap recording port frame
  pub picture : List ℕ
  pub answer : HandsOut picture before after told
