-- A recording from which nothing is missing.
use Rattle.std.specs.Prelude.{ℕ, ◌≡◌, List, Bool, true, false, is_ok, Option, map, option_to_list, slice_get, zip, length}
use Rattle.std.specs.List.{range_with_len}
use Rattle.pon_history.specs.Chapters.{Chapter}
use Rattle.pon_record.specs.Chapters.{Body}
use Rattle.pon_record.specs.Bodies.{chapter_body}
use Rattle.pon_recorder.specs.Recordings.{HasRecorded}
use Rattle.pon_recorder.specs.declared.recorder.Recorder.{Recorder}

-- the device of the recorder did not fail three times in a row, memory was refused for no chapter, and the recordings in
-- the devices before it ended well
pub record IsSound {W : Type 0} (r : Recorder W) : Type 0 where
  pub file : r.failed ≡ false
  pub memory : r.lacked_memory ≡ false
  pub earlier : is_ok r.earlier ≡ true

-- nothing is missing in the recording: its recorder is sound, and each sink that came back is that of its port
abbrev pub IsWholeRecording : {W : Type 0} → Recorder W → Bool → Type 0
IsWholeRecording recorder whole = IsSound recorder × (whole ≡ true)

-- the chapters that the ports of these numbers keep, each as that of its port, in order
abbrev pub kept_bodies : List ℕ → List Chapter → List Body
kept_bodies numbers kept = map (λ p. chapter_body p.0 p.1) (zip numbers kept)

-- the chapter that the port at a place keeps, if there is a number for it
abbrev pub kept_at : List ℕ → ℕ → Chapter → List Body
kept_at numbers place kept = map (λ n. chapter_body n kept) (option_to_list (slice_get numbers place))

-- the chapters that ports keep, the first as that of port 0
abbrev pub all_kept : List Chapter → List Body
all_kept kept = kept_bodies (range_with_len 0 (length kept)) kept

-- the recorder took these chapters: a recorder that is sound afterwards was so before, and has recorded all of them, in order
abbrev pub RecordsAll : {W : Type 0} → Recorder W → Recorder W → Option (List ℕ) → Option (List ℕ) → List Body → Type 0
RecordsAll old new held_old held_new bodies = IsSound new → IsSound old × HasRecorded held_old old.file.left held_new new.file.left bodies

-- a recorder that is sound afterwards was so before
abbrev pub StaysSound : {W : Type 0} → Recorder W → Recorder W → Type 0
StaysSound old new = IsSound new → IsSound old

-- a recording that is whole afterwards was so before
abbrev pub StaysWhole : {W : Type 0} → Recorder W → Bool → Recorder W → Bool → Type 0
StaysWhole old old_flag new new_flag = IsWholeRecording new new_flag → IsWholeRecording old old_flag
