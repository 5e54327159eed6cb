-- The kept chapters, one after another.
use Rattle.std.proofs.Common.{◌≡◌, ℕ, ◌<◌, List, [], ◌∷◌, ◌++◌, length, length-append, ap, arith, refl, sym, subst, ◌∙◌}
use Rattle.std.specs.Prelude.{Bool, true, Option, Some, OnOk, Result, Ok, Err, map, option_map, option_to_list, slice_get}
use Rattle.std.specs.List.{range_with_len}
use Rattle.std.proofs.lemmas.List.{append-nil}
use Rattle.std.proofs.lemmas.List.FromFn.{get_or-range_with_len, length-range_with_len}
use Rattle.std.proofs.lemmas.Option.{slice_get-get_or, slice_get-map}
use Rattle.pon_history.specs.Chapters.{Chapter}
use Rattle.pon_record.specs.Chapters.{Body}
use Rattle.pon_record.specs.Bodies.{chapter_body}
use Rattle.pon_record.specs.Recorders.{Records, Stays}
use Rattle.pon_recorder.specs.Recordings.{HasRecorded}
use Rattle.pon_recorder.specs.Whole.{IsSound, RecordsAll, kept_at, kept_bodies}
use Rattle.pon_recorder.specs.declared.recorder.Recorder.{Recorder}
use Rattle.pon_recorder.proofs.Recordings.{both_recorded}

-- nothing is to be recorded
pub records_none : {W : Type 0} (r : Recorder W) (held : Option (List ℕ)) → RecordsAll r r held held []
records_none r held = λ sound. (sound, λ before bodies recorded. subst (λ (bs : List Body). Records before held r.file.left bs) (sym (append-nil bodies)) recorded)

pub records_no_ports : {W : Type 0} (numbers : List ℕ) (r : Recorder W) (held : Option (List ℕ)) → RecordsAll r r held held (kept_bodies numbers [])
records_no_ports [] r held = records_none r held
records_no_ports (n ∷ ns) r held = records_none r held

-- the chapter of a port is recorded, if it has a number
pub records_at : {W I : Type 0} (port_of : I → ℕ) (inlets : List I) (place : ℕ) (inlet : Option I) (old new : Recorder W) (held_old held_new : Option (List ℕ)) (k : Chapter)
    → slice_get inlets place ≡ inlet → RecordsAll old new held_old held_new (map (λ n. chapter_body n k) (option_to_list (option_map port_of inlet)))
    → RecordsAll old new held_old held_new (kept_at (map port_of inlets) place k)
records_at port_of inlets place inlet old new held_old held_new k there recorded =
    subst (λ (o : Option ℕ). RecordsAll old new held_old held_new (map (λ n. chapter_body n k) (option_to_list o))) (sym (slice_get-map port_of inlets place ∙ ap (option_map port_of) there)) recorded

-- the kept chapter of one more port
pub one_more_kept : (numbers : List ℕ) (kept : List Chapter) (k : Chapter) → kept_bodies numbers (kept ++ k ∷ []) ≡ kept_bodies numbers kept ++ kept_at numbers (length kept) k
one_more_kept [] [] k = refl
one_more_kept [] (x ∷ xs) k = refl
one_more_kept (m ∷ []) [] k = refl
one_more_kept (m ∷ n ∷ ms) [] k = refl
one_more_kept (m ∷ ms) (x ∷ xs) k = ap (λ (bs : List Body). chapter_body m x ∷ bs) (one_more_kept ms xs k)

-- chapters that were recorded one after another
pub records_both : {W : Type 0} (old mid new : Recorder W) (held_old held_mid held_new : Option (List ℕ)) (first second : List Body)
    → RecordsAll old mid held_old held_mid first → RecordsAll mid new held_mid held_new second → RecordsAll old new held_old held_new (first ++ second)
records_both old mid new held_old held_mid held_new first second f s = λ sound.
    let later = s sound in
    let earlier = f later.0 in
    (earlier.0, both_recorded held_old old.file.left held_mid mid.file.left held_new new.file.left first second earlier.1 later.1)

-- the chapter of the next port is recorded after those before
pub records_next : {W : Type 0} (numbers : List ℕ) (place : ℕ) (old mid new : Recorder W) (held_old held_mid held_new : Option (List ℕ)) (kept : List Chapter) (k : Chapter) → place ≡ length kept
    → RecordsAll old mid held_old held_mid (kept_bodies numbers kept) → RecordsAll mid new held_mid held_new (kept_at numbers place k) → RecordsAll old new held_old held_new (kept_bodies numbers (kept ++ k ∷ []))
records_next numbers place old mid new held_old held_mid held_new kept k at first second =
    subst (λ (bs : List Body). RecordsAll old new held_old held_new bs) (sym (one_more_kept numbers kept k))
    (records_both old mid new held_old held_mid held_new (kept_bodies numbers kept) (kept_at numbers (length kept) k) first
    (subst (λ (n : ℕ). RecordsAll mid new held_mid held_new (kept_at numbers n k)) at second))

-- the place of the next port
pub place_within : {X : Type 0} (yielded rest all more : List X) (x : X) → yielded ++ rest ≡ all → rest ≡ x ∷ more → length yielded < length all
place_within yielded rest all more x e s = omega (arith, ap length e, length-append yielded rest, ap length s)

-- the chapter that a port keeps is that of the port of its place
pub kept_in_range : (n place : ℕ) (k : Chapter) → place < n → kept_at (range_with_len 0 n) place k ≡ chapter_body place k ∷ []
kept_in_range n place k l =
    let there : slice_get (range_with_len 0 n) place ≡ Some place =
    slice_get-get_or (range_with_len 0 n) place place (omega (arith, length-range_with_len 0 n, l)) ∙ ap Some (get_or-range_with_len 0 n place place l ∙ omega arith) in
    ap (λ (o : Option ℕ). map (λ (m : ℕ). chapter_body m k) (option_to_list o)) there

-- a chapter that is not dropped is recorded
pub records_append : {W : Type 0} (old new : Recorder W) (held_old held_new : Option (List ℕ)) (taken : Bool) (b : Body)
    → (IsSound new → IsSound old × (taken ≡ true)) → (taken ≡ true → HasRecorded held_old old.file.left held_new new.file.left (b ∷ []))
    → RecordsAll old new held_old held_new (b ∷ [])
records_append old new held_old held_new taken b sound recorded = λ s. ((sound s).0, recorded (sound s).1)

-- a recording that ends after these chapters
module _ {W T E : Type 0} (old new : Recorder W) (held_old held_new : Option (List ℕ)) (bodies : List Body) (all : RecordsAll old new held_old held_new bodies) where
  pub ends_sound : (r : Result T E) → OnOk r (IsSound new) → OnOk r (IsSound old)
  ends_sound (Ok end) sound = (all sound).0
  ends_sound (Err fault) sound = tt

  pub ends_written : (tape : Option (List ℕ)) (r : Result T E) → OnOk r (IsSound new) → OnOk r (Stays held_new new.file.left tape []) → OnOk r (HasRecorded held_old old.file.left tape [] bodies)
  ends_written tape (Ok end) sound stays = λ before earlier recorded. stays before (earlier ++ bodies) ((all sound).1 before earlier recorded)
  ends_written tape (Err fault) sound stays = tt
