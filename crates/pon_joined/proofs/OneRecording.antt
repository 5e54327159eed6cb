-- Joined recordings are one recording.
use Rattle.std.proofs.Common.{◌≡◌, ℕ, List, [], ◌∷◌, ◌++◌, Bool, true, false, ap, sym, refl, ◌∙◌, append_assoc, length, take, drop}
use Rattle.std.specs.Prelude.{if◌then◌else◌, map}
use Rattle.std.specs.List.{flat_map}
use Rattle.std.specs.Str.{bytes_eq}
use Rattle.std.proofs.lemmas.Grind.{flat_map-append}
use Rattle.std.proofs.lemmas.List.Concat.{flat_map-cons}
use Rattle.std.proofs.lemmas.List.{drop_at, take_at}
use Rattle.std.proofs.lemmas.Slice.Eq.{bytes_eq-Decides}
use Rattle.pon_record.specs.Chapters.{Body, chapter_bytes}
use Rattle.pon_record.specs.Recordings.{magic, recording_bytes}
use Rattle.pon_record.specs.declared.limits.TheConstants.{MAGIC_BYTES}
use Rattle.pon_record.specs.declared.version.Version.{Version}
use Rattle.pon_record.specs.declared.version.Version.TheVariants as version
use Rattle.pon_joined.specs.Joined.{after_magic, joined_bytes}

magic_long : (v : Version) → length (magic v) ≡ MAGIC_BYTES
magic_long version.One = refl
magic_long version.Two = refl

own_if : (same : Bool) (xs ys : List ℕ) → same ≡ true → (if same then xs else ys) ≡ xs
own_if true xs ys is = refl
own_if false xs ys is = absurd (cc (is))

front : (v : Version) (xs : List ℕ) → take MAGIC_BYTES (magic v ++ xs) ≡ magic v
front v xs = take_at (magic v) xs MAGIC_BYTES (magic_long v)

after_own : (v : Version) (xs : List ℕ) → after_magic (magic v) (magic v ++ xs) ≡ xs
after_own v xs =
    own_if (bytes_eq (take MAGIC_BYTES (magic v ++ xs)) (magic v)) _ _ ((bytes_eq-Decides (take MAGIC_BYTES (magic v ++ xs)) (magic v)).1 (front v xs)) ∙ drop_at (magic v) xs MAGIC_BYTES (magic_long v)

-- the chapters of further files
chapters : (v : Version) (further : List (List Body)) → flat_map (after_magic (magic v)) (map (recording_bytes v) further) ≡ flat_map (chapter_bytes v) (flat_map (λ bodies. bodies) further)
chapters v [] = refl
chapters v (bodies ∷ further) =
    flat_map-cons (after_magic (magic v)) (recording_bytes v bodies) (map (recording_bytes v) further)
    ∙ ap (λ l. l ++ flat_map (after_magic (magic v)) (map (recording_bytes v) further)) (after_own v (flat_map (chapter_bytes v) bodies))
    ∙ ap (λ l. flat_map (chapter_bytes v) bodies ++ l) (chapters v further)
    ∙ sym (flat_map-append (chapter_bytes v) bodies (flat_map (λ b. b) further))
    ∙ ap (λ l. flat_map (chapter_bytes v) l) (sym (flat_map-cons (λ (b : List Body). b) bodies further))

pub one_recording : (v : Version) (first : List Body) (further : List (List Body))
    → joined_bytes (recording_bytes v first) (map (recording_bytes v) further) ≡ recording_bytes v (first ++ flat_map (λ bodies. bodies) further)
one_recording v first further =
    ap (λ m. recording_bytes v first ++ flat_map (after_magic m) (map (recording_bytes v) further)) (front v (flat_map (chapter_bytes v) first))
    ∙ ap (λ l. recording_bytes v first ++ l) (chapters v further)
    ∙ append_assoc (magic v) (flat_map (chapter_bytes v) first) _
    ∙ ap (λ l. magic v ++ l) (sym (flat_map-append (chapter_bytes v) first (flat_map (λ b. b) further)))
