-- The magic bytes tell the version.
use Rattle.std.proofs.Common.{◌≡◌, ℕ, List, ◌++◌, length, get_or, take, drop, refl, sym, ap, ◌∙◌, arith}
use Rattle.std.specs.List.{flat_map}
use Rattle.std.specs.Prelude.{map}
use Rattle.pon_record.specs.declared.version.Version.{Version}
use Rattle.pon_record.specs.declared.version.Version.TheVariants.{One, Two}
use Rattle.pon_record.specs.Chapters.{Body, PlacedChapter, chapter_bytes}
use Rattle.pon_record.specs.Recordings.{Holds, magic, recording_bytes}

pub magic_length : (v : Version) → length (magic v) ≡ 8
magic_length One = refl
magic_length Two = refl

take_magic : (v : Version) (bs : List Body) (rest : List ℕ) → take 8 (recording_bytes v bs ++ rest) ≡ magic v
take_magic One bs rest = refl
take_magic Two bs rest = refl

pub drop_magic : (v : Version) (bs : List Body) (rest : List ℕ) → drop 8 (recording_bytes v bs ++ rest) ≡ flat_map (chapter_bytes v) bs ++ rest
drop_magic One bs rest = refl
drop_magic Two bs rest = refl

pub holds_magic : (v : Version) (bytes : List ℕ) (whole : List PlacedChapter) (rest : List ℕ) → Holds v bytes whole rest → take 8 bytes ≡ magic v
holds_magic v bytes whole rest h = ap (λ (l : List ℕ). take 8 l) h.parts ∙ take_magic v (map (λ c. c.body) whole) rest

same_magic : (v w : Version) → magic v ≡ magic w → v ≡ w
same_magic One One e = refl
same_magic One Two e = absurd (omega (arith, ap (λ (l : List ℕ). get_or l 7 0) e))
same_magic Two One e = absurd (omega (arith, ap (λ (l : List ℕ). get_or l 7 0) e))
same_magic Two Two e = refl

-- bytes begin with the magic bytes of one version
pub one_version : (v w : Version) (bytes : List ℕ) (whole whole2 : List PlacedChapter) (rest rest2 : List ℕ) → Holds v bytes whole rest → Holds w bytes whole2 rest2 → v ≡ w
one_version v w bytes whole whole2 rest rest2 h k = same_magic v w (sym (holds_magic v bytes whole rest h) ∙ holds_magic w bytes whole2 rest2 k)
