-- The bytes of files that are one recording.
use Rattle.std.specs.Prelude.{◌≡◌, ℕ, List, [], ◌∷◌, ◌++◌, ◌<◌, ◌≤◌, drop, length, take, Bool, if◌then◌else◌, Option, Some, None, Result, Ok, Err, option_map}
use Rattle.std.specs.List.{flat_map}
use Rattle.std.specs.Str.{bytes_eq}
use Rattle.pon_device.specs.Device.{Consumes, IsAtEnd, Keeps}
use Rattle.pon_record.specs.declared.limits.TheConstants.{MAGIC_BYTES}
use Rattle.pon_joined.specs.declared.joined.TheConstants.{NO_CHAPTER}

-- the bytes of a file after the magic bytes; a file that begins with others gives a byte with which no chapter begins
abbrev pub after_magic : List ℕ → List ℕ → List ℕ
after_magic magic file = if bytes_eq (take MAGIC_BYTES file) magic then drop MAGIC_BYTES file else NO_CHAPTER ∷ []

-- the bytes of a file, and then those of each further one after the magic bytes of the first
abbrev pub joined_bytes : List ℕ → List (List ℕ) → List ℕ
joined_bytes first further = first ++ flat_map (after_magic (take MAGIC_BYTES first)) further

-- the bytes that further files give
abbrev pub further_of : List ℕ → Option (List (List ℕ)) → Option (List ℕ)
further_of magic files = option_map (flat_map (after_magic magic)) files

-- both lists, if both are known
abbrev pub both : Option (List ℕ) → Option (List ℕ) → Option (List ℕ)
both None ys = None
both (Some xs) ys = option_map (λ more. xs ++ more) ys

-- the bytes of the current file, of which some magic bytes were read, and of the further ones
abbrev pub files_left : List ℕ → ℕ → Option (Option (List ℕ)) → Option (List (List ℕ)) → Option (List ℕ)
files_left magic matched None files = further_of magic files
files_left magic matched (Some current) files = both (option_map (λ xs. after_magic magic (take matched magic ++ xs)) current) (further_of magic files)

-- the magic bytes that are not given yet, and what is left of the files
abbrev pub left_of : List ℕ → ℕ → ℕ → Option (Option (List ℕ)) → Option (List (List ℕ)) → Option (List ℕ)
left_of magic given matched current files = option_map (λ xs. drop given magic ++ xs) (files_left magic matched current files)

-- a step of a read: bytes were given, and none only at the end; or the files went on without a byte given
abbrev pub StepsOn : {E : Type 0} → Option (List ℕ) → Option (List ℕ) → Result (Option ℕ) E → List ℕ → Type 0
StepsOn old new (Ok (Some n)) buf = Consumes old new (take n buf) × (n ≡ 0 → IsAtEnd new)
StepsOn old new (Ok None) buf = Keeps old new
StepsOn old new (Err e) buf = Keeps old new

-- the first bytes of a reader, at most as many as magic bytes, and fewer only at its end
pub record HasMagic (old new : Option (List ℕ)) (magic : List ℕ) : Type 0 where
  pub taken : Consumes old new magic
  pub most : length magic ≤ MAGIC_BYTES
  pub short : length magic < MAGIC_BYTES → IsAtEnd new
