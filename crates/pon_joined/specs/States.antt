-- The state of a reader of the files of one recording.
use Rattle.std.specs.Prelude.{◌≡◌, ℕ, List, Option, Some, option_map}
use Rattle.pon_joined.specs.Joined.{left_of}

-- the files that are not opened, the one that is read, the magic bytes of the first file, how many of them were given and
-- how many of the current file were read, and the number of reads and of failed reads
pub record JoinedFiles (S R : Type 0) : Type 0 where
  pub files : S
  pub current : Option R
  pub magic : List ℕ
  pub given : ℕ
  pub matched : ℕ
  pub calls : ℕ
  pub failures : ℕ

-- the bytes that the reader has left, if the current file has these
abbrev pub left_with : {S R : Type 0} → Option (List ℕ) → (S → Option (List (List ℕ))) → JoinedFiles S R → Option (List ℕ)
left_with current contents s = left_of s.magic s.given s.matched (Some current) (contents s.files)

-- the bytes that the reader has left
abbrev pub left_in : {S R : Type 0} → (R → Option (List ℕ)) → (S → Option (List (List ℕ))) → JoinedFiles S R → Option (List ℕ)
left_in remaining contents s = left_of s.magic s.given s.matched (option_map remaining s.current) (contents s.files)

-- the numbers of reads are the same
pub record KeepsCounts {S R : Type 0} (old new : JoinedFiles S R) : Type 0 where
  pub calls : new.calls ≡ old.calls
  pub failures : new.failures ≡ old.failures
