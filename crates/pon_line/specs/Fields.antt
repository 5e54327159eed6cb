-- The fields of a command: words that write numbers and descriptors, each at its index in the line. The port is word 0.
use Rattle.std.specs.Prelude.{ℕ, ◌+◌, ◌||◌, nat_lt, if◌then◌else◌, List, [], ◌∷◌, Option, Some, None, Result, Ok, Err}
use Rattle.pon_units.specs.declared.limits.TheConstants.{LINE_RATE, MAX_ALLOC_ID, MAX_ONU_ID, MIN_ALLOC_ID}
use Rattle.pon_descr.specs.Classes.{class_of}
use Rattle.pon_descr.specs.Descriptor.{Descriptor, descriptor_refusal}
use Rattle.pon_descr.specs.declared.refusal.Refusal.{Refusal}
use Rattle.pon_descr.specs.declared.refusal.Refusal.TheVariants.{AllocRange, OnuRange, RateRange}
use Rattle.pon_lists.specs.ResultSteps.{◌>>=◌}
use Rattle.pon_text.specs.Lines.{number_of}
use Rattle.pon_line.specs.Places.{at_word, of_line}
use Rattle.pon_line.specs.declared.fault.LineFault.TheVariants as fault
use Rattle.pon_line.specs.declared.fault.LineRefusal.{LineRefusal}
use Rattle.pon_line.specs.declared.field.Field.{Field}
use Rattle.pon_line.specs.declared.field.Field.TheVariants as field

-- a value, or `BadField` at the word that writes none
abbrev pub or_bad_field : {T : Type 0} → ℕ → Field → Option T → Result T LineRefusal
or_bad_field n f (Some x) = Ok x
or_bad_field n f None = Err (at_word fault.BadField n f)

-- the number that the word at an index writes
unfoldable pub number_field : ℕ → Field → List ℕ → Result ℕ LineRefusal
number_field n f w = or_bad_field n f (number_of w)

-- the words of a descriptor
pub record DescriptorWords : Type 0 where
  pub fixed : List ℕ
  pub assured : List ℕ
  pub most : List ℕ
  pub class : List ℕ

-- exactly four words
unfoldable pub descriptor_words : List (List ℕ) → Result DescriptorWords LineRefusal
descriptor_words (fixed ∷ assured ∷ most ∷ class ∷ []) = Ok (record { fixed = fixed; assured = assured; most = most; class = class })
descriptor_words _ = Err (of_line fault.WordCount)

-- the rates in kbit/s and the class that four words from an index on write
unfoldable pub rate_fields : ℕ → DescriptorWords → Result Descriptor LineRefusal
rate_fields n w = do
  fixed ← number_field n field.Fixed w.fixed
  assured ← number_field (n + 1) field.Assured w.assured
  most ← number_field (n + 2) field.Max w.most
  class ← or_bad_field (n + 3) field.Class (class_of w.class)
  Ok (record { fixed = fixed; assured = assured; max = most; class = class })

-- a managed Alloc-ID
unfoldable pub alloc_in : ℕ → ℕ → Result ℕ LineRefusal
alloc_in n alloc = if nat_lt alloc MIN_ALLOC_ID || nat_lt MAX_ALLOC_ID alloc then Err (at_word (fault.Port AllocRange) n field.Alloc) else Ok alloc

-- an ONU-ID
unfoldable pub onu_in : ℕ → ℕ → Result ℕ LineRefusal
onu_in n onu = if nat_lt MAX_ONU_ID onu then Err (at_word (fault.Port OnuRange) n field.Onu) else Ok onu

-- a rate of at most that of the line
unfoldable pub rate_in : ℕ → Field → ℕ → Result ℕ LineRefusal
rate_in n f rate = if nat_lt LINE_RATE rate then Err (at_word (fault.Port RateRange) n f) else Ok rate

-- a value, or the refusal of it
abbrev pub unless : {T : Type 0} → Option Refusal → T → Result T LineRefusal
unless None x = Ok x
unless (Some refusal) x = Err (of_line (fault.Port refusal))

-- a descriptor whose first rate is at an index: the first rate out of range, or another refusal
unfoldable pub descriptor_in : ℕ → Descriptor → Result Descriptor LineRefusal
descriptor_in n d = do
  fixed ← rate_in n field.Fixed d.fixed
  assured ← rate_in (n + 1) field.Assured d.assured
  most ← rate_in (n + 2) field.Max d.max
  unless (descriptor_refusal d) d
