-- The parsed part of a check file, and how the lines after it change it.
use Rattle.std.specs.Prelude.{◌≡◌, ◌⊎◌, ℕ, ◌+◌, ◌-◌, ◌≤◌, ◌==◌, false, List, [], ◌∷◌, ◌++◌, length, take, drop, Option, Some, None, Result, Ok, Err}
use Rattle.std.specs.List.{list_any}
use Rattle.pon_lists.specs.ResultSteps.{◌>>=◌}
use Rattle.pon_device.specs.Device.{Consumes, IsAtEnd}
use Rattle.pon_cert.specs.declared.problem.Item.{Item}
use Rattle.pon_cert.specs.declared.cert.Level.{Level}
use Rattle.pon_device.specs.declared.fault.DeviceFault.{DeviceFault}
use Rattle.pon_device.specs.declared.fault.DeviceFault.TheVariants.{Read, Write, Memory}
use Rattle.pon_text.specs.Lines.{file_lines, without_return}
use Rattle.pon_check_file.specs.CheckLines.{flags_of}
use Rattle.pon_check_file.specs.CheckFiles.{Filed, are_empty, file_of, file_with, first_spells, items_in_row, on_line}
use Rattle.pon_cert.specs.declared.problem.TheConstants.{MAX_ITEMS}
use Rattle.pon_check_file.specs.declared.file.CheckFile.{CheckFile}
use Rattle.pon_check_file.specs.declared.file.Parsed.{Parsed}
use Rattle.pon_check_file.specs.declared.file.Parsed.TheVariants as parsed
use Rattle.pon_check_file.specs.declared.reading.Open.{Open}
use Rattle.pon_check_file.specs.declared.reading.Taken.{Taken}
use Rattle.pon_check_file.specs.declared.reading.Taken.TheVariants as taken
use Rattle.pon_check_file.specs.declared.stage.Stage.{Stage}
use Rattle.pon_check_file.specs.declared.stage.Stage.TheVariants as stage

-- the content of a file with these lines after a surplus and items
unfoldable pub after_items : ℕ → List Item → List (List ℕ) → Result Filed ℕ
after_items surplus is ls = file_with surplus (is ++ take (MAX_ITEMS - length is) (items_in_row ls)) (drop (length (take (MAX_ITEMS - length is) (items_in_row ls))) ls)

-- the content of a file with these lines after a level
unfoldable pub after_level : ℕ → List Item → Level → List (List ℕ) → Result Filed ℕ
after_level surplus is level ls = do
  flags ← on_line (length is + 3) (first_spells (flags_of (length is)) ls)
  end ← are_empty (length is + 4) (drop 1 ls)
  Ok (record { surplus = surplus; items = is; cert = record { level = level; saturated = flags } })

-- the content of a file with these lines after a whole file of n lines
unfoldable pub after_file : Filed → ℕ → List (List ℕ) → Result Filed ℕ
after_file f n ls = are_empty (n + 1) ls >>= λ end. Ok f

-- the content of a check file
abbrev pub filed : CheckFile → Filed
filed f = record { surplus = f.surplus; items = f.items.items; cert = f.cert }

abbrev pub said : Parsed → Result Filed ℕ
said (parsed.File f) = Ok (filed f)
said (parsed.Syntax line) = Err line

-- the content of a file with these lines after a stage
abbrev pub goes_on : Stage → List (List ℕ) → Result Filed ℕ
goes_on stage.First ls = file_of ls
goes_on (stage.Items s) ls = after_items s.surplus s.items.items ls
goes_on (stage.Level l) ls = after_level l.shared.surplus l.shared.items.items l.level ls
goes_on (stage.Whole w) ls = after_file (filed w.file) w.lines ls

-- the number of lines so far
abbrev pub lines_before : Stage → ℕ
lines_before stage.First = 0
lines_before (stage.Items s) = length s.items.items + 1
lines_before (stage.Level l) = length l.shared.items.items + 2
lines_before (stage.Whole w) = w.lines

-- the items are at most MAX_ITEMS
abbrev pub IsFew : Stage → Type 0
IsFew stage.First = Unit {0}
IsFew (stage.Items s) = length s.items.items ≤ MAX_ITEMS
IsFew (stage.Level l) = length l.shared.items.items ≤ MAX_ITEMS
IsFew (stage.Whole w) = Unit {0}

-- a line that fits leads from the old stage to the new one
pub record Fits (old : Stage) (line : List ℕ) (new : Stage) : Type 0 where
  pub same : (ls : List (List ℕ)) → goes_on old (line ∷ ls) ≡ goes_on new ls
  pub few : IsFew new
  pub lines : lines_before new ≡ lines_before old + 1

-- the line fits, or it does not fit whatever lines follow
abbrev pub Takes : Stage → List ℕ → Option Stage → Type 0
Takes old line None = (ls : List (List ℕ)) → goes_on old (line ∷ ls) ≡ Err (lines_before old + 1)
Takes old line (Some new) = Fits old line new

-- ---- the open line
-- the items are at most MAX_ITEMS, and the open line has no line feed
pub record IsOpen (o : Open) : Type 0 where
  pub few : IsFew o.stage
  pub no_feed : list_any (λ b. b == 10) o.line.items ≡ false

-- the content of a file with these bytes after the open line
abbrev pub opens : Open → List ℕ → Result Filed ℕ
opens o rest = goes_on o.stage (file_lines (o.line.items ++ rest))

-- the number of whole lines and of bytes after them
abbrev pub size : Open → ℕ
size o = lines_before o.stage + length o.line.items

-- the open line is ended
pub record Ends (old new : Open) : Type 0 where
  pub fits : Fits old.stage (without_return old.line.items) new.stage
  pub empty : new.line.items ≡ []

abbrev pub EndsLine : Open → Taken → Type 0
EndsLine old (taken.Open new) = Ends old new
EndsLine old (taken.Syntax n) = (ls : List (List ℕ)) → goes_on old.stage (without_return old.line.items ∷ ls) ≡ Err n

-- one more byte
pub record Grows (old new : Open) (byte : ℕ) : Type 0 where
  pub is_open : IsOpen new
  pub small : size new ≤ size old + 1
  pub same : (rest : List ℕ) → opens old (byte ∷ rest) ≡ opens new rest

abbrev pub TakesByte : Open → ℕ → Taken → Type 0
TakesByte old byte (taken.Open new) = Grows old new byte
TakesByte old byte (taken.Syntax n) = (rest : List ℕ) → opens old (byte ∷ rest) ≡ Err n

-- ---- a file that is read
-- this is the result of parsing some lines
abbrev pub IsSaid : Parsed → Type 0
IsSaid p = (ls : List (List ℕ)) × (file_of ls ≡ said p)

-- this is the result of parsing the bytes: at the end of the input, or a line that does not fit whatever bytes follow
abbrev pub Decides : List ℕ → Option (List ℕ) → Parsed → Type 0
Decides input left p =
    (IsAtEnd left × (file_of (file_lines input) ≡ said p))
    ⊎ ((n : ℕ) × (said p ≡ Err n) × ((rest : List ℕ) → file_of (file_lines (input ++ rest)) ≡ Err n))

abbrev pub ReadsFile : Option (List ℕ) → Option (List ℕ) → Result Parsed DeviceFault → Type 0
ReadsFile old new (Ok p) = (input : List ℕ) × Consumes old new input × Decides input new p
ReadsFile old new (Err Read) = (input : List ℕ) × Consumes old new input
ReadsFile old new (Err Memory) = (input : List ℕ) × Consumes old new input
ReadsFile old new (Err Write) = ⊥
