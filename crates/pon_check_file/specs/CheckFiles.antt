-- The content of a check file, the first of its lines that does not fit, and its answer.
use Rattle.std.specs.Prelude.{◌≡◌, ◌⊎◌, ℕ, suc, ◌+◌, Bool, true, false, List, [], ◌∷◌, ◌++◌, length, take, drop, codes, decimal, Option, Some, None, Result, Ok, Err}
use Rattle.pon_lists.specs.ResultSteps.{◌>>=◌}
use Rattle.pon_device.specs.Device.{Appends, Consumes, IsAtEnd}
use Rattle.pon_cert.specs.Problem.{IsFairest}
use Rattle.pon_cert.specs.Certificate.{IsCertificate, spelled}
use Rattle.pon_cert.specs.declared.problem.Item.{Item}
use Rattle.pon_cert.specs.declared.cert.ClassCert.{ClassCert}
use Rattle.pon_check.specs.Faults.{IsFirstClassFault, cert_fault_text}
use Rattle.pon_check.specs.declared.fault.CertFault.{CertFault}
use Rattle.pon_text.specs.Lines.{file_lines}
use Rattle.pon_device.specs.Streams.{IsBeginning}
use Rattle.pon_device.specs.declared.fault.DeviceFault.{DeviceFault}
use Rattle.pon_device.specs.declared.fault.DeviceFault.TheVariants.{Read, Write, Memory}
use Rattle.pon_check_file.specs.CheckLines.{surplus_of, item_on_line, level_on_line, flags_of}
use Rattle.pon_cert.specs.declared.problem.TheConstants.{MAX_ITEMS}

-- a problem, and a certificate to be checked for it
pub record Filed : Type 0 where
  pub surplus : ℕ
  pub items : List Item
  pub cert : ClassCert

-- the value of the first line, if there is one and it parses
abbrev pub first_spells : {T : Type 0} → (List ℕ → Option T) → List (List ℕ) → Option T
first_spells read [] = None
first_spells read (l ∷ ls) = read l

-- the value of line n; its number is the fault if it has none
abbrev pub on_line : {T : Type 0} → ℕ → Option T → Result T ℕ
on_line n None = Err n
on_line n (Some x) = Ok x

-- the items of the lines up to the first line that is not an item, and at most MAX_ITEMS of them
abbrev pub and_others : Option Item → List Item → List Item
and_others None is = []
and_others (Some i) is = i ∷ is

abbrev pub items_in_row : List (List ℕ) → List Item
items_in_row [] = []
items_in_row (l ∷ ls) = and_others (item_on_line l) (items_in_row ls)

abbrev pub items_of : List (List ℕ) → List Item
items_of ls = take MAX_ITEMS (items_in_row ls)

-- all lines are empty, or the number of the first that is not, if the first line has the number n
abbrev pub are_empty : ℕ → List (List ℕ) → Result (Unit {0}) ℕ
are_empty n [] = Ok tt
are_empty n ([] ∷ ls) = are_empty (suc n) ls
are_empty n ((b ∷ l) ∷ ls) = Err n

-- the content of a file, from its surplus, its items and the lines after them
unfoldable pub file_with : ℕ → List Item → List (List ℕ) → Result Filed ℕ
file_with surplus items ls = do
  level ← on_line (length items + 2) (first_spells level_on_line ls)
  flags ← on_line (length items + 3) (first_spells (flags_of (length items)) (drop 1 ls))
  end ← are_empty (length items + 4) (drop 2 ls)
  Ok (record { surplus = surplus; items = items; cert = record { level = level; saturated = flags } })

-- the content of the lines of a file, or the number, from 1, of the first that does not fit
unfoldable pub file_of : List (List ℕ) → Result Filed ℕ
file_of ls = do
  surplus ← on_line 1 (first_spells surplus_of ls)
  file_with surplus (items_of (drop 1 ls)) (drop (length (items_of (drop 1 ls))) (drop 1 ls))

-- the answer line of a file: yes for a certificate, whose assignment is the fairest share, or why not; 10 is the line
-- feed
abbrev pub IsFileAnswer : Result Filed ℕ → Bool → List ℕ → Type 0
IsFileAnswer (Err line) accepted text = (accepted ≡ false) × (text ≡ codes "no Syntax " ++ decimal line ++ 10 ∷ [])
IsFileAnswer (Ok f) true text =
    IsCertificate f.items f.surplus f.cert × IsFairest f.items f.surplus (spelled f.items f.cert) × (text ≡ codes "yes" ++ 10 ∷ [])
IsFileAnswer (Ok f) false text =
    (fault : CertFault) × IsFirstClassFault f.items f.surplus f.cert fault × (text ≡ codes "no " ++ cert_fault_text fault ++ 10 ∷ [])

-- the bytes have this answer: at the end of the input, or `no` whatever bytes follow
abbrev pub IsDecided : List ℕ → Option (List ℕ) → Bool → List ℕ → Type 0
IsDecided input left accepted text =
    (IsAtEnd left × IsFileAnswer (file_of (file_lines input)) accepted text)
    ⊎ ((accepted ≡ false) × ((rest : List ℕ) → IsFileAnswer (file_of (file_lines (input ++ rest))) accepted text))

-- the bytes written for the bytes read, by the result
abbrev pub IsChecked : List ℕ → Option (List ℕ) → List ℕ → Result Bool DeviceFault → Type 0
IsChecked input left written (Ok accepted) = IsDecided input left accepted written
IsChecked input left written (Err Read) = written ≡ []
IsChecked input left written (Err Memory) = written ≡ []
IsChecked input left written (Err Write) = (accepted : Bool) × (text : List ℕ) × IsDecided input left accepted text × IsBeginning written text

-- some bytes were read, and a line was written for them
pub record Checked (left_old left_new held_old held_new : Option (List ℕ)) (result : Result Bool DeviceFault) : Type 0 where
  pub input : List ℕ
  pub written : List ℕ
  pub read : Consumes left_old left_new input
  pub wrote : Appends held_old held_new written
  pub text : IsChecked input left_new written result

-- `yes` is answered only at the end of the input
abbrev pub ReadsToEnd : Option (List ℕ) → Result Bool DeviceFault → Type 0
ReadsToEnd left (Ok true) = IsAtEnd left
ReadsToEnd left (Ok false) = Unit {0}
ReadsToEnd left (Err fault) = Unit {0}
