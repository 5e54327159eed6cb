-- The answer line of a file, if it is written.
use Rattle.std.proofs.Common.{◌≡◌, ℕ, Bool, true, false, List, [], ◌++◌, Option, sym, ◌∙◌, subst, Err, inl, inr}
use Rattle.pon_device.specs.Device.{Consumes, IsAtEnd}
use Rattle.pon_check_file.specs.CheckFiles.{Checked, IsFileAnswer, IsDecided}
use Rattle.pon_check_file.specs.Stages.{Decides, IsSaid, said}
use Rattle.pon_check_file.specs.declared.file.Parsed.{Parsed}
use Rattle.pon_text.specs.Lines.{file_lines}
use Rattle.pon_device.specs.Streams.{TellsLine}
use Rattle.pon_device.specs.declared.fault.DeviceFault.{DeviceFault}
use Rattle.pon_device.specs.declared.fault.DeviceFault.TheVariants.{Read, Write, Memory}

-- a result of bytes is a result of some lines
pub is_said : (input : List ℕ) (left : Option (List ℕ)) (p : Parsed) → Decides input left p → IsSaid p
is_said input left p (inl d) = (file_lines input, d.1)
is_said input left p (inr d) = (file_lines (input ++ []), d.2 [] ∙ sym d.1)

refused : (n : ℕ) (accepted : Bool) (line : List ℕ) → IsFileAnswer (Err n) accepted line → accepted ≡ false
refused n accepted line a = a.0

-- a parsed file has its answer
pub answered : (input : List ℕ) (left : Option (List ℕ)) (p : Parsed) (accepted : Bool) (line : List ℕ) → Decides input left p → IsFileAnswer (said p) accepted line → IsDecided input left accepted line
answered input left p accepted line (inl d) a = inl (d.0, subst (λ r. IsFileAnswer r accepted line) (sym d.1) a)
answered input left p accepted line (inr d) a =
    let no : IsFileAnswer (Err d.0) accepted line = subst (λ r. IsFileAnswer r accepted line) d.1 a in
    inr (no.0, λ rest. subst (λ r. IsFileAnswer r accepted line) (sym (d.2 rest)) no)

pub at_end : (input : List ℕ) (left : Option (List ℕ)) (line : List ℕ) → IsDecided input left true line → IsAtEnd left
at_end input left line (inl d) = d.0
at_end input left line (inr d) = let wrong : true ≡ false = d.0 in absurd (cc)

-- the answer was not written whole
pub not_told : (l0 l h0 h : Option (List ℕ)) (input bytes line : List ℕ) (accepted : Bool) (f : DeviceFault) → Consumes l0 l input → IsDecided input l accepted line → bytes ≡ line → TellsLine bytes h0 h (Err f) → Checked l0 l h0 h (Err f)
not_told l0 l h0 h input bytes line accepted Read c a s t = absurd t
not_told l0 l h0 h input bytes line accepted Memory c a s t = absurd t
not_told l0 l h0 h input bytes line accepted Write c a s t = record {
  input = input;
  written = t.0;
  read = c;
  wrote = t.1;
  text = (accepted, bytes, subst (λ b. IsDecided input l accepted b) (sym s) a, t.2);
}
