-- The answer to a whole check file.
use Rattle.std.proofs.Common.{◌≡◌, ℕ, List, [], ◌++◌, ap, sym, ◌∙◌, subst, inl, inr}
use Rattle.std.specs.Prelude.{Bool, Some, Ok}
use Rattle.std.proofs.lemmas.List.{append-nil}
use Rattle.pon_text.specs.Lines.{file_lines}
use Rattle.pon_check_file.specs.CheckFiles.{Checked, IsDecided, IsFileAnswer, file_of}

decided : (file input left text : List ℕ) (accepted : Bool) → file ≡ input ++ left → IsDecided input (Some left) accepted text → IsFileAnswer (file_of (file_lines file)) accepted text
decided file input left text accepted whole (inl at_end) =
    subst (λ f. IsFileAnswer (file_of (file_lines f)) accepted text) (sym (whole ∙ ap (λ l. input ++ l) at_end.0 ∙ append-nil input)) at_end.1
decided file input left text accepted whole (inr whatever) = subst (λ f. IsFileAnswer (file_of (file_lines f)) accepted text) (sym whole) (whatever.1 left)

-- what was written into empty memory is the answer to the file
pub answered : (file left taken : List ℕ) (accepted : Bool) → Checked (Some file) (Some left) (Some []) (Some taken) (Ok accepted) → IsFileAnswer (file_of (file_lines file)) accepted taken
answered file left taken accepted c =
    subst (λ t. IsFileAnswer (file_of (file_lines file)) accepted t) (sym c.wrote) (decided file c.input left c.written accepted c.read c.text)
