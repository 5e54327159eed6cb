-- What the host learns of a check file.
use Rattle.std.specs.Prelude.{ℕ, ◌≡◌, Bool, List}
use Rattle.pon_text.specs.Lines.{file_lines}
use Rattle.pon_check_file.specs.CheckFiles.{IsFileAnswer, file_of}
use Rattle.pon_web.specs.Handing.{HandsOut}
use Rattle.pon_web.specs.Judging.{status_of}

-- the answer line of the file, and whether it accepts the certificate
pub record TellsCheck (file : List ℕ) (status : ℕ) (before after : List ℕ) (told : ℕ) : Type 0 where
  pub accepted : Bool
  pub answer : List ℕ
  pub is : IsFileAnswer (file_of (file_lines file)) accepted answer
  pub status_is : status ≡ status_of accepted
  pub line : HandsOut answer before after told
