-- The bytes of a recording with one chapter, in memory.
use Rattle.std.proofs.Common.{◌≡◌, ℕ, List, [], ◌∷◌, ◌++◌, ap, sym, ◌∙◌, subst}
use Rattle.std.proofs.lemmas.List.{append-nil}
use Rattle.std.specs.Prelude.{◌≢◌, Some}
use Rattle.pon_record.specs.declared.version.Version.TheVariants as version
use Rattle.pon_record.specs.Chapters.{Body}
use Rattle.pon_record.specs.Recordings.{recording_bytes}
use Rattle.pon_record.specs.Recorders.{Grows, Records}
use Rattle.pon_c.specs.Filling.{IsFilled, IsGiven}
use Rattle.pon_c.specs.declared.numbers.TheConstants.{OUT_OF_MEMORY}

-- what memory has of a recording that was begun in it and has got one chapter, with nothing left
pub alone : (before begun after left rest : List ℕ) (b : Body) → before ≡ [] → Records (Some before) (Some begun) left [] → Grows (Some begun) left (Some after) rest b → rest ≡ [] → after ≡ recording_bytes version.Two (b ∷ [])
alone before begun after left rest b none opened grows all =
    let r : Records (Some before) (Some after) rest ([] ++ b ∷ []) = grows (Some before) [] opened in
    r.appends ∙ ap (λ w. w ++ r.sent) none ∙ sym (append-nil r.sent) ∙ ap (λ l. r.sent ++ l) (sym all) ∙ r.together

pub given_of : (bytes given : List ℕ) (n size : ℕ) (before after : List ℕ) → given ≡ bytes → IsFilled given n size before after → n ≢ OUT_OF_MEMORY → IsGiven bytes n size before after
given_of bytes given n size before after same filled other = record { filled = λ _. subst (λ x. IsFilled x n size before after) same filled; refused = λ is. absurd (other is) }
