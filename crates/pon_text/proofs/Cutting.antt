-- The parts of a text between separators.
use Rattle.std.proofs.Common.{◌≡◌, ℕ, List, [], ◌∷◌, ◌∙◌, ap, refl, Some, None}
use Rattle.std.specs.Prelude.{◌==◌}
use Rattle.std.specs.List.{slice_split}
use Rattle.std.proofs.lemmas.Bool.{eq-eqb}
use Rattle.std.proofs.lemmas.List.Splits.{slice_split_at, slice_split_none}
use Rattle.pon_lists.proofs.Lists.{none_any}
use Rattle.pon_text.specs.Cuts.{cut_at}
use Rattle.pon_text.proofs.Feeds.{cut_nowhere, cut_parts}

-- A cut splits a text at its first separator.
pub parts_some : (c : ℕ) (t a b : List ℕ) → cut_at c t ≡ Some (a, b) → slice_split (λ x. x == c) t ≡ a ∷ slice_split (λ x. x == c) b
parts_some c t a b e =
    let p = cut_parts c t a b e in
    ap (slice_split (λ x. x == c)) p.0 ∙ slice_split_at (λ x. x == c) a c b (none_any (λ x. x == c) a p.1) (eq-eqb c c refl)

pub parts_none : (c : ℕ) (t : List ℕ) → cut_at c t ≡ None → slice_split (λ x. x == c) t ≡ t ∷ []
parts_none c t e = slice_split_none (λ x. x == c) t (none_any (λ x. x == c) t (cut_nowhere c t e))
