-- The text of the shown numbers, number by number.
use Rattle.std.proofs.Common.{◌≡◌, ℕ, ◌*◌, [], ◌∷◌}
use Rattle.std.specs.Prelude.{codes}
use Rattle.pon_manage.specs.Rows.{named}
use Rattle.pon_manage.specs.Text.{shown_numbers}
use Rattle.pon_manage.specs.declared.show.Shown.{Shown}

pub same_numbers : (s : Shown) (next guaranteed free : ℕ) → next ≡ s.next → guaranteed ≡ s.guaranteed → free ≡ 256 * s.capacity →
    named (codes " next ") next (named (codes " allocs ") s.allocs (named (codes " onus ") s.onus (named (codes " guaranteed ") guaranteed (named (codes " capacity ") free (10 ∷ []))))) ≡ shown_numbers s
same_numbers s next guaranteed free n g f =
    λ i. named (codes " next ") (n i) (named (codes " allocs ") s.allocs (named (codes " onus ") s.onus (named (codes " guaranteed ") (g i) (named (codes " capacity ") (f i) (10 ∷ [])))))
