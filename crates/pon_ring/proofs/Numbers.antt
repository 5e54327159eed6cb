-- The numbers of chapters that follow one another.
use Rattle.std.proofs.Common.{◌≡◌, ◌+◌, ◌<◌, List, [], ◌∷◌, ◌++◌, refl, arith}
use Rattle.std.specs.Prelude.{Some}
use Rattle.std.proofs.lemmas.List.Elements.{All-nil, All-cons, All-append, All-weaker}
use Rattle.pon_history.specs.Chapters.{Chapter}
use Rattle.pon_ring.specs.Numbers.{AreBelow, ComesAfter, last_number}

pub last_pushed : (cs : List Chapter) (c : Chapter) → last_number (cs ++ c ∷ []) ≡ Some c.number
last_pushed [] c = refl
last_pushed (x ∷ []) c = refl
last_pushed (x ∷ y ∷ cs) c = last_pushed (y ∷ cs) c

pub below_pushed : (cs : List Chapter) (c : Chapter) → ComesAfter cs c → AreBelow (c.number + 1) (cs ++ c ∷ [])
below_pushed cs c h =
    All-append (λ d. d.number < c.number + 1) cs (c ∷ []) (All-weaker (λ d. d.number < c.number) (λ d. d.number < c.number + 1) (λ d l. omega (arith, l)) cs h)
    (All-cons (λ d. d.number < c.number + 1) c [] (omega arith) (All-nil (λ d. d.number < c.number + 1)))
