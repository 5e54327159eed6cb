-- Lists of checks of which none refuses.
use Rattle.std.proofs.Common.{◌≡◌, Bool, true, false, List, [], ◌∷◌, refl}
use Rattle.std.specs.Prelude.{Option, Some, None}
use Rattle.pon_descr.specs.Checks.{when, or_else, first_refusal_of}
use Rattle.pon_descr.specs.declared.refusal.Refusal.{Refusal}

pub or_else_none : (q r : Option Refusal) → or_else q r ≡ None → (q ≡ None) × (r ≡ None)
or_else_none None r h = (refl, h)
or_else_none (Some q) r h = absurd cc

pub when_none : (b : Bool) (r : Refusal) → when b r ≡ None → b ≡ false
when_none true r h = absurd cc
when_none false r h = refl

-- no check of a list refuses
abbrev pub AreNone : List (Option Refusal) → Type 0
AreNone [] = Unit {0}
AreNone (r ∷ rs) = (r ≡ None) × AreNone rs

pub none_refuses : (rs : List (Option Refusal)) → first_refusal_of rs ≡ None → AreNone rs
none_refuses [] h = tt
none_refuses (r ∷ rs) h = let two : (r ≡ None) × (first_refusal_of rs ≡ None) = or_else_none r (first_refusal_of rs) h in (two.0, none_refuses rs two.1)
