-- Checks in order: the first check that refuses gives the refusal.
use Rattle.std.specs.Prelude.{◌≡◌, Bool, true, false, List, [], ◌∷◌, Option, Some, None}
use Rattle.pon_descr.specs.declared.refusal.Refusal.{Refusal}
use Rattle.pon_descr.specs.declared.refusal.Refusal.TheVariants.{OutOfMemory}

-- a check that refuses if its test holds
abbrev pub when : Bool → Refusal → Option Refusal
when true r = Some r
when false r = None

-- the first of two refusals
abbrev pub or_else : Option Refusal → Option Refusal → Option Refusal
or_else None r = r
or_else (Some q) r = Some q

abbrev pub first_refusal_of : List (Option Refusal) → Option Refusal
first_refusal_of [] = None
first_refusal_of (r ∷ rs) = or_else r (first_refusal_of rs)

-- the refusal of the checks, and `OutOfMemory` only if none refuses
abbrev pub IsTold : Option Refusal → Refusal → Type 0
IsTold None told = told ≡ OutOfMemory
IsTold (Some refusal) told = told ≡ refusal
