-- The words of the classes of surplus.
use Rattle.std.specs.Prelude.{ℕ, if◌then◌else◌, List, codes, Option, Some, None}
use Rattle.std.specs.Str.{bytes_eq}
use Rattle.pon_descr.specs.declared.class.Class.{Class}
use Rattle.pon_descr.specs.declared.class.Class.TheVariants.{Plain, NonAssured, BestEffort}

-- `none` shares no surplus, `na` is the non-assured class, `be` best effort
abbrev pub class_of : List ℕ → Option Class
class_of w =
    if bytes_eq w (codes "none") then Some Plain else
    (if bytes_eq w (codes "na") then Some NonAssured else
    (if bytes_eq w (codes "be") then Some BestEffort else None))
