-- What is packed into a frame: ONUs, and the payload words of their Alloc-IDs.
use Rattle.std.specs.Prelude.{ℕ, List, map, flat_map}
use Rattle.arrayvec.specs.ArrayVec.{ArrayVec}
use Rattle.pon_units.specs.declared.Granted.{Granted}

-- an ONU, with its Alloc-IDs and the payload words of each
abbrev pub Series : Type 0
Series = ℕ × ArrayVec (ℕ × ℕ)

-- the grants of a series
abbrev pub granted_to : Series → List Granted
granted_to s = map (λ a. record { onu = s.0; alloc_id = a.0; words = a.1 }) s.1.items

-- the grants of all series, in order
abbrev pub grants_of_series : List Series → List Granted
grants_of_series series = flat_map granted_to series
