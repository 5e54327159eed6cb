use Rattle.std.proofs.Common.{◌≡◌, ℕ, ◌+◌, ◌≤◌, List, ◌++◌, drop, length, map, take}
use Rattle.std.specs.Prelude.{All}
use Rattle.pon_units.specs.declared.limits.TheConstants.{MAX_SERIES}
use Rattle.pon_units.specs.declared.Granted.{Granted}
use Rattle.pon_bwmap.specs.Alloc.{Alloc}
use Rattle.pon_burst.specs.declared.layout.Layout.{Layout}
use Rattle.pon_burst.specs.Layout.{IsAfter}
use Rattle.pon_burst.specs.Maps.{structure_of}
use Rattle.pon_burst.specs.Series.{grants_of_series}
use Rattle.pon_burst.proofs.packing.pack.Given as goal

-- the grant of an Alloc-ID of the ONU
abbrev pub granted_of : ℕ → ℕ × ℕ → Granted
granted_of u a = record { onu = u; alloc_id = a.0; words = a.1 }

-- the structures of all grants but the rest are written
pub record Packed (gap profile : ℕ) (gs rest : List Granted) (l : Layout) (filled : ℕ) (out old : List Alloc) : Type 0 where
  pub count : filled + length rest ≡ length gs
  pub left : drop filled gs ≡ rest
  pub after : IsAfter gap (take filled gs) l
  pub structures : take filled out ≡ map (structure_of gap profile gs) (take filled gs)
  pub kept : drop filled out ≡ drop filled old

abbrev pub invariant-loop-onu : goal.invariant-loop-onu
invariant-loop-onu l = record {
  packed : Packed l.fn.gap l.profile (grants_of_series l.onus) (grants_of_series (drop l.onu-index l.onus)) l.layout l.filled l.out l.initial.out;
  short : All (λ s. length s.1.items ≤ MAX_SERIES) (take l.onu-index l.onus);
}

abbrev pub invariant-loop-alloc_id : goal.invariant-loop-alloc_id
invariant-loop-alloc_id l =
    Packed l.fn.gap l.profile (grants_of_series l.onus) (map (granted_of l.onu) (drop l.alloc_id-index l.alloc_id-items) ++ grants_of_series (drop (l.onu-index + 1) l.onus)) l.layout l.filled l.out l.fn.out
