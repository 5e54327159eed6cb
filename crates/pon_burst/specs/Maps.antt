-- The map that grants given payload words (ITU-T G.987.3): an allocation structure for each Alloc-ID, and a burst for
-- each ONU. Words are of 4 bytes.
use Rattle.std.specs.Prelude.{ℕ, ◌+◌, ◌*◌, ◌==◌, ◌&&◌, nat_lt, Bool, true, false, if◌then◌else◌, List, map, filter, length, sum_by, Some, None}
use Rattle.std.specs.List.{list_any}
use Rattle.pon_units.specs.declared.Granted.{Granted}
use Rattle.pon_units.specs.Granted.{onus_granted}
use Rattle.pon_bwmap.specs.Alloc.{Alloc}

-- GrantSize of a grant: one word for the report, and the payload words
abbrev pub grant : Granted → ℕ
grant g = 1 + g.words

-- the words that all bursts take with their gaps: gap, header and trailer of each ONU, and the grants
abbrev pub frame_words : ℕ → List Granted → ℕ
frame_words gap gs = (gap + 2) * length (onus_granted gs) + sum_by grant gs

module _ (gap profile : ℕ) (gs : List Granted) where
  -- the start of the burst of an ONU: after gap, header, grants and trailer of each ONU of smaller number, and after its own gap
  abbrev pub start_of : ℕ → ℕ
  start_of u =
      gap + (gap + 2) * length (filter (λ v. nat_lt v u) (onus_granted gs))
      + sum_by (λ g. if nat_lt g.onu u then grant g else 0) gs

  -- the ONU has an Alloc-ID of smaller number
  abbrev pub follows_in_series : Granted → Bool
  follows_in_series g = list_any (λ h. h.onu == g.onu && nat_lt h.alloc_id g.alloc_id) gs

  abbrev pub structure_of : Granted → Alloc
  structure_of g = record {
    id = g.alloc_id;
    dbru = true;
    ploam = false;
    start = if follows_in_series g then None else Some (start_of g.onu);
    grant = grant g;
    fwi = false;
    profile = profile;
  }

  -- a structure for each grant, in order
  abbrev pub map_granting : List Alloc
  map_granting = map structure_of gs
