-- The state that a chapter opens with, by the version of the recording and the rule of the chapter.
use Rattle.std.specs.Prelude.{ℕ, ◌≤◌, All, List, length, Option}
use Rattle.std.specs.Int.{w8, w16, w64}
use Rattle.pon_admit.specs.Roster.{max_allocs, max_carry}
use Rattle.pon_admit.specs.declared.rule.Rule.{Rule}
use Rattle.pon_descr.specs.Descriptor.{Descriptor}
use Rattle.pon_units.specs.declared.granted.Granted.{Granted}
use Rattle.pon_guar.specs.declared.account.Counted.{Counted}
use Rattle.pon_guar.specs.Window.{WindowMap}
use Rattle.pon_guar.specs.declared.window.TheConstants.{MAX_MAPS}
use Rattle.pon_record.specs.declared.limits.TheConstants.{MAX_REPORTED}
use Rattle.pon_record.specs.declared.row.RawRow.{RawRow}
use Rattle.pon_record.specs.declared.version.Version.{Version}
use Rattle.pon_record.specs.Format.{Format, ◌&◌, as_value, counted, number, told_by}
use Rattle.pon_record.specs.Fields.{alloc_id, carry_in, descriptor, failure, frame, gap, onu_id, profile, report, words}

-- a row: the ONU, the Alloc-ID, its descriptor, its since-frame, its counted report, and its carry
abbrev pub row_parts : RawRow → ℕ × (ℕ × (Descriptor × (ℕ × (Option Counted × ℕ))))
row_parts r = (r.onu, (r.alloc_id, (r.descriptor, (r.since, (r.counted, r.carry)))))

abbrev pub row_of : ℕ × (ℕ × (Descriptor × (ℕ × (Option Counted × ℕ)))) → RawRow
row_of x = record {
  onu = x.0;
  alloc_id = x.1.0;
  descriptor = x.1.1.0;
  since = x.1.1.1.0;
  counted = x.1.1.1.1.0;
  carry = x.1.1.1.1.1;
}

abbrev pub row_in : Version → Rule → Format RawRow
row_in v r = told_by (as_value row_of) row_parts (onu_id & alloc_id & descriptor & frame & report & carry_in v r)

-- a grant of a map of the window: the ONU, the Alloc-ID, its payload words
abbrev pub grant_parts : Granted → ℕ × (ℕ × ℕ)
grant_parts g = (g.onu, (g.alloc_id, g.words))

abbrev pub grant_of : ℕ × (ℕ × ℕ) → Granted
grant_of x = record { onu = x.0; alloc_id = x.1.0; words = x.1.1 }

abbrev pub grant : Format Granted
grant = told_by (as_value grant_of) grant_parts (onu_id & alloc_id & words)

-- a map of the window: its frame, its grants, the ONUs that reported
abbrev pub map_parts : WindowMap → ℕ × (List Granted × List ℕ)
map_parts m = (m.frame, (m.grants, m.reported))

abbrev pub window_map_of : ℕ × (List Granted × List ℕ) → WindowMap
window_map_of x = record { frame = x.0; grants = x.1.0; reported = x.1.1 }

-- at most as many grants as a port may have Alloc-IDs under the rule
abbrev pub window_map_under : Rule → Format WindowMap
window_map_under r = told_by (as_value window_map_of) map_parts (frame & counted (number w16) (max_allocs r) grant & counted (number w8) MAX_REPORTED onu_id)

-- the rule, the gap, the profile, the cause of a failure, the next frame, the number of earlier entries, the rows, and the
-- window
pub record Opening : Type 0 where
  pub rule : Rule
  pub gap : ℕ
  pub profile : ℕ
  pub cause : Option ℕ
  pub next : ℕ
  pub taken_before : ℕ
  pub rows : List RawRow
  pub window : List WindowMap

-- what follows the rule
abbrev pub opening_parts : Opening → ℕ × (ℕ × (Option ℕ × (ℕ × (ℕ × (List RawRow × List WindowMap)))))
opening_parts o = (o.gap, (o.profile, (o.cause, (o.next, (o.taken_before, (o.rows, o.window))))))

abbrev pub opening_of : Rule → ℕ × (ℕ × (Option ℕ × (ℕ × (ℕ × (List RawRow × List WindowMap))))) → Opening
opening_of r x = record {
  rule = r;
  gap = x.0;
  profile = x.1.0;
  cause = x.1.1.0;
  next = x.1.1.1.0;
  taken_before = x.1.1.1.1.0;
  rows = x.1.1.1.1.1.0;
  window = x.1.1.1.1.1.1;
}

-- an opening under a rule that is known: at most as many rows as a port may have Alloc-IDs
abbrev pub opening_in : Version → Rule → Format Opening
opening_in v r = told_by (as_value (opening_of r)) opening_parts
    (gap & profile & failure & frame & number w64 & counted (number w16) (max_allocs r) (row_in v r) & counted (number w8) MAX_MAPS (window_map_under r))

-- the rows, their carries and the grants of each map of the window are within the limits of the rule
pub record KeepsLimits (o : Opening) : Type 0 where
  pub few_rows : length o.rows ≤ max_allocs o.rule
  pub carries_in_range : All (λ r. r.carry ≤ max_carry o.rule) o.rows
  pub few_grants : All (λ m. length m.grants ≤ max_allocs o.rule) o.window
