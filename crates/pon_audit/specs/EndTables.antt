-- The ends of the chapters so far.
use Rattle.std.specs.Prelude.{ℕ, ◌++◌, List, [], ◌∷◌, Option, None, Some, if◌then◌else◌, length, nat_lt, set, slice_get, slice_index_or}
use Rattle.pon_audit.specs.declared.ends.End.{End}
use Rattle.pon_audit.specs.declared.ends.KeptEnds.{KeptEnds}
use Rattle.pon_audit.specs.declared.ends.KeptEnds.TheVariants.{OfPorts, OfChapters}

-- the ends that are kept, and the place of the last one of each port; if those of all chapters are kept, they are in the
-- order of the recording
pub record EndTable : Type 0 where
  pub kept : KeptEnds
  pub ends : List End
  pub places : List (Option ℕ)

-- the end at a place, if there is one
abbrev pub end_at : List End → Option ℕ → Option End
end_at ends None = None
end_at ends (Some place) = slice_get ends place

-- the place of the end that the next one of a port replaces: that of its last, if no other of the port is kept
abbrev pub replaced_if : KeptEnds → Option ℕ → Option ℕ
replaced_if OfPorts place = place
replaced_if OfChapters place = None

abbrev pub replaced : EndTable → ℕ → Option ℕ
replaced t port = replaced_if t.kept (slice_index_or t.places port None)

-- the table with one more end
abbrev pub pushed : EndTable → End → EndTable
pushed t e = record { kept = t.kept; ends = t.ends ++ e ∷ []; places = set t.places e.port (Some (length t.ends)) }

abbrev pub put : EndTable → End → Option ℕ → EndTable
put t e None = pushed t e
put t e (Some place) = if nat_lt place (length t.ends) then record { kept = t.kept; ends = set t.ends place e; places = t.places } else pushed t e

abbrev pub after_end : EndTable → End → EndTable
after_end t e = put t e (replaced t e.port)
