-- The rates of an Alloc-ID in a map, and its payload words (ITU-T G.987.3: the reference model of dynamic bandwidth assignment).
use Rattle.std.specs.Prelude.{ℕ, ◌+◌, ◌/◌, List, map}
use Rattle.pon_units.specs.declared.limits.TheConstants.{WORD_RATE}
use Rattle.pon_units.specs.Frac.{Frac}
use Rattle.pon_units.specs.declared.granted.Granted.{Granted}
use Rattle.pon_admit.specs.declared.row.Row.{Row}
use Rattle.pon_admit.specs.Roster.{left_over}
use Rattle.pon_guar.specs.Book.{load_of}
use Rattle.pon_guar.specs.Rates.{guaranteed}
use Rattle.pon_demand.specs.Input.{Input}

-- the guaranteed rate of an admitted Alloc-ID, in kbit/s
abbrev pub guaranteed_rate : Input → Row → ℕ
guaranteed_rate s r = guaranteed r.descriptor (load_of s.book r.alloc_id)

-- the whole kbit/s of guaranteed and surplus rate together
abbrev pub whole_rate : Input → (Row → Frac) → Row → ℕ
whole_rate s surplus r = guaranteed_rate s r + (surplus r).num / (surplus r).den

-- what a map owes an admitted Alloc-ID, in kbit/s: that rate, and its carry
abbrev pub owed : Input → (Row → Frac) → (Row → ℕ) → Row → ℕ
owed s surplus carry r = carry r + whole_rate s surplus r

-- the whole words of it, at 256 kbit/s a word
abbrev pub payload : Input → (Row → Frac) → (Row → ℕ) → Row → ℕ
payload s surplus carry r = owed s surplus carry r / WORD_RATE

-- the grant of each admitted Alloc-ID, in map order
abbrev pub planned_grants : Input → (Row → Frac) → (Row → ℕ) → List Granted
planned_grants s surplus carry = map (λ r. record { onu = r.onu; alloc_id = r.alloc_id; words = payload s surplus carry r }) s.roster

-- what these words leave to each for its next map, in map order
abbrev pub carried : Input → (Row → Frac) → (Row → ℕ) → List ℕ
carried s surplus carry = map (λ r. left_over s.rule (owed s surplus carry r)) s.roster
