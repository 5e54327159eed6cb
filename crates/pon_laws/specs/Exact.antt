-- The exact rates of an Alloc-ID over a run, fractions of a kbit/s included.
use Rattle.std.specs.Prelude.{ℕ, ◌+◌, ◌*◌, ◌==◌, ◌<◌, ◌≤◌, if◌then◌else◌, List, [], ◌∷◌}
use Rattle.pon_units.specs.Frac.{Frac}
use Rattle.pon_admit.specs.declared.row.Row.{Row}
use Rattle.pon_demand.specs.Input.{Input}
use Rattle.pon_state.specs.After.{after_entry}
use Rattle.pon_state.specs.Entry.{Entry}
use Rattle.pon_state.specs.State.{State, input_of}
use Rattle.pon_state.specs.declared.reply.Reply.{Reply}
use Rattle.pon_state.specs.declared.reply.Reply.TheVariants.{Taken, Map}
use Rattle.pon_history.specs.Chapters.{Chapter}
use Rattle.pon_laws.specs.Shares.{rate_of}

abbrev pub no_rate : Frac
no_rate = record { num = 0; den = 1 }

-- the rate of an Alloc-ID, given one for each row: 0 if it has no row
abbrev pub rate_among : (Row → Frac) → List Row → ℕ → Frac
rate_among rate [] i = no_rate
rate_among rate (r ∷ rows) i = if r.alloc_id == i then rate r else rate_among rate rows i

-- the guaranteed and surplus rate that a reply gives to an Alloc-ID: 0 if it has no map
abbrev pub exact_of_reply : Input → Reply → ℕ → Frac
exact_of_reply s Taken i = no_rate
exact_of_reply s (Map made) i = rate_among (rate_of s made.cert) s.roster i

abbrev pub plus : Frac → Frac → Frac
plus a b = record { num = a.num * b.den + b.num * a.den; den = a.den * b.den }

-- the sum of these rates
abbrev pub exact_after : State → ℕ → List Entry → Frac
exact_after s i [] = no_rate
exact_after s i (e ∷ es) = plus (exact_of_reply (input_of s) e.reply i) (exact_after (after_entry s e) i es)

abbrev pub exact_over : Chapter → ℕ → Frac
exact_over run i = exact_after run.opening i run.entries

-- a fraction is below a number, and at least a number less another
abbrev pub IsBelow : Frac → ℕ → Type 0
IsBelow f n = f.num < n * f.den

abbrev pub IsAtLeast : Frac → ℕ → ℕ → Type 0
IsAtLeast f n less = n * f.den ≤ f.num + less * f.den
