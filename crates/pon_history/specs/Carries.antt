-- The carry of an Alloc-ID as a function of a whole history: what the whole words of its maps left of its rates since its
-- last admission.
use Rattle.std.specs.Prelude.{ℕ, ◌+◌, Bool, if◌then◌else◌, List, [], ◌∷◌, ◌++◌, map}
use Rattle.std.specs.List.{list_any}
use Rattle.pon_admit.specs.Roster.{left_over}
use Rattle.pon_demand.specs.Carries.{number_of}
use Rattle.pon_demand.specs.Input.{Input}
use Rattle.pon_demand.specs.Rates.{whole_rate}
use Rattle.pon_demand.specs.Sharing.{surplus_rate}
use Rattle.pon_state.specs.State.{State, input_of}
use Rattle.pon_state.specs.declared.reply.Reply.{Reply}
use Rattle.pon_state.specs.declared.reply.Reply.TheVariants.{Taken, Map}
use Rattle.pon_state.specs.Entry.{Entry}
use Rattle.pon_state.specs.History.{replay}
use Rattle.pon_history.specs.Parts.{admits}

-- the whole kbit/s that a reply gives to an Alloc-ID: 0 if it has no map, or the Alloc-ID is not admitted
abbrev pub rate_of_reply : Input → Reply → ℕ → ℕ
rate_of_reply s Taken i = 0
rate_of_reply s (Map made) i = number_of s.roster (map (whole_rate s (surplus_rate s made.cert)) s.roster) i

-- an entry admits the Alloc-ID
abbrev pub admits_now : ℕ → Entry → Bool
admits_now i e = admits i e.event

-- the sum of an amount of the entries `es`, which follow `done`, since the last of them that admits the Alloc-ID; the
-- amount of an entry depends on the entries before it
abbrev pub sum_since : (List Entry → Entry → ℕ) → ℕ → List Entry → List Entry → ℕ
sum_since amount i done [] = 0
sum_since amount i done (e ∷ es) = (if list_any (admits_now i) es then 0 else amount done e) + sum_since amount i (done ++ e ∷ []) es

-- the sum of the rates of an Alloc-ID in the maps of `es`, which follow `done`, since its last admission in `es`
abbrev pub rates_since : State → ℕ → List Entry → List Entry → ℕ
rates_since o i done es = sum_since (λ before e. rate_of_reply (input_of (replay o before)) e.reply i) i done es

-- what the entries owe an Alloc-ID: the sum of its rates since its last admission; if none is in the list, all of them
-- and the opening's carry
abbrev pub owed_of : State → List Entry → ℕ → ℕ
owed_of o es i = (if list_any (admits_now i) es then 0 else number_of o.roster o.carries i) + rates_since o i [] es

-- what whole words leave of it
abbrev pub carry_after : State → List Entry → ℕ → ℕ
carry_after o es i = left_over o.rule (owed_of o es i)
