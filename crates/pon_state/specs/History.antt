-- The replay of a history: its entries, one after the other.
use Rattle.std.specs.Prelude.{List, [], ◌∷◌}
use Rattle.pon_state.specs.State.{State}
use Rattle.pon_state.specs.After.{after_entry}
use Rattle.pon_state.specs.Entry.{Entry}

-- the state after the entries
abbrev pub replay : State → List Entry → State
replay s [] = s
replay s (e ∷ es) = replay (after_entry s e) es
