-- What is drawn.
use Rattle.std.specs.Prelude.{ℕ, ◌≡◌, List, Some, slice_get}
use Rattle.pon_state.specs.Entry.{Entry}
use Rattle.pon_state.specs.declared.reply.MadeMap.{MadeMap}
use Rattle.pon_state.specs.declared.reply.Reply.TheVariants.{Map}

-- the entry at this place is a map
pub record IsMapAt (entries : List Entry) (place : ℕ) : Type 0 where
  pub entry : Entry
  pub made : MadeMap
  pub here : slice_get entries place ≡ Some entry
  pub is_map : entry.reply ≡ Map made
