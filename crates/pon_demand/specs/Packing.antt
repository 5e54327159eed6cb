-- Grants that fit one map.
use Rattle.std.specs.Prelude.{ℕ, ◌≤◌, ◌==◌, List, length, count_by}
use Rattle.pon_units.specs.declared.limits.TheConstants.{FRAME_WORDS, MAX_SERIES, MAX_STRUCTURES}
use Rattle.pon_units.specs.declared.granted.Granted.{Granted}
use Rattle.pon_units.specs.Granted.{AreInMapOrder}
use Rattle.pon_burst.specs.Maps.{frame_words}

-- in map order, at most 16 to an ONU and 512 in all, and their bursts fit a frame
pub record AreOneMap (gap : ℕ) (gs : List Granted) : Type 0 where
  pub in_map_order : AreInMapOrder gs
  pub short_series : (u : ℕ) → count_by (λ g. g.onu == u) gs ≤ MAX_SERIES
  pub few : length gs ≤ MAX_STRUCTURES
  pub fitting : frame_words gap gs ≤ FRAME_WORDS
