-- The last map of a chapter, with the Alloc-IDs of the classes that shared surplus in it.
use Rattle.std.specs.Prelude.{ℕ, ◌≡◌, ◌≤◌, List, [], ◌∷◌, length, Option, Some, None}
use Rattle.pon_cert.specs.declared.problem.TheConstants.{MAX_ITEMS}
use Rattle.pon_descr.specs.declared.class.Class.TheVariants.{NonAssured, BestEffort}
use Rattle.pon_admit.specs.declared.row.Row.{Row}
use Rattle.pon_cert.specs.declared.cert.MapCert.{MapCert}
use Rattle.pon_demand.specs.Sharing.{member_ids}
use Rattle.pon_state.specs.After.{after_entry}
use Rattle.pon_state.specs.State.{State}
use Rattle.pon_history.specs.Chapters.{Chapter}
use Rattle.pon_state.specs.declared.reply.Reply.{Reply}
use Rattle.pon_state.specs.declared.reply.Reply.TheVariants.{Taken, Map}
use Rattle.pon_state.specs.declared.reply.MadeMap.{MadeMap}
use Rattle.pon_state.specs.Entry.{Entry}

-- a map, and the Alloc-IDs of the two classes as they were at it, in map order
pub record LastMap : Type 0 where
  pub made : MadeMap
  pub na : List ℕ
  pub be : List ℕ

-- as many flags as Alloc-IDs in each class, at most 512
pub record MatchesMembers (cert : MapCert) (na be : List ℕ) : Type 0 where
  pub non_assured : length cert.na.saturated ≡ length na
  pub best_effort : length cert.be.saturated ≡ length be
  pub few_non_assured : length na ≤ MAX_ITEMS
  pub few_best_effort : length be ≤ MAX_ITEMS

-- the last map after an entry: the entry's map if it has one, otherwise the one before
abbrev pub told_last : Option LastMap → List Row → Reply → Option LastMap
told_last before rows Taken = before
told_last before rows (Map made) = Some (record { made = made; na = member_ids NonAssured rows; be = member_ids BestEffort rows })

abbrev pub last_told : Option LastMap → State → List Entry → Option LastMap
last_told before s [] = before
last_told before s (e ∷ es) = last_told (told_last before s.roster e.reply) (after_entry s e) es

-- the last map of a chapter
abbrev pub last_map : Chapter → Option LastMap
last_map c = last_told None c.opening c.entries
