-- The grants of a map, as C is given them.
use Rattle.std.specs.Prelude.{ℕ, ◌≡◌, ◌++◌, List, drop, length, map}
use Rattle.pon_bwmap.specs.Alloc.{Alloc}
use Rattle.pon_state.specs.declared.reply.MadeMap.{MadeMap}
use Rattle.pon_history.specs.Chapters.{Chapter}
use Rattle.pon_c.specs.Answers.{Made}
use Rattle.pon_c.specs.Codecs.{start_or}
use Rattle.pon_c.specs.declared.grants.GrantInfo.{GrantInfo}
use Rattle.pon_c.specs.declared.grants.GrantsInfo.{GrantsInfo}

abbrev pub grant_of : Alloc → GrantInfo
grant_of a = record { alloc_id = a.id; start = start_or a.start; words = a.grant }

abbrev pub grants_of : List Alloc → List GrantInfo
grants_of structures = map grant_of structures

-- the frame of the map and the number of its grants, which are at the front of the room
pub record IsListed (made : MadeMap) (info : GrantsInfo) (before after : List GrantInfo) : Type 0 where
  pub frame : info.frame ≡ made.frame
  pub count : info.count ≡ length made.map
  pub grants : after ≡ grants_of made.map ++ drop info.count before

-- a fair map of the kept history was made and is kept, and its grants are at the front of the room
abbrev pub MadeGrants : Chapter → Chapter → GrantsInfo → List GrantInfo → List GrantInfo → Type 0
MadeGrants c d info before after = Made (λ made. IsListed made info before after) c d
