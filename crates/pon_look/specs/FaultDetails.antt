-- Why an entry may not follow, in numbers.
use Rattle.std.specs.Prelude.{ℕ, ◌≡◌, ◌≢◌, List, slice_get, Some}
use Rattle.pon_bwmap.specs.Alloc.{Alloc}
use Rattle.pon_demand.specs.Maps.{map_of}
use Rattle.pon_demand.specs.Sharing.{IsCertified, surplus_rate}
use Rattle.pon_state.specs.State.{State, carry_at, input_of}
use Rattle.pon_state.specs.Checks.{first_refusal}
use Rattle.pon_state.specs.Entry.{Entry}
use Rattle.pon_state.specs.declared.reply.MadeMap.{MadeMap}
use Rattle.pon_state.specs.declared.reply.Reply.TheVariants.{Map}
use Rattle.pon_history.specs.Chapters.{Chapter, IsLawfulChapter, cut_at, state_before}
use Rattle.pon_look.specs.declared.fault.FaultDetail.{FaultDetail}
use Rattle.pon_look.specs.declared.fault.FaultDetail.TheVariants.{Refused, Certificate, Grant, Structure, Frame}

-- the structures that a state makes with the certificate of a map
abbrev pub wanted_map : State → MadeMap → List Alloc
wanted_map s m = map_of s.profile (input_of s) (surplus_rate (input_of s) m.cert) (carry_at s)

-- at one place the wanted structure has this grant, and the one that is found has the Alloc-ID and another grant
pub record OtherGrant (wanted found : List Alloc) (id grant other : ℕ) : Type 0 where
  pub place : ℕ
  pub good : Alloc
  pub bad : Alloc
  pub here : slice_get wanted place ≡ Some good
  pub there : slice_get found place ≡ Some bad
  pub of_alloc : bad.id ≡ id
  pub owed : good.grant ≡ grant
  pub given : bad.grant ≡ other
  pub differ : grant ≢ other

-- at one place the wanted structure and the one that is found differ
abbrev pub IsOther : List Alloc → List Alloc → FaultDetail → Type 0
IsOther w f (Grant id wanted found) = OtherGrant w f id wanted found
IsOther w f (Structure place wanted found) = (wanted ≡ slice_get w place) × (found ≡ slice_get f place) × (wanted ≢ found)
IsOther w f detail = ⊥

-- what is wrong with a map in a state
abbrev pub IsMapDetail : State → MadeMap → FaultDetail → Type 0
IsMapDetail s m (Refused refusal) = ⊥
IsMapDetail s m (Certificate fault) = IsCertified (input_of s) m.cert → ⊥
IsMapDetail s m (Frame next) = IsCertified (input_of s) m.cert × (next ≡ s.next) × (m.frame ≢ next)
IsMapDetail s m detail = IsCertified (input_of s) m.cert × IsOther (wanted_map s m) m.map detail

-- what is wrong with an entry that follows `kept` others: the first check that refuses its event, or its map
abbrev pub IsDetail : ℕ → State → Entry → FaultDetail → Type 0
IsDetail kept s e (Refused refusal) = first_refusal kept s e.event ≡ Some refusal
IsDetail kept s e detail = (m : MadeMap) × (e.reply ≡ Map m) × IsMapDetail s m detail

-- the entries before an index are lawful, and this is wrong with the entry there
pub record IsDetailAt (c : Chapter) (index : ℕ) (detail : FaultDetail) : Type 0 where
  pub entry : Entry
  pub here : slice_get c.entries index ≡ Some entry
  pub lawful : IsLawfulChapter (cut_at c index)
  pub wrong : IsDetail index (state_before c index) entry detail
