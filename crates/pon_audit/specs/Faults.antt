-- The fault of an entry in the state before it. Of several faults the first counts, in this order: event, certificate,
-- words, bursts.
use Rattle.std.specs.Prelude.{ℕ, ◌≡◌, ◌≢◌, ◌+◌, map, slice_get, Option, Some, None}
use Rattle.pon_admit.specs.declared.event.Event.TheVariants.{MakeMap}
use Rattle.pon_cert.specs.declared.cert.MapCert.{MapCert}
use Rattle.pon_demand.specs.Problems.{AreProblems}
use Rattle.pon_demand.specs.declared.problems.Problems.{Problems}
use Rattle.pon_demand.specs.Rates.{planned_grants}
use Rattle.pon_demand.specs.Sharing.{IsCertified, surplus_rate}
use Rattle.pon_state.specs.State.{State, carry_at, input_of}
use Rattle.pon_state.specs.Checks.{first_refusal}
use Rattle.pon_state.specs.Legal.{IsMade}
use Rattle.pon_state.specs.declared.reply.MadeMap.{MadeMap}
use Rattle.pon_state.specs.declared.reply.Reply.{Reply}
use Rattle.pon_state.specs.declared.reply.Reply.TheVariants.{Taken, Map}
use Rattle.pon_state.specs.Entry.{Entry}
use Rattle.pon_history.specs.Chapters.{Chapter, IsLawfulChapter, cut_at, state_before}
use Rattle.pon_audit.specs.declared.verdict.AuditReason.{AuditReason}
use Rattle.pon_audit.specs.declared.verdict.AuditReason.TheVariants.{Event, Certificate, Words, Bursts}

-- the Alloc-IDs of its structures are those of the admitted rows in map order
abbrev pub ListsAllocs : State → MadeMap → Type 0
ListsAllocs s m = map (λ a. a.id) m.map ≡ map (λ r. r.alloc_id) s.roster

-- each grant is one more than the payload words that the certificate and the carries give
abbrev pub GrantsWords : State → MadeMap → Type 0
GrantsWords s m = map (λ a. a.grant) m.map ≡ map (λ g. 1 + g.words) (planned_grants (input_of s) (surplus_rate (input_of s) m.cert) (carry_at s))

-- the Alloc-IDs are the right ones, and some grant is wrong
abbrev pub HasWrongWords : State → MadeMap → Type 0
HasWrongWords s m = ListsAllocs s m × (GrantsWords s m → ⊥)

-- the map is not the one that the state makes, for this reason
abbrev pub MapFails : State → MadeMap → AuditReason → Type 0
MapFails s m Certificate = IsCertified (input_of s) m.cert → ⊥
MapFails s m Words = IsCertified (input_of s) m.cert × HasWrongWords s m
MapFails s m Bursts = IsCertified (input_of s) m.cert × (HasWrongWords s m → ⊥) × (IsMade s m → ⊥)
MapFails s m why = ⊥

abbrev pub ReplyFails : State → Reply → AuditReason → Type 0
ReplyFails s (Map m) why = MapFails s m why
ReplyFails s Taken why = ⊥

-- the entry of a map
abbrev pub map_entry : MadeMap → Entry
map_entry m = record { event = MakeMap; reply = Map m }

-- the class problems of a state, which accept a certificate; none if they do not
abbrev pub HasAccepted : State → MapCert → Option Problems → Type 0
HasAccepted s cert None = IsCertified (input_of s) cert → ⊥
HasAccepted s cert (Some p) = AreProblems (input_of s) p × IsCertified (input_of s) cert

-- an entry fails after `kept` entries of its chapter: a check refuses the event, or its map is not the one that the
-- state makes
abbrev pub EntryFails : ℕ → State → Entry → AuditReason → Type 0
EntryFails kept s e Event = first_refusal kept s e.event ≢ None
EntryFails kept s e why = (first_refusal kept s e.event ≡ None) × ReplyFails s e.reply why

-- the entry at an index is the first that fails, for this reason
pub record FailsAt (c : Chapter) (index : ℕ) (why : AuditReason) : Type 0 where
  pub entry : Entry
  pub here : slice_get c.entries index ≡ Some entry
  pub lawful : IsLawfulChapter (cut_at c index)
  pub fails : EntryFails index (state_before c index) entry why
