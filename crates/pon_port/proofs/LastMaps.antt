-- The last map of a chapter with one more entry.
use Rattle.pon_lists.proofs.Lists.{at_front, at_middle}
use Rattle.std.proofs.Common.{◌≡◌, ℕ, List, [], ◌∷◌, ◌++◌, length, refl, ap, sym, ◌∙◌, subst, ◌≤◌, arith}
use Rattle.std.specs.Prelude.{Option, Some, None}
use Rattle.std.proofs.lemmas.List.{length-map}
use Rattle.std.proofs.lemmas.Slice.Zip.{AllZip-long}
use Rattle.pon_units.specs.declared.limits.TheConstants.{MAX_STRUCTURES}
use Rattle.pon_descr.specs.declared.class.Class.{Class}
use Rattle.pon_descr.specs.declared.class.Class.TheVariants.{NonAssured, BestEffort}
use Rattle.pon_admit.specs.declared.row.Row.{Row}
use Rattle.pon_demand.specs.Input.{Input}
use Rattle.pon_state.specs.State.{State, input_of}
use Rattle.pon_admit.specs.Roster.{IsAdmitted}
use Rattle.pon_admit.proofs.Rules.{few_allowed}
use Rattle.pon_cert.specs.declared.cert.ClassCert.{ClassCert}
use Rattle.pon_cert.specs.Certificate.{IsCertificate, RuleHolds, left_surplus}
use Rattle.pon_demand.specs.Sharing.{item_of, items, member_ids, members, surplus}
use Rattle.pon_state.specs.After.{after_entry}
use Rattle.pon_state.specs.History.{replay}
use Rattle.pon_state.specs.Legal.{IsMade}
use Rattle.pon_history.specs.Chapters.{Chapter}
use Rattle.pon_history.specs.Last.{LastMap, MatchesMembers, last_map, last_told, told_last}
use Rattle.pon_port.specs.Ports.{KeepsLast}
use Rattle.pon_history.specs.Taking.{IsKept, with_entry}
use Rattle.pon_demand.proofs.ClassItems.{few_members}
use Rattle.pon_admit.specs.declared.event.Event.{Event}
use Rattle.pon_admit.specs.declared.event.Event.TheVariants.{MakeMap}
use Rattle.pon_state.specs.declared.reply.Reply.TheVariants.{Taken, Map}
use Rattle.pon_state.specs.declared.reply.MadeMap.{MadeMap}
use Rattle.pon_state.specs.Entry.{Entry}

last_push : (before : Option LastMap) (s : State) (es : List Entry) (e : Entry) → last_told before s (es ++ e ∷ []) ≡ told_last (last_told before s es) (replay s es).roster e.reply
last_push before s [] e = refl
last_push before s (x ∷ es) e = last_push (told_last before s.roster x.reply) (after_entry s x) es e

-- an event with the reply `Taken` leaves the last map unchanged
pub last_kept : (c d : Chapter) (v : Event) (place : Option ℕ) (na be : List ℕ) → d ≡ with_entry c v Taken → KeepsLast c place na be → KeepsLast d place na be
last_kept c d v place na be more h = subst (λ d. KeepsLast d place na be) (sym more) (step place h)
  where
    e : Entry
    e = record { event = v; reply = Taken }

    same : last_map (with_entry c v Taken) ≡ last_map c
    same = last_push None c.opening c.entries e

    step : (place : Option ℕ) → KeepsLast c place na be → KeepsLast (with_entry c v Taken) place na be
    step None h = same ∙ h
    step (Some k) h = record {
      made = h.made;
      entry = h.entry;
      at = (at_front c.entries (e ∷ []) h.entry k h.at).0;
      is_map = h.is_map;
      is_last = same ∙ h.is_last;
      members = h.members;
    }

-- the certificate of a map has a flag for each Alloc-ID of its class
counted : (s : Input) (class : Class) (cert : ClassCert) (surplus : ℕ) → IsCertificate (items class s) surplus cert → length cert.saturated ≡ length (member_ids class s.roster)
counted s class cert surplus k =
    AllZip-long (RuleHolds cert.level) (items class s) cert.saturated k.rules ∙ length-map (members class s.roster) (item_of s) ∙ sym (length-map (members class s.roster) (λ r. r.alloc_id))

few_ids : (class : Class) (rows : List Row) → length rows ≤ MAX_STRUCTURES → length (member_ids class rows) ≤ MAX_STRUCTURES
few_ids class rows few = omega (arith, length-map (members class rows) (λ r. r.alloc_id), few_members class rows, few)

suits_made : (s : State) (made : MadeMap) → IsAdmitted s.rule s.gap s.roster → IsMade s made → MatchesMembers made.cert (member_ids NonAssured s.roster) (member_ids BestEffort s.roster)
suits_made s made a m = record {
  non_assured = counted (input_of s) NonAssured made.cert.na (surplus (input_of s)) m.certified.non_assured;
  best_effort = counted (input_of s) BestEffort made.cert.be (left_surplus made.cert.na.level (items NonAssured (input_of s)) (surplus (input_of s))) m.certified.best_effort;
  few_non_assured = few_ids NonAssured s.roster (omega (arith, a.few_allocs, few_allowed s.rule));
  few_best_effort = few_ids BestEffort s.roster (omega (arith, a.few_allocs, few_allowed s.rule));
}

-- a map that is made is the last one
pub last_made : (c d : Chapter) (s : State) (made : MadeMap) (place : ℕ) (na be : List ℕ) → IsKept c s → IsMade s made → d ≡ with_entry c MakeMap (Map made) →
    place ≡ length c.entries → na ≡ member_ids NonAssured s.roster → be ≡ member_ids BestEffort s.roster → KeepsLast d (Some place) na be
last_made c d s made place na be k m more here na_is be_is =
    let e : Entry = record { event = MakeMap; reply = Map made } in
    let told : last_map (with_entry c MakeMap (Map made)) ≡ Some (record { made = made; na = member_ids NonAssured s.roster; be = member_ids BestEffort s.roster })
    = last_push None c.opening c.entries e ∙ ap (λ s. Some (record { made = made; na = member_ids NonAssured s.roster; be = member_ids BestEffort s.roster })) (sym k.replayed) in
    rw (more, here, na_is, be_is) (record { made = made; entry = e; at = at_middle c.entries e []; is_map = refl; is_last = told; members = suits_made s made k.admitted m })
