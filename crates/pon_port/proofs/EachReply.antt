-- A state has a reply to each event that no check refuses: there is a certificate of its map.
use Rattle.std.proofs.Common.{refl, ◌≡◌, length}
use Rattle.pon_descr.specs.declared.class.Class.TheVariants.{NonAssured, BestEffort}
use Rattle.pon_admit.specs.Roster.{IsAdmitted}
use Rattle.pon_cert.specs.declared.cert.ClassCert.{ClassCert}
use Rattle.pon_cert.specs.declared.cert.MapCert.{MapCert}
use Rattle.pon_cert.specs.Certificate.{IsCertificate, left_surplus}
use Rattle.pon_fill.proofs.EachProblem.{each_problem}
use Rattle.pon_demand.specs.Input.{Input}
use Rattle.pon_demand.specs.Sharing.{IsCertified, items, surplus, surplus_rate}
use Rattle.pon_demand.proofs.ClassShares.{weighted}
use Rattle.std.specs.Prelude.{None}
use Rattle.pon_state.specs.State.{State, carry_at, input_of}
use Rattle.pon_demand.specs.Maps.{map_of}
use Rattle.pon_state.specs.Events.{IsEvent}
use Rattle.pon_state.specs.Legal.{IsMade, IsReply, MayFollow}
use Rattle.pon_history.specs.Chapters.{Chapter, IsLawfulChapter, present_state}
use Rattle.pon_history.specs.Taking.{Takes, refusal_of, with_entry}
use Rattle.pon_admit.specs.declared.event.Event.{Event}
use Rattle.pon_admit.specs.declared.event.Event.TheVariants.{MakeMap}
use Rattle.pon_state.specs.declared.reply.Reply.{Reply}
use Rattle.pon_state.specs.declared.reply.Reply.TheVariants.{Taken, Map}
use Rattle.pon_state.specs.declared.reply.MadeMap.{MadeMap}
use Rattle.pon_history.proofs.LawfulChapters.{present_lawful}

-- each admitted set has a certificate of its map
each_map_certificate : (s : Input) → IsAdmitted s.rule s.gap s.roster → (cert : MapCert) × IsCertified s cert
each_map_certificate s k =
    let na : (cert : ClassCert) × IsCertificate (items NonAssured s) (surplus s) cert = each_problem (items NonAssured s) (surplus s) (weighted s k NonAssured refl) in
    let be : (cert : ClassCert) × IsCertificate (items BestEffort s) (left_surplus na.0.level (items NonAssured s) (surplus s)) cert
    = each_problem (items BestEffort s) (left_surplus na.0.level (items NonAssured s) (surplus s)) (weighted s k BestEffort refl) in
    (record { na = na.0; be = be.0 }, record { non_assured = na.1; best_effort = be.1 })

module _ (s : State) (k : IsAdmitted s.rule s.gap s.roster) where
  each_made : (made : MadeMap) × IsMade s made
  each_made =
      let cert : (cert : MapCert) × IsCertified (input_of s) cert = each_map_certificate (input_of s) k in
      (record { frame = s.next; map = map_of s.profile (input_of s) (surplus_rate (input_of s) cert.0) (carry_at s); cert = cert.0 }, record { frame = refl; certified = cert.1; map = refl })

  pub each_reply : (v : Event) → (a : Reply) × IsReply s v a
  each_reply MakeMap = (Map each_made.0, each_made.1)
  each_reply v = (Taken, refl)

-- a lawful chapter has a reply to an event that no check refuses
pub each_follows : (c : Chapter) (v : Event) → IsLawfulChapter c → IsEvent v → refusal_of c v ≡ None → (reply : Reply) × MayFollow (length c.entries) (present_state c) (record { event = v; reply = reply })
each_follows c v l range accepted =
    let reply : (a : Reply) × IsReply (present_state c) v a = each_reply (present_state c) (present_lawful c l).admitted v in
    (reply.0, record { event = range; accepted = accepted; reply = reply.1 })

pub each_taken : (c : Chapter) (v : Event) → IsLawfulChapter c → IsEvent v → refusal_of c v ≡ None → (reply : Reply) × (next : Chapter) × Takes c v reply next
each_taken c v l range accepted =
    let reply : (a : Reply) × MayFollow (length c.entries) (present_state c) (record { event = v; reply = a }) = each_follows c v l range accepted in
    (reply.0, with_entry c v reply.0, record { follows = reply.1; kept = refl })
