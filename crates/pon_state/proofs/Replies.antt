-- Only `MakeMap` gets a map, and a state has at most one reply to an event.
use Rattle.std.proofs.Common.{◌≡◌, refl, sym, subst, ap, ◌∙◌}
use Rattle.pon_admit.specs.declared.event.Event.{Event}
use Rattle.pon_admit.specs.declared.event.Event.TheVariants.{Admit, Change, Remove, Report, MakeMap, Fail, Restore}
use Rattle.pon_state.specs.State.{State, carry_at, input_of}
use Rattle.pon_state.specs.Entries.{GetsReply}
use Rattle.pon_state.specs.Legal.{IsReply, IsMade}
use Rattle.pon_state.specs.declared.reply.Reply.{Reply}
use Rattle.pon_state.specs.declared.reply.Reply.TheVariants.{Taken, Map}
use Rattle.pon_admit.specs.Roster.{IsAdmitted}
use Rattle.pon_demand.specs.Maps.{map_of}
use Rattle.pon_demand.specs.Sharing.{surplus_rate}
use Rattle.pon_demand.proofs.ClassShares.{one_map_certificate}
use Rattle.pon_state.specs.declared.reply.MadeMap.{MadeMap}

gets_taken : (event : Event) (reply : Reply) → reply ≡ Taken → GetsReply event reply
gets_taken event reply e = subst (GetsReply event) (sym e) tt

pub gets_reply : (s : State) (event : Event) (reply : Reply) → IsReply s event reply → GetsReply event reply
gets_reply s MakeMap (Map made) h = refl
gets_reply s MakeMap Taken h = absurd h
gets_reply s (Admit row) reply h = gets_taken (Admit row) reply h
gets_reply s (Change alloc_id descriptor) reply h = gets_taken (Change alloc_id descriptor) reply h
gets_reply s (Remove alloc_id) reply h = gets_taken (Remove alloc_id) reply h
gets_reply s (Report frame onu occ) reply h = gets_taken (Report frame onu occ) reply h
gets_reply s (Fail cause) reply h = gets_taken (Fail cause) reply h
gets_reply s Restore reply h = gets_taken Restore reply h

-- a state has at most one reply: no two certificates of its map are accepted
module _ (s : State) (k : IsAdmitted s.rule s.gap s.roster) where
  one_made : (a b : MadeMap) → IsMade s a → IsMade s b → a ≡ b
  one_made a b p q =
      let cert : a.cert ≡ b.cert = one_map_certificate (input_of s) k a.cert b.cert p.certified q.certified in
      let told : a.map ≡ b.map = p.map ∙ ap (λ c. map_of s.profile (input_of s) (surplus_rate (input_of s) c) (carry_at s)) cert ∙ sym q.map in
      (λ i. record { frame = (p.frame ∙ sym q.frame) i; map = told i; cert = cert i })

  pub one_reply : (v : Event) (a b : Reply) → IsReply s v a → IsReply s v b → a ≡ b
  one_reply MakeMap (Map a) (Map b) p q = ap Map (one_made a b p q)
  one_reply MakeMap (Map a) Taken p q = absurd q
  one_reply MakeMap Taken b p q = absurd p
  one_reply v a b p q = p ∙ sym q
