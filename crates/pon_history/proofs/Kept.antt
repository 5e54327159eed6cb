-- What a port keeps, with one more entry.
use Rattle.std.proofs.Common.{rules, ◌≡◌, ℕ, ◌+◌, ◌<◌, false, [], ◌∷◌, ◌++◌, length, take, get_or, refl, ap, sym, ◌∙◌, subst, arith}
use Rattle.pon_history.specs.Chapters.{IsLegal, Chapter, IsLawfulOpening, cut_at}
use Rattle.pon_state.specs.LawfulStates.{IsLawfulState}
use Rattle.std.specs.Prelude.{None}
use Rattle.std.proofs.lemmas.List.{length-take-le, take_more}
use Rattle.pon_admit.specs.declared.event.Event.{Event}
use Rattle.pon_admit.specs.declared.event.Event.TheVariants.{MakeMap}
use Rattle.pon_guar.specs.Window.{AreConsecutive}
use Rattle.pon_state.specs.declared.reply.Reply.{Reply}
use Rattle.pon_state.specs.declared.reply.Reply.TheVariants.{Taken, Map}
use Rattle.pon_state.specs.declared.reply.MadeMap.{MadeMap}
use Rattle.pon_state.specs.After.{after_entry, after_event, after_map, after_reply}
use Rattle.pon_state.specs.Carries.{carries_left}
use Rattle.pon_state.specs.Checks.{first_refusal}
use Rattle.pon_state.specs.Entry.{Entry}
use Rattle.pon_state.specs.Events.{IsEvent}
use Rattle.pon_state.specs.Legal.{IsMade, MayFollow}
use Rattle.pon_state.specs.Maps.{grants_in_map, makes_map}
use Rattle.pon_state.specs.State.{State}
use Rattle.pon_history.specs.Taking.{IsKept, Takes, with_entry}
use Rattle.pon_state.proofs.Replays.{replay_push}
use Rattle.pon_history.proofs.Legality.{legal_none, legal_one_more}
use Rattle.pon_history.proofs.LawfulChapters.{present_lawful}
use Rattle.pon_state.proofs.LawfulStates.{lawful_step}

-- a chapter without entries, and the state that it opens with
pub kept_none : (n : ℕ) (s : State) → IsLawfulOpening n s → IsKept (record { number = n; opening = s; entries = [] }) s
kept_none n s l = search (rules, l, legal_none n s)

-- a kept state is lawful
pub kept_lawful : (c : Chapter) (s : State) → IsKept c s → IsLawfulState s
kept_lawful c s k = subst IsLawfulState (sym k.replayed) (present_lawful c k.lawful)

-- its frames are consecutive and end before the next frame
pub kept_frames : (c : Chapter) (s : State) → IsKept c s → AreConsecutive s.next s.window
kept_frames c s k = (kept_lawful c s k).frames

-- the state after an entry that may follow is kept
pub kept_next : (c d : Chapter) (s t : State) (v : Event) (r : Reply) → IsKept c s → MayFollow (length c.entries) s (record { event = v; reply = r }) → d ≡ with_entry c v r → t ≡ after_reply s v r → IsKept d t
kept_next c d s t v r k follows more after =
    let e : Entry = record { event = v; reply = r } in
    let l : IsLawfulState (after_reply s v r) = lawful_step (length c.entries) s e follows (kept_lawful c s k) in
    let legal : IsLegal (with_entry c v r) = legal_one_more c e k.lawful.legal (rw k.replayed at follows) in
    rw (more, after) (search (rules, ap (λ s. after_reply s v r) k.replayed ∙ sym (replay_push c.opening c.entries e)))

-- the state after a map is kept
pub mapped : (c d : Chapter) (s t : State) (made : MadeMap) → IsKept c s → first_refusal (length c.entries) s MakeMap ≡ None → IsMade s made →
    d ≡ with_entry c MakeMap (Map made) → t ≡ after_map s (grants_in_map s.roster made.map) (carries_left s (Map made)) → IsKept d t
mapped c d s t made k accepted is_made more after = kept_next c d s t MakeMap (Map made) k (record { event = tt; accepted = accepted; reply = is_made }) more after

-- a map that is made may follow
pub map_taken : (c d : Chapter) (s : State) (made : MadeMap) → IsKept c s → first_refusal (length c.entries) s MakeMap ≡ None → IsMade s made → d ≡ with_entry c MakeMap (Map made) → Takes c MakeMap (Map made) d
map_taken c d s made k accepted is_made more =
    let follows : MayFollow (length c.entries) s (record { event = MakeMap; reply = Map made }) = record { event = tt; accepted = accepted; reply = is_made } in
    record { follows = rw k.replayed at follows; kept = more }

-- the state after an event that makes no map is kept
pub taken : (c d : Chapter) (s t : State) (v : Event) → IsKept c s → IsEvent v → makes_map v ≡ false → first_refusal (length c.entries) s v ≡ None → d ≡ with_entry c v Taken → t ≡ after_event s v → IsKept d t
taken c d s t MakeMap k range m accepted = absurd cc
taken c d s t v k range m accepted = kept_next c d s t v Taken k (record { event = range; accepted = accepted; reply = refl })

-- A chapter, entry by entry.

-- before its first entry
pub none_yet : (c : Chapter) (s : State) → IsLawfulOpening c.number c.opening → s ≡ c.opening → IsKept (cut_at c 0) s
none_yet c s l is = subst (IsKept (cut_at c 0)) (sym is) (kept_none c.number c.opening l)

-- with one more of its entries
pub one_further : (c : Chapter) (i : ℕ) (s t : State) (e : Entry) → i < length c.entries → e ≡ get_or c.entries i e → IsKept (cut_at c i) s → MayFollow i s e → t ≡ after_entry s e → IsKept (cut_at c (i + 1)) t
one_further c i s t e lt here k follows after =
    let count : i ≡ length (take i c.entries) = sym (length-take-le i c.entries (omega (arith, lt))) in
    let entries : take (i + 1) c.entries ≡ take i c.entries ++ e ∷ [] = take_more c.entries i e lt ∙ ap (λ x. take i c.entries ++ x ∷ []) (sym here) in
    kept_next (cut_at c i) (cut_at c (i + 1)) s t e.event e.reply k (subst (λ n. MayFollow n s e) count follows) (λ j. record { number = c.number; opening = c.opening; entries = entries j }) after
