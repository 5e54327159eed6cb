-- Replay and legality, entry by entry.
use Rattle.std.proofs.Common.{◌≡◌, ℕ, suc, ◌+◌, List, [], ◌∷◌, ◌++◌, length, refl, sym, ◌∙◌, subst, append_assoc, arith, inl, inr}
use Rattle.std.proofs.lemmas.List.{append-nil, take_at}
use Rattle.pon_admit.specs.declared.event.Event.{Event}
use Rattle.pon_admit.specs.declared.event.Event.TheVariants.{MakeMap}
use Rattle.pon_state.specs.declared.reply.Reply.{Reply}
use Rattle.pon_state.specs.Entry.{Entry}
use Rattle.pon_state.specs.State.{State}
use Rattle.pon_state.specs.After.{after_entry, after_reply}
use Rattle.pon_state.specs.History.{replay}
use Rattle.pon_state.specs.Legal.{MayFollow}
use Rattle.pon_history.specs.Chapters.{Chapter, IsLegal, present_state}
use Rattle.pon_history.specs.Taking.{with_entry}
use Rattle.pon_lists.proofs.Lists.{at_front, at_middle, at_push}
use Rattle.pon_state.proofs.Replays.{follows_fewer}

-- the parts of a state that no entry changes, and the count of entries
pub record IsLater (o : State) (count : ℕ) (s : State) : Type 0 where
  pub rule : s.rule ≡ o.rule
  pub gap : s.gap ≡ o.gap
  pub profile : s.profile ≡ o.profile
  pub taken_before : s.taken_before ≡ o.taken_before + count

pub later_one : (o : State) (v : Event) (reply : Reply) → IsLater o 1 (after_reply o v reply)
later_one o MakeMap reply = record { rule = refl; gap = refl; profile = refl; taken_before = refl }
later_one o v reply = record { rule = refl; gap = refl; profile = refl; taken_before = refl }

pub replay_later : (o : State) (es : List Entry) → IsLater o (length es) (replay o es)
replay_later o [] = record { rule = refl; gap = refl; profile = refl; taken_before = omega arith }
replay_later o (e ∷ es) =
    let one = later_one o e.event e.reply in
    let rest = replay_later (after_entry o e) es in
    record { rule = rest.rule ∙ one.rule; gap = rest.gap ∙ one.gap; profile = rest.profile ∙ one.profile; taken_before = omega (arith, rest.taken_before, one.taken_before) }

pub legal_none : (n : ℕ) (s : State) → IsLegal (record { number = n; opening = s; entries = [] })
legal_none n s k e there = absurd cc

pub legal_front : (n : ℕ) (s : State) (xs ys : List Entry) → IsLegal (record { number = n; opening = s; entries = xs ++ ys }) → IsLegal (record { number = n; opening = s; entries = xs })
legal_front n s xs ys h k e there = (let two = at_front xs ys e k there in rw two.1 at (h k e two.0))

-- the second part is legal as a chapter of its own
pub legal_rest : (n m : ℕ) (s : State) (xs ys : List Entry) → IsLegal (record { number = n; opening = s; entries = xs ++ ys }) → IsLegal (record { number = m; opening = replay s xs; entries = ys })
legal_rest n m s [] ys h = h
legal_rest n m s (x ∷ xs) ys h = legal_rest n m (after_entry s x) xs ys (λ k e there. follows_fewer k _ e (h (suc k) e there))

-- the entry after the first part of a legal list may follow
follows_in : (n : ℕ) (s : State) (xs : List Entry) (e : Entry) (ys : List Entry) → IsLegal (record { number = n; opening = s; entries = xs ++ e ∷ ys }) → MayFollow (length xs) (replay s xs) e
follows_in n s xs e ys h = rw (take_at xs (e ∷ ys) (length xs) refl) at (h (length xs) e (at_middle xs e ys))

pub legal_one_more : (c : Chapter) (e : Entry) → IsLegal c → MayFollow (length c.entries) (present_state c) e → IsLegal (with_entry c e.event e.reply)
legal_one_more c e l m k x there = elim (at_push c.entries e x k there) [
  | inl old ↦ rw (at_front c.entries (e ∷ []) x k old).1 (l k x old)
  | inr new ↦ rw (new.0, ← new.1, take_at c.entries (e ∷ []) (length c.entries) refl) m
]

pub legal_one_less : (c : Chapter) (e : Entry) → IsLegal (with_entry c e.event e.reply) → IsLegal c × MayFollow (length c.entries) (present_state c) e
legal_one_less c e l = (legal_front c.number c.opening c.entries (e ∷ []) l, follows_in c.number c.opening c.entries e [] l)

-- a property that each entry of a legal list keeps holds after all of it
pub along : (n : ℕ) (s : State) (P : List Entry → Type 0) → ((es : List Entry) (e : Entry) → MayFollow (length es) (replay s es) e → P es → P (es ++ e ∷ [])) →
    (done es : List Entry) → IsLegal (record { number = n; opening = s; entries = done ++ es }) → P done → P (done ++ es)
along n s P step done [] l p = subst P (sym (append-nil done)) p
along n s P step done (e ∷ es) l p =
    subst P (append_assoc done (e ∷ []) es)
    (along n s P step (done ++ e ∷ []) es (subst (λ es. IsLegal (record { number = n; opening = s; entries = es })) (sym (append_assoc done (e ∷ []) es)) l) (step done e (follows_in n s done e es l) p))
