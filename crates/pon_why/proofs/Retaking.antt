-- The entries of a lawful chapter, taken again one by one.
use Rattle.std.proofs.Common.{◌≡◌, ℕ, ◌<◌, length, take, get_or, refl, ap, sym, ◌∙◌, subst, false, List}
use Rattle.std.specs.Prelude.{Option, Some, slice_get}
use Rattle.std.proofs.lemmas.Option.{slice_get-get_or}
use Rattle.pon_admit.specs.declared.event.Event.{Event}
use Rattle.pon_admit.specs.declared.event.Event.TheVariants.{Admit, Change, Remove, Report, MakeMap, Fail, Restore}
use Rattle.pon_state.specs.State.{State, input_of}
use Rattle.pon_state.specs.Legal.{MayFollow}
use Rattle.pon_state.specs.Maps.{makes_map}
use Rattle.pon_state.specs.declared.reply.Reply.TheVariants.{Taken, Map}
use Rattle.pon_state.specs.Entry.{Entry}
use Rattle.pon_history.specs.Chapters.{Chapter, IsLawfulChapter, cut_at}
use Rattle.pon_history.specs.Taking.{IsKept}
use Rattle.pon_demand.specs.Sharing.{IsCertified}
use Rattle.pon_state.specs.History.{replay}
use Rattle.pon_state.specs.declared.reply.MadeMap.{MadeMap}
use Rattle.pon_why.specs.Lasts.{last_place, made_at, why_at, why_in, why_of}
use Rattle.pon_why.specs.declared.last.LastWhy.TheVariants.{NoMap}

-- the reply of an event that makes no map
pub plain_event : (kept : ℕ) (s : State) (v : Event) → MayFollow kept s (record { event = v; reply = Taken }) → makes_map v ≡ false
plain_event kept s MakeMap m = absurd m.reply
plain_event kept s (Admit r) m = refl
plain_event kept s (Change i d) m = refl
plain_event kept s (Remove i) m = refl
plain_event kept s (Report f u occ) m = refl
plain_event kept s (Fail cause) m = refl
plain_event kept s Restore m = refl

-- the entry at an index of a lawful chapter may follow in the state that keeps those before it
pub follows_here : (c : Chapter) (i : ℕ) (s : State) (e : Entry) → IsLawfulChapter c → i < length c.entries → e ≡ get_or c.entries i e → IsKept (cut_at c i) s → MayFollow i s e
follows_here c i s e l lt here k =
    subst (λ s. MayFollow i s e) (sym k.replayed) (l.legal i e (slice_get-get_or c.entries i e lt ∙ ap Option.Some (sym here)))

-- the certificate of a map of a lawful chapter is accepted in the state before it
pub certified_here : (c : Chapter) (i : ℕ) (s : State) (e : Entry) (made : MadeMap) → IsLawfulChapter c → i < length c.entries → e ≡ get_or c.entries i e → IsKept (cut_at c i) s → record { event = MakeMap; reply = Map made } ≡ e → IsCertified (input_of s) made.cert
certified_here c i s e made l lt here k is = (subst (λ (e : Entry). MayFollow i s e) (sym is) (follows_here c i s e l lt here k)).reply.certified

-- the explanation of a map, which is the last one of its chapter
pub why_here : (o s : State) (es : List Entry) (i place : ℕ) (e : Entry) (made : MadeMap) → Some place ≡ last_place es → s ≡ replay o (take place es) → place < length es → e ≡ get_or es place e → record { event = MakeMap; reply = Map made } ≡ e →
    why_in s i (Some made) ≡ why_of o es i
why_here o s es i place e made last state lt here is =
    let at : slice_get es place ≡ Some e = slice_get-get_or es place e lt ∙ ap Option.Some (sym here) in
    ap (λ (s : State). why_in s i (Some made)) state ∙ ap (λ q. why_in (replay o (take place es)) i (made_at q)) (ap Option.Some is ∙ sym at) ∙ ap (why_at o es i) last

-- there is none for an entry without a map
pub none_here : (o : State) (es : List Entry) (i place : ℕ) (e : Entry) (v : Event) → Some place ≡ last_place es → place < length es → e ≡ get_or es place e → record { event = v; reply = Taken } ≡ e → NoMap ≡ why_of o es i
none_here o es i place e v last lt here is =
    let at : slice_get es place ≡ Some e = slice_get-get_or es place e lt ∙ ap Option.Some (sym here) in
    ap (λ q. why_in (replay o (take place es)) i (made_at q)) (ap Option.Some is ∙ sym at) ∙ ap (why_at o es i) last
