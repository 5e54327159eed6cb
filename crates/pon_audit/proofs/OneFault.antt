-- A chapter fails in at most one way, and a good chapter in none.
use Rattle.std.proofs.Common.{◌≡◌, ℕ, zero, suc, ◌<◌, List, [], ◌∷◌, map, take, Option, Some, None, refl, ap, sym, ◌∙◌, subst, arith, inl, inr}
use Rattle.std.specs.Prelude.{◌≢◌, ◌⊎◌, slice_get}
use Rattle.std.proofs.lemmas.Bool.{cases_lt}
use Rattle.std.proofs.lemmas.List.{take-take}
use Rattle.pon_admit.specs.declared.event.Event.{Event}
use Rattle.pon_admit.specs.declared.event.Event.TheVariants as event
use Rattle.pon_demand.specs.Sharing.{IsCertified, surplus_rate}
use Rattle.pon_state.specs.State.{State, carry_at, input_of}
use Rattle.pon_state.specs.Checks.{first_refusal}
use Rattle.pon_state.specs.Legal.{IsMade, IsReply, MayFollow}
use Rattle.pon_state.specs.History.{replay}
use Rattle.pon_state.specs.declared.reply.MadeMap.{MadeMap}
use Rattle.pon_state.specs.declared.reply.Reply.{Reply}
use Rattle.pon_state.specs.declared.reply.Reply.TheVariants.{Taken, Map}
use Rattle.pon_state.specs.Entry.{Entry}
use Rattle.pon_history.specs.Chapters.{Chapter, state_before}
use Rattle.pon_record.specs.Chapters.{PlacedChapter}
use Rattle.pon_audit.specs.Openings.{OpensLawfully, chapter_of}
use Rattle.pon_audit.specs.Faults.{EntryFails, FailsAt, GrantsWords, HasWrongWords, MapFails, ReplyFails}
use Rattle.pon_audit.specs.Verdicts.{ChapterFails, FallsBehind, IsChained, IsGoodChapter, MayStandAfter}
use Rattle.pon_audit.specs.Judging.{IsJudgment}
use Rattle.pon_audit.specs.declared.chapters.Judged.{Judged}
use Rattle.pon_audit.specs.declared.chapters.Judged.TheVariants.{Unlawful, Fails, Ends}
use Rattle.pon_audit.specs.declared.verdict.AuditReason.{AuditReason}
use Rattle.pon_audit.specs.declared.verdict.AuditReason.TheVariants as why
use Rattle.pon_audit.proofs.Maps.{grants_of_map}

-- A map.

-- the map that the state makes has the words of its certificate
made_words : (s : State) (m : MadeMap) → IsMade s m → GrantsWords s m
made_words s m made = ap (map (λ a. a.grant)) made.map ∙ grants_of_map s.profile (input_of s) (surplus_rate (input_of s) m.cert) (carry_at s)

-- the map that the state makes does not fail
made_holds : (s : State) (m : MadeMap) (w : AuditReason) → IsMade s m → MapFails s m w → ⊥
made_holds s m why.Opening made f = f
made_holds s m why.Chain made f = f
made_holds s m why.Number made f = f
made_holds s m why.Event made f = f
made_holds s m why.Certificate made f = f made.certified
made_holds s m why.Words made f = f.1.1 (made_words s m made)
made_holds s m why.Bursts made f = f.2 made

-- the reason why a map fails
abbrev MapFault : State → MadeMap → AuditReason → Type 0
MapFault s m w =
    ((w ≡ why.Certificate) × (IsCertified (input_of s) m.cert → ⊥))
    ⊎ (IsCertified (input_of s) m.cert × (((w ≡ why.Words) × HasWrongWords s m) ⊎ ((w ≡ why.Bursts) × (HasWrongWords s m → ⊥))))

map_fault : (s : State) (m : MadeMap) (w : AuditReason) → MapFails s m w → MapFault s m w
map_fault s m why.Opening f = absurd f
map_fault s m why.Chain f = absurd f
map_fault s m why.Number f = absurd f
map_fault s m why.Event f = absurd f
map_fault s m why.Certificate f = inl (refl, f)
map_fault s m why.Words f = inr (f.0, inl (refl, f.1))
map_fault s m why.Bursts f = inr (f.0, inr (refl, f.1))

one_map_fault : (s : State) (m : MadeMap) (w v : AuditReason) → MapFault s m w → MapFault s m v → w ≡ v
one_map_fault s m w v (inl a) (inl b) = a.0 ∙ sym b.0
one_map_fault s m w v (inl a) (inr b) = absurd (a.1 b.0)
one_map_fault s m w v (inr a) (inl b) = absurd (b.1 a.0)
one_map_fault s m w v (inr (c, inl a)) (inr (d, inl b)) = a.0 ∙ sym b.0
one_map_fault s m w v (inr (c, inl a)) (inr (d, inr b)) = absurd (b.1 a.1)
one_map_fault s m w v (inr (c, inr a)) (inr (d, inl b)) = absurd (a.1 b.1)
one_map_fault s m w v (inr (c, inr a)) (inr (d, inr b)) = a.0 ∙ sym b.0

-- An entry.

one_reply_fault : (s : State) (r : Reply) (w v : AuditReason) → ReplyFails s r w → ReplyFails s r v → w ≡ v
one_reply_fault s Taken w v f g = absurd f
one_reply_fault s (Map m) w v f g = one_map_fault s m w v (map_fault s m w f) (map_fault s m v g)

-- the event is refused, or the reply fails
abbrev EntryFault : ℕ → State → Entry → AuditReason → Type 0
EntryFault k s e w = ((w ≡ why.Event) × (first_refusal k s e.event ≢ None)) ⊎ ((first_refusal k s e.event ≡ None) × ReplyFails s e.reply w)

entry_fault : (k : ℕ) (s : State) (e : Entry) (w : AuditReason) → EntryFails k s e w → EntryFault k s e w
entry_fault k s e why.Event f = inl (refl, f)
entry_fault k s e why.Opening f = inr f
entry_fault k s e why.Chain f = inr f
entry_fault k s e why.Number f = inr f
entry_fault k s e why.Certificate f = inr f
entry_fault k s e why.Words f = inr f
entry_fault k s e why.Bursts f = inr f

one_entry_fault : (k : ℕ) (s : State) (e : Entry) (w v : AuditReason) → EntryFault k s e w → EntryFault k s e v → w ≡ v
one_entry_fault k s e w v (inl a) (inl b) = a.0 ∙ sym b.0
one_entry_fault k s e w v (inl a) (inr b) = absurd (a.1 b.0)
one_entry_fault k s e w v (inr a) (inl b) = absurd (b.1 a.0)
one_entry_fault k s e w v (inr a) (inr b) = one_reply_fault s e.reply w v a.1 b.1

-- the reply of an entry that may follow does not fail
reply_holds : (s : State) (v : Event) (r : Reply) (w : AuditReason) → IsReply s v r → ReplyFails s r w → ⊥
reply_holds s v Taken w i f = f
reply_holds s event.MakeMap (Map m) w i f = made_holds s m w i f
reply_holds s (event.Admit row) (Map m) w i f = absurd cc
reply_holds s (event.Change a d) (Map m) w i f = absurd cc
reply_holds s (event.Remove a) (Map m) w i f = absurd cc
reply_holds s (event.Report n u occ) (Map m) w i f = absurd cc
reply_holds s (event.Fail c) (Map m) w i f = absurd cc
reply_holds s event.Restore (Map m) w i f = absurd cc

follower_holds : (k : ℕ) (s : State) (e : Entry) (w : AuditReason) → MayFollow k s e → EntryFault k s e w → ⊥
follower_holds k s e w h (inl a) = a.1 h.accepted
follower_holds k s e w h (inr b) = reply_holds s e.event e.reply w h.reply b.1

-- A chapter.

pub some_same : {X : Type 0} (o : Option X) (x y : X) → o ≡ Some x → o ≡ Some y → x ≡ y
some_same o x y a b = cc

pub get_take : {X : Type 0} (xs : List X) (i j : ℕ) → i < j → slice_get (take j xs) i ≡ slice_get xs i
get_take [] i zero lt = absurd (omega (arith, lt))
get_take [] i (suc j) lt = refl
get_take (x ∷ xs) i zero lt = absurd (omega (arith, lt))
get_take (x ∷ xs) zero (suc j) lt = refl
get_take (x ∷ xs) (suc i) (suc j) lt = get_take xs i j (omega (arith, lt))

-- the first entry that fails is not before another such entry
not_before : (c : Chapter) (i j : ℕ) (w v : AuditReason) → FailsAt c i w → FailsAt c j v → i < j → ⊥
not_before c i j w v f g lt =
    let follows : MayFollow i (replay c.opening (take i (take j c.entries))) f.entry = g.lawful.legal i f.entry (get_take c.entries i j lt ∙ f.here) in
    follower_holds i (state_before c i) f.entry w (subst (λ es. MayFollow i (replay c.opening es) f.entry) (take-take i j c.entries (omega (arith, lt))) follows)
    (entry_fault i (state_before c i) f.entry w f.fails)

abbrev SameFault : ℕ → ℕ → AuditReason → AuditReason → Type 0
SameFault i j w v = (i ≡ j) × (w ≡ v)

one_failing : (c : Chapter) (i j : ℕ) (w v : AuditReason) → FailsAt c i w → FailsAt c j v → SameFault i j w v
one_failing c i j w v f g = elim (cases_lt i j) [
  | inl lt ↦ absurd (not_before c i j w v f g lt)
  | inr le ↦ elim (cases_lt j i) [
    | inl lt ↦ absurd (not_before c j i v w g f lt)
    | inr ge ↦
        let same : i ≡ j = omega (arith, le, ge) in
        let entry : f.entry ≡ g.entry = some_same (slice_get c.entries j) f.entry g.entry (ap (slice_get c.entries) (sym same) ∙ f.here) g.here in
        let moved : EntryFails j (state_before c j) g.entry w = subst (λ e. EntryFails j (state_before c j) e w) entry (subst (λ n. EntryFails n (state_before c n) f.entry w) same f.fails) in
        (same, one_entry_fault j (state_before c j) g.entry w v (entry_fault j (state_before c j) g.entry w moved) (entry_fault j (state_before c j) g.entry v g.fails))
  ]
]

-- the reason why a chapter fails
abbrev ChapterFault : List PlacedChapter → PlacedChapter → ℕ → AuditReason → Type 0
ChapterFault earlier c i w =
    ((OpensLawfully c.body → ⊥) × ((i ≡ 0) × (w ≡ why.Opening)))
    ⊎ (OpensLawfully c.body × (((IsChained earlier c → ⊥) × ((i ≡ 0) × (w ≡ why.Chain)))
    ⊎ ((FallsBehind earlier c × ((i ≡ 0) × (w ≡ why.Number))) ⊎ (MayStandAfter earlier c × FailsAt (chapter_of c.body) i w))))

chapter_fault : (earlier : List PlacedChapter) (c : PlacedChapter) (i : ℕ) (w : AuditReason) → ChapterFails earlier c i w → ChapterFault earlier c i w
chapter_fault earlier c i why.Opening f = inl (f.0, (f.1, refl))
chapter_fault earlier c i why.Chain f = inr (f.0, inl (f.1, (f.2, refl)))
chapter_fault earlier c i why.Number f = inr (f.0, inr (inl (f.1, (f.2, refl))))
chapter_fault earlier c i why.Event f = inr (f.0, inr (inr (f.1, f.2)))
chapter_fault earlier c i why.Certificate f = inr (f.0, inr (inr (f.1, f.2)))
chapter_fault earlier c i why.Words f = inr (f.0, inr (inr (f.1, f.2)))
chapter_fault earlier c i why.Bursts f = inr (f.0, inr (inr (f.1, f.2)))

same_start : (i j : ℕ) (w v u : AuditReason) → (i ≡ 0) × (w ≡ u) → (j ≡ 0) × (v ≡ u) → SameFault i j w v
same_start i j w v u a b = (a.0 ∙ sym b.0, a.1 ∙ sym b.1)

one_chapter_fault : (earlier : List PlacedChapter) (c : PlacedChapter) (i j : ℕ) (w v : AuditReason) → ChapterFault earlier c i w → ChapterFault earlier c j v → SameFault i j w v
one_chapter_fault earlier c i j w v (inl a) (inl b) = same_start i j w v why.Opening a.1 b.1
one_chapter_fault earlier c i j w v (inl a) (inr b) = absurd (a.0 b.0)
one_chapter_fault earlier c i j w v (inr a) (inl b) = absurd (b.0 a.0)
one_chapter_fault earlier c i j w v (inr (o, inl a)) (inr (p, inl b)) = same_start i j w v why.Chain a.1 b.1
one_chapter_fault earlier c i j w v (inr (o, inl a)) (inr (p, inr (inl b))) = absurd (a.0 b.0.chained)
one_chapter_fault earlier c i j w v (inr (o, inl a)) (inr (p, inr (inr b))) = absurd (a.0 b.0.chained)
one_chapter_fault earlier c i j w v (inr (o, inr (inl a))) (inr (p, inl b)) = absurd (b.0 a.0.chained)
one_chapter_fault earlier c i j w v (inr (o, inr (inl a))) (inr (p, inr (inl b))) = same_start i j w v why.Number a.1 b.1
one_chapter_fault earlier c i j w v (inr (o, inr (inl a))) (inr (p, inr (inr b))) = absurd (a.0.falls b.0.rising)
one_chapter_fault earlier c i j w v (inr (o, inr (inr a))) (inr (p, inl b)) = absurd (b.0 a.0.chained)
one_chapter_fault earlier c i j w v (inr (o, inr (inr a))) (inr (p, inr (inl b))) = absurd (b.0.falls a.0.rising)
one_chapter_fault earlier c i j w v (inr (o, inr (inr a))) (inr (p, inr (inr b))) = one_failing (chapter_of c.body) i j w v a.1 b.1

pub one_fault_of_chapter : (earlier : List PlacedChapter) (c : PlacedChapter) (i j : ℕ) (w v : AuditReason) → ChapterFails earlier c i w → ChapterFails earlier c j v → (i ≡ j) × (w ≡ v)
one_fault_of_chapter earlier c i j w v f g = one_chapter_fault earlier c i j w v (chapter_fault earlier c i w f) (chapter_fault earlier c j v g)

-- no entry of a good chapter fails
pub none_fails_at : (c : PlacedChapter) (i : ℕ) (w : AuditReason) → IsGoodChapter c → FailsAt (chapter_of c.body) i w → ⊥
none_fails_at c i w good f =
    follower_holds i (state_before (chapter_of c.body) i) f.entry w (good.lawful.legal i f.entry f.here) (entry_fault i (state_before (chapter_of c.body) i) f.entry w f.fails)

-- the answer on a good chapter is its end
pub must_end : (c : PlacedChapter) (a : Judged) → IsGoodChapter c → IsJudgment c a → ((s : State) → a ≡ Ends s → ⊥) → ⊥
must_end c Unlawful good h n = h good.lawful.opening
must_end c (Fails f) good h n = none_fails_at c f.index f.why good h.entry
must_end c (Ends s) good h n = n s refl

-- a good chapter has no fault
good_holds : (earlier : List PlacedChapter) (c : PlacedChapter) (i : ℕ) (w : AuditReason) → IsGoodChapter c → MayStandAfter earlier c → ChapterFault earlier c i w → ⊥
good_holds earlier c i w good stands (inl a) = a.0 good.lawful.opening
good_holds earlier c i w good stands (inr (o, inl a)) = a.0 stands.chained
good_holds earlier c i w good stands (inr (o, inr (inl a))) = a.0.falls stands.rising
good_holds earlier c i w good stands (inr (o, inr (inr a))) = none_fails_at c i w good a.1

pub good_has_no_fault : (earlier : List PlacedChapter) (c : PlacedChapter) (i : ℕ) (w : AuditReason) → IsGoodChapter c → MayStandAfter earlier c → ChapterFails earlier c i w → ⊥
good_has_no_fault earlier c i w good stands f = good_holds earlier c i w good stands (chapter_fault earlier c i w f)
