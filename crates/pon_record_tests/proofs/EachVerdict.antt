-- No bytes are without a verdict.
use Rattle.std.proofs.Common.{◌≡◌, ℕ, zero, suc, ◌+◌, ◌<◌, List, [], ◌∷◌, ◌++◌, length, take, get_or, map, Option, Some, None, refl, ap, sym, ◌∙◌, subst, arith, append_assoc, inl, inr}
use Rattle.std.specs.Prelude.{◌≢◌, ◌⊎◌, All, slice_get, sum_by}
use Rattle.std.specs.List.{AllByRecursion}
use Rattle.std.proofs.lemmas.List.{append-nil, get_or_default}
use Rattle.std.proofs.lemmas.List.Elements.{All-nil, All-cons, All-head, All-push, All-tail}
use Rattle.std.proofs.lemmas.List.Quantifiers.{all_pairs_push}
use Rattle.pon_lists.specs.Bytes.{AreBytes}
use Rattle.pon_descr.specs.declared.refusal.Refusal.{Refusal}
use Rattle.pon_admit.specs.declared.event.Event.{Event}
use Rattle.pon_admit.specs.declared.event.Event.TheVariants.{Admit, Change, Remove, Report, MakeMap, Fail, Restore}
use Rattle.pon_state.specs.State.{State}
use Rattle.pon_state.specs.Checks.{first_refusal}
use Rattle.pon_state.specs.Events.{IsEvent}
use Rattle.pon_state.specs.Legal.{MayFollow}
use Rattle.pon_state.specs.declared.reply.MadeMap.{MadeMap}
use Rattle.pon_state.specs.declared.reply.Reply.{Reply}
use Rattle.pon_state.specs.declared.reply.Reply.TheVariants.{Taken, Map}
use Rattle.pon_state.specs.Entry.{Entry}
use Rattle.pon_state.specs.After.{after_entry}
use Rattle.pon_history.specs.Chapters.{Chapter, cut_at, state_before}
use Rattle.pon_history.specs.Taking.{IsKept}
use Rattle.pon_record.specs.declared.fault.ReadFault.{ReadFault}
use Rattle.pon_record.specs.declared.fault.ReadFault.TheVariants as read
use Rattle.pon_record.specs.declared.version.Version.{Version}
use Rattle.pon_record.specs.Chapters.{FitsChapter, PlacedChapter, reply_to}
use Rattle.pon_record.specs.Recordings.{IsReadFaultOf, IsRecording, IsTruncated, either_version}
use Rattle.pon_audit.specs.Openings.{OpensLawfully, chapter_of}
use Rattle.pon_audit.specs.Faults.{EntryFails, FailsAt, ReplyFails}
use Rattle.pon_audit.specs.Verdicts.{AreGood, ChapterFails, Continues, IsFirstFault, IsGoodChapter, IsVerdict, MayStandAfter, Rises, maps_in}
use Rattle.pon_audit.specs.declared.verdict.Verdict.{Verdict}
use Rattle.pon_audit.specs.declared.verdict.Verdict.TheVariants.{Good, Bad, BadFormat, Truncated}
use Rattle.pon_audit.specs.declared.verdict.AuditReason.{AuditReason}
use Rattle.pon_audit.specs.declared.verdict.AuditReason.TheVariants as why
use Rattle.pon_history.proofs.Kept.{none_yet, one_further}
use Rattle.pon_audit.proofs.Kept.{all_taken, ended, fails_here}
use Rattle.pon_record.proofs.EachRead.{each_read}
use Rattle.pon_record_tests.proofs.LawfulEvents.{IsFitting, entries_fit}

-- An entry: it may follow, unless it fails.

module _ (k : ℕ) (s : State) where
  map_follows : (m : MadeMap) → ((w : AuditReason) → EntryFails k s (record { event = MakeMap; reply = Map m }) w → ⊥) → first_refusal k s MakeMap ≡ None → (MayFollow k s (record { event = MakeMap; reply = Map m }) → ⊥) → ⊥
  map_follows m sound none n =
      sound why.Certificate (
        none,
        (λ certified.
            sound why.Words (
              none,
              (
                certified,
                absurd (
                    sound why.Bursts (none, (certified, (λ wrong. sound why.Words (none, (certified, wrong))), (λ made. n (record { event = tt; accepted = none; reply = made }))))),
              ),
            )),
      )

  reply_follows : (v : Event) (r : Reply) → IsEvent v → (reply_to v).Fits r → ((w : AuditReason) → EntryFails k s (record { event = v; reply = r }) w → ⊥) → first_refusal k s v ≡ None → (MayFollow k s (record { event = v; reply = r }) → ⊥) → ⊥
  reply_follows MakeMap Taken range fits sound none n = fits
  reply_follows MakeMap (Map m) range fits sound none n = map_follows m sound none n
  reply_follows (Admit row) r range fits sound none n = n (record { event = range; accepted = none; reply = fits })
  reply_follows (Change i d) r range fits sound none n = n (record { event = range; accepted = none; reply = fits })
  reply_follows (Remove i) r range fits sound none n = n (record { event = range; accepted = none; reply = fits })
  reply_follows (Report f u occ) r range fits sound none n = n (record { event = range; accepted = none; reply = fits })
  reply_follows (Fail c) r range fits sound none n = n (record { event = range; accepted = none; reply = fits })
  reply_follows Restore r range fits sound none n = n (record { event = range; accepted = none; reply = fits })

  follows : (e : Entry) → IsFitting e → ((w : AuditReason) → EntryFails k s e w → ⊥) → (MayFollow k s e → ⊥) → ⊥
  follows e fit sound n = go (first_refusal k s e.event) refl
    where
      go : (r : Option Refusal) → first_refusal k s e.event ≡ r → ⊥
      go None none = reply_follows e.event e.reply fit.event fit.reply sound none n
      go (Some refusal) some = sound why.Event (λ none. absurd (let t = sym none ∙ some in cc))

-- A chapter: it is good, unless an entry fails.

first_of : (es : List Entry) (i : ℕ) → i < length es → Entry
first_of [] i lt = absurd (omega (arith, lt))
first_of (e ∷ es) i lt = e

module _ (c : Chapter) (fit : All IsFitting c.entries) (sound : (i : ℕ) (w : AuditReason) → FailsAt c i w → ⊥) (n : ((s : State) → IsKept c s → ⊥)) where
  -- with `more` entries to come
  entries_hold : (more i : ℕ) (s : State) → i + more ≡ length c.entries → IsKept (cut_at c i) s → ⊥
  entries_hold zero i s count k = n s (all_taken c i s (omega (arith, count)) k)
  entries_hold (suc more) i s count k =
      let lt : i < length c.entries = omega (arith, count) in
      let d : Entry = first_of c.entries i lt in
      let x : Entry = get_or c.entries i d in
      let same : x ≡ get_or c.entries i x = get_or_default c.entries i d x lt in
      follows i s x (fit i d lt) (λ w f. sound i w (fails_here c i s x w lt same k f))
      (λ may. entries_hold more (i + 1) (after_entry s x) (omega (arith, count)) (one_further c i s (after_entry s x) x lt same k may refl))

-- The chapters of a recording: they are good, unless there is a first fault.

abbrev NoFault : List PlacedChapter → Type 0
NoFault cs = (port number index : ℕ) (w : AuditReason) → IsFirstFault cs port number index w → ⊥

-- a fault of an entry is that of the chapter
module _ (earlier : List PlacedChapter) (c : PlacedChapter) (opens : OpensLawfully c.body) (stands : MayStandAfter earlier c) (i : ℕ) where
  no_reply : (s : State) (r : Reply) (w : AuditReason) → ReplyFails s r w → (w ≡ why.Opening) ⊎ ((w ≡ why.Chain) ⊎ (w ≡ why.Number)) → ⊥
  no_reply s Taken w f e = f
  no_reply s (Map m) why.Opening f e = f
  no_reply s (Map m) why.Chain f e = f
  no_reply s (Map m) why.Number f e = f
  no_reply s (Map m) why.Event f e = f
  no_reply s (Map m) why.Certificate f (inl e) = absurd cc
  no_reply s (Map m) why.Certificate f (inr (inl e)) = absurd cc
  no_reply s (Map m) why.Certificate f (inr (inr e)) = absurd cc
  no_reply s (Map m) why.Words f (inl e) = absurd cc
  no_reply s (Map m) why.Words f (inr (inl e)) = absurd cc
  no_reply s (Map m) why.Words f (inr (inr e)) = absurd cc
  no_reply s (Map m) why.Bursts f (inl e) = absurd cc
  no_reply s (Map m) why.Bursts f (inr (inl e)) = absurd cc
  no_reply s (Map m) why.Bursts f (inr (inr e)) = absurd cc

  fails_later : (w : AuditReason) → FailsAt (chapter_of c.body) i w → ChapterFails earlier c i w
  fails_later why.Opening f = absurd (no_reply (state_before (chapter_of c.body) i) f.entry.reply why.Opening f.fails.1 (inl refl))
  fails_later why.Chain f = absurd (no_reply (state_before (chapter_of c.body) i) f.entry.reply why.Chain f.fails.1 (inr (inl refl)))
  fails_later why.Number f = absurd (no_reply (state_before (chapter_of c.body) i) f.entry.reply why.Number f.fails.1 (inr (inr refl)))
  fails_later why.Event f = (opens, stands, f)
  fails_later why.Certificate f = (opens, stands, f)
  fails_later why.Words f = (opens, stands, f)
  fails_later why.Bursts f = (opens, stands, f)

-- a chapter after others is good, unless it fails
module _ (earlier : List PlacedChapter) (c : PlacedChapter) (fit : All IsFitting c.body.entries) (sound : (i : ℕ) (w : AuditReason) → ChapterFails earlier c i w → ⊥) (n : MayStandAfter earlier c → IsGoodChapter c → ⊥) where
  stands_good : OpensLawfully c.body → MayStandAfter earlier c → ⊥
  stands_good opens stands =
      entries_hold (chapter_of c.body) fit (λ i w f. sound i w (fails_later earlier c opens stands i w f)) (λ s k. n stands (ended c s k).good)
      (length c.body.entries) 0 (chapter_of c.body).opening (omega arith) (none_yet (chapter_of c.body) (chapter_of c.body).opening opens refl)

  one_chapter : ⊥
  one_chapter =
      sound 0 why.Opening (
        (λ opens.
            sound 0 why.Chain (
              opens,
              (λ chained.
                  sound 0 why.Number (opens, record { chained = chained; falls = λ rising. stands_good opens (record { chained = chained; rising = rising }) }, refl)),
              refl,
            )),
        refl,
      )

slice_at : {X : Type 0} (xs : List X) (x : X) (ys : List X) → slice_get (xs ++ x ∷ ys) (length xs) ≡ Some x
slice_at [] x ys = refl
slice_at (y ∷ xs) x ys = slice_at xs x ys

take_front : {X : Type 0} (xs ys : List X) → take (length xs) (xs ++ ys) ≡ xs
take_front [] ys = refl
take_front (x ∷ xs) ys = ap (λ t. x ∷ t) (take_front xs ys)

all_chapters : (earlier rest : List PlacedChapter) → AreGood earlier → All (λ c. All IsFitting c.body.entries) rest → NoFault (earlier ++ rest) → (AreGood (earlier ++ rest) → ⊥) → ⊥
all_chapters earlier [] good fit sound n = n (subst AreGood (sym (append-nil earlier)) good)
all_chapters earlier (c ∷ rest) good fit sound n =
    one_chapter earlier c (All-head (λ c. All IsFitting c.body.entries) c rest fit)
    (λ i w f. sound c.body.port c.body.number i w (record {
      place = length earlier;
      chapter = c;
      here = slice_at earlier c rest;
      good = subst AreGood (sym (take_front earlier (c ∷ rest))) good;
      fails = subst (λ l. ChapterFails l c i w) (sym (take_front earlier (c ∷ rest))) f;
      of_port = refl;
      of_number = refl;
    }))
    (λ stands is_good. all_chapters (earlier ++ c ∷ []) rest
    (record {
      each = All-push IsGoodChapter earlier c good.each is_good;
      chained = all_pairs_push Continues earlier c good.chained stands.chained;
      rising = all_pairs_push Rises earlier c good.rising stands.rising;
    })
    (All-tail (λ c. All IsFitting c.body.entries) c rest fit)
    (subst NoFault joined sound)
    (λ g. n (subst AreGood (sym joined) g)))
  where
    joined : earlier ++ c ∷ rest ≡ (earlier ++ c ∷ []) ++ rest
    joined = sym (append_assoc earlier (c ∷ []) rest)

good_nothing : AreGood []
good_nothing = record {
  each = All-nil IsGoodChapter;
  chained = λ j k d lt l. absurd (omega (arith, l));
  rising = λ j k d lt l. absurd (omega (arith, l));
}

chapters_hold : (cs : List PlacedChapter) → All (λ c. All IsFitting c.body.entries) cs → NoFault cs → (AreGood cs → ⊥) → ⊥
chapters_hold cs fit sound n = all_chapters [] cs good_nothing fit sound n

-- Bytes.

bodies_fit : (v : Version) (cs : List PlacedChapter) → AllByRecursion (FitsChapter v) (map (λ c. c.body) cs) → All (λ c. All IsFitting c.body.entries) cs
bodies_fit v [] h = All-nil (λ c. All IsFitting c.body.entries)
bodies_fit v (c ∷ cs) h = All-cons (λ c. All IsFitting c.body.entries) c cs (entries_fit v c.body h.0) (bodies_fit v cs h.1)

recording_fits : (bytes : List ℕ) (cs : List PlacedChapter) → IsRecording bytes cs → All (λ c. All IsFitting c.body.entries) cs
recording_fits bytes cs (v, of, h) = bodies_fit v cs h.fit

truncated_fits : (bytes : List ℕ) (at : ℕ) (cs : List PlacedChapter) → IsTruncated bytes at cs → All (λ c. All IsFitting c.body.entries) cs
truncated_fits bytes at cs (inl short) = subst (λ l. All (λ c. All IsFitting c.body.entries) l) (sym short.2) (All-nil (λ c. All IsFitting c.body.entries))
truncated_fits bytes at cs (inr (v, of, e)) = bodies_fit v cs e.holds.fit

pub each_verdict : (bytes : List ℕ) → AreBytes bytes → ((verdict : Verdict) → IsVerdict bytes verdict → ⊥) → ⊥
each_verdict bytes are n = elim (each_read either_version bytes are) [
  | inl r ↦ chapters_hold r.0 (recording_fits bytes r.0 r.1)
      (λ port number index w f. n (Bad port number index w) (r.0, inl r.1, f))
      (λ good. n (Good (sum_by maps_in r.0)) (r.0, r.1, record { good = good; count = refl }))
  | inr f ↦ faulty f.0 f.1 f.2
]
  where
    faulty : (fault : ReadFault) → fault ≢ read.Memory → IsReadFaultOf either_version bytes fault → ⊥
    faulty (read.BadFormat at) other h = n (BadFormat at) h
    faulty (read.Truncated at whole) other h = chapters_hold whole (truncated_fits bytes at whole h)
        (λ port number index w f. n (Bad port number index w) (whole, inr (at, h), f))
        (λ good. n (Truncated at) (whole, h, good))
    faulty read.Memory other h = other refl
