-- The chapters of ports fit the format of recordings.
use Rattle.std.proofs.Common.{◌≡◌, ℕ, suc, ◌-◌, ◌^◌, ◌<◌, ◌≤◌, Bool, true, false, leb, ltb, ◌||◌, List, [], ◌∷◌, length, get_or, Some, None, refl, arith, inl, inr}
use Rattle.std.specs.Prelude.{All, slice_get}
use Rattle.std.specs.List.{AllByRecursion}
use Rattle.std.proofs.lemmas.Bool.{cases_lt, le-leb, leb-false}
use Rattle.std.proofs.lemmas.Option.{slice_get-get_or}
use Rattle.std.proofs.lemmas.List.Elements.{All-from_recursion}
use Rattle.pon_units.specs.declared.limits.TheConstants.{MAX_PORTS}
use Rattle.pon_state.specs.declared.checks.TheConstants.{MAX_ENTRIES}
use Rattle.pon_descr.specs.declared.refusal.Refusal.TheVariants.{ChapterFull, FrameLimit}
use Rattle.pon_descr.proofs.Checks.{or_else_none, when_none}
use Rattle.pon_admit.specs.Roster.{IsAdmitted}
use Rattle.pon_demand.specs.Carries.{AreCarries}
use Rattle.pon_admit.specs.declared.event.Event.{Event}
use Rattle.pon_admit.specs.declared.event.Event.TheVariants.{Admit, Change, Remove, Report, MakeMap, Fail, Restore}
use Rattle.pon_state.specs.State.{State}
use Rattle.pon_state.specs.Checks.{at_limit, first_refusal, refuses, when_down, when_full}
use Rattle.pon_state.specs.Legal.{IsReply, MayFollow}
use Rattle.pon_state.specs.Entry.{Entry}
use Rattle.pon_state.specs.declared.reply.Reply.{Reply}
use Rattle.pon_state.specs.declared.reply.Reply.TheVariants.{Taken, Map}
use Rattle.pon_history.specs.Chapters.{Chapter, IsLawfulChapter, state_before}
use Rattle.pon_state.specs.LawfulStates.{IsLawfulState}
use Rattle.pon_state.specs.Ranges.{IsStateInRange}
use Rattle.pon_history.specs.FairMaps.{TellsFairMap}
use Rattle.pon_history.proofs.FairMaps.{maps_are_fair}
use Rattle.pon_history.proofs.LawfulChapters.{lawful_before}
use Rattle.pon_record.specs.declared.version.Version.TheVariants as version
use Rattle.pon_record.specs.Chapters.{FitsChapter, body_in, entry, reply_to}
use Rattle.pon_record.proofs.Sizes.{body_fits_length}
use Rattle.pon_record.specs.Bodies.{HoldsFittingCert, chapter_body}
use Rattle.pon_record.proofs.FitEvents.{event_fits, passes}
use Rattle.pon_record.proofs.FitOpenings.{opening_fits, rule_fits}
use Rattle.pon_record.proofs.FitMaps.{from_places, made_fits}

-- ---- entries

first_false : (a b : Bool) → (a || b) ≡ false → a ≡ false
first_false true b e = absurd cc
first_false false b e = refl

kept_below : (k : ℕ) (s : State) (v : Event) → first_refusal k s v ≡ None → k < MAX_ENTRIES
kept_below k s v h =
    let full = or_else_none (refuses s v) (when_full k s.taken_before) h in
    leb-false MAX_ENTRIES k (first_false (leb MAX_ENTRIES k) _ (when_none _ ChapterFull full.1))

few_if : (es : List Entry) → ((k : ℕ) (e : Entry) → slice_get es k ≡ Some e → k < MAX_ENTRIES) → length es ≤ MAX_ENTRIES
few_if [] h = omega arith
few_if (x ∷ xs) h = elim (cases_lt MAX_ENTRIES (length (x ∷ xs))) [
  | inl lt ↦ let below : MAX_ENTRIES < MAX_ENTRIES = h MAX_ENTRIES (get_or (x ∷ xs) MAX_ENTRIES x) (slice_get-get_or (x ∷ xs) MAX_ENTRIES x lt) in absurd (omega (arith, below))
  | inr ge ↦ omega (arith, ge)
]

pub few_entries : (c : Chapter) → IsLawfulChapter c → length c.entries ≤ MAX_ENTRIES
few_entries c l = few_if c.entries (λ k e at. kept_below k (state_before c k) e.event (l.legal k e at).accepted)

next_below : (k : ℕ) (s : State) → first_refusal k s MakeMap ≡ None → s.next < 2 ^ 64
next_below k s h =
    let own = or_else_none (refuses s MakeMap) (when_full k s.taken_before) h in
    let limit = or_else_none (when_down s.cause) (at_limit s.next) own.0 in
    let below : s.next < 2 ^ 64 - 1 = leb-false (2 ^ 64 - 1) s.next (when_none _ FrameLimit limit.1) in
    omega (arith, below)

reply_fits : (k : ℕ) (s : State) (v : Event) (a : Reply) → IsAdmitted s.rule s.gap s.roster → AreCarries s.rule s.roster s.carries → s.profile ≤ 3 → first_refusal k s v ≡ None → IsReply s v a → TellsFairMap s a → (reply_to v).Fits a
reply_fits k s MakeMap (Map made) adm q p h r f = made_fits s made adm q p (next_below k s h) f
reply_fits k s MakeMap Taken adm q p h r f = absurd r
reply_fits k s (Admit row) a adm q p h r f = r
reply_fits k s (Change i d) a adm q p h r f = r
reply_fits k s (Remove i) a adm q p h r f = r
reply_fits k s (Report n u occ) a adm q p h r f = r
reply_fits k s (Fail c) a adm q p h r f = r
reply_fits k s Restore a adm q p h r f = r

entry_fits : (c : Chapter) → IsLawfulChapter c → (k : ℕ) (e : Entry) → slice_get c.entries k ≡ Some e → entry.Fits e
entry_fits c l k e at =
    let s : State = state_before c k in
    let before : IsLawfulState s = lawful_before c l k in
    let m : MayFollow k s e = l.legal k e at in (
      (event_fits k s e.event m.event m.accepted, reply_fits k s e.event e.reply before.admitted before.carries before.numbers.profile m.accepted m.reply (maps_are_fair c l k e at)),
      refl,
    )

pub entries_fit : (c : Chapter) → IsLawfulChapter c → AllByRecursion entry.Fits c.entries
entries_fit c l = from_places entry.Fits c.entries (entry_fits c l)

cert_of : (v : Event) (a : Reply) → (reply_to v).Fits a → HoldsFittingCert a
cert_of v Taken fits = tt
cert_of MakeMap (Map made) fits = fits.0.1.1
cert_of (Admit row) (Map made) fits = absurd cc
cert_of (Change i d) (Map made) fits = absurd cc
cert_of (Remove i) (Map made) fits = absurd cc
cert_of (Report f u occ) (Map made) fits = absurd cc
cert_of (Fail c) (Map made) fits = absurd cc
cert_of Restore (Map made) fits = absurd cc

each_cert : (es : List Entry) → AllByRecursion entry.Fits es → AllByRecursion (λ (e : Entry). HoldsFittingCert e.reply) es
each_cert [] h = tt
each_cert (e ∷ es) h = (cert_of e.event e.reply h.0.0.1, each_cert es h.1)

pub certs_fit : (c : Chapter) → IsLawfulChapter c → All (λ (e : Entry). HoldsFittingCert e.reply) c.entries
certs_fit c l = All-from_recursion (λ (e : Entry). HoldsFittingCert e.reply) c.entries (each_cert c.entries (entries_fit c l))

-- ---- chapters

body_fits : (p : ℕ) (c : Chapter) → p < MAX_PORTS → IsLawfulChapter c → c.number < 2 ^ 64 → IsStateInRange c.opening → (body_in version.Two).Fits (chapter_body p c)
body_fits p c lt l n f =
    let few : length c.entries ≤ MAX_ENTRIES = few_entries c l in (
      (
        rule_fits c.opening.rule,
        (
          (omega (arith, lt), passes (λ (n : ℕ). ltb n 64) p (le-leb (suc p) 64 (omega (arith, lt)))),
          (n, (opening_fits c.number c.opening l.opening f, (omega (arith, few), few, entries_fit c l))),
        ),
      ),
      refl,
    )

pub chapter_fits : (p : ℕ) (c : Chapter) → p < MAX_PORTS → IsLawfulChapter c → c.number < 2 ^ 64 → IsStateInRange c.opening → FitsChapter version.Two (chapter_body p c)
chapter_fits p c lt l n f =
    let body = body_fits p c lt l n f in
    ((omega arith, refl), (body, body_fits_length version.Two (chapter_body p c) body))
