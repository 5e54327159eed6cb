-- The words of an Alloc-ID over a run of maps in which it stays admitted.
use Rattle.std.proofs.Common.{◌≡◌, ℕ, suc, ◌+◌, ◌-◌, ◌*◌, ◌/◌, ◌<◌, ◌≤◌, true, false, List, [], ◌∷◌, ◌++◌, drop, length, map, take, refl, ap, sym, ◌∙◌, subst, arith, inl, inr}
use Rattle.std.specs.Prelude.{◌==◌, ◌||◌, if◌then◌else◌, None, Some}
use Rattle.std.specs.List.{list_any}
use Rattle.std.proofs.Math.Nat.{mul-le-mul_right}
use Rattle.std.proofs.lemmas.Bool.{cases_Bool, eqb-true, or_from, or_left, or_parts}
use Rattle.std.proofs.lemmas.List.{take_all}
use Rattle.std.proofs.lemmas.Option.{same_Some, slice_get_within}
use Rattle.pon_units.specs.Frac.{Frac}
use Rattle.pon_descr.specs.Descriptor.{Descriptor, promised}
use Rattle.pon_descr.specs.declared.refusal.Refusal.TheVariants.{AllocTaken}
use Rattle.pon_descr.proofs.Checks.{or_else_none, when_none}
use Rattle.pon_descr.specs.declared.class.Class.{Class}
use Rattle.pon_descr.specs.declared.class.Class.TheVariants.{Plain, NonAssured, BestEffort}
use Rattle.pon_state.specs.declared.reply.MadeMap.{MadeMap}
use Rattle.pon_admit.specs.declared.event.Event.{Event}
use Rattle.pon_admit.specs.declared.event.Event.TheVariants.{Admit, MakeMap}
use Rattle.pon_admit.specs.declared.row.Row.{Row}
use Rattle.pon_admit.specs.declared.rule.Rule.TheVariants.{CarryRemainders}
use Rattle.pon_admit.specs.Roster.{has_alloc, max_carry}
use Rattle.pon_guar.specs.Book.{load_of}
use Rattle.pon_guar.specs.Rates.{guaranteed}
use Rattle.pon_cert.proofs.Counts.{count-cons}
use Rattle.pon_demand.specs.Carries.{number_of}
use Rattle.pon_demand.specs.Input.{Input}
use Rattle.pon_demand.specs.Rates.{guaranteed_rate, whole_rate}
use Rattle.pon_demand.specs.Sharing.{surplus_rate, rate_in, spelled_rate}
use Rattle.pon_demand.proofs.Carries.{carry_within}
use Rattle.pon_state.specs.After.{after_entry}
use Rattle.pon_state.specs.Checks.{refuses}
use Rattle.pon_state.specs.Entry.{Entry}
use Rattle.pon_state.specs.History.{replay}
use Rattle.pon_state.specs.Legal.{IsReply, MayFollow}
use Rattle.pon_state.specs.Maps.{makes_map}
use Rattle.pon_state.specs.State.{State, input_of}
use Rattle.pon_state.specs.declared.reply.Reply.{Reply}
use Rattle.pon_state.specs.declared.reply.Reply.TheVariants.{Taken, Map}
use Rattle.pon_state.proofs.Replays.{checks_passed, follows_fewer, replay_push}
use Rattle.pon_history.specs.Carries.{admits_now, rate_of_reply, sum_since}
use Rattle.pon_history.specs.Chapters.{Chapter, IsLawfulChapter, IsLegal, state_before}
use Rattle.pon_history.specs.Parts.{admits}
use Rattle.pon_history.specs.WordRuns.{GrantsWholeParts, words_of_reply}
use Rattle.pon_history.proofs.LawfulChapters.{front_lawful, rest_lawful}
use Rattle.pon_history.proofs.Legality.{replay_later}
use Rattle.pon_history.proofs.WordRuns.{whole_runs}
use Rattle.pon_laws.specs.Runs.{BeforeEach, BeforeMaps, descriptor_of, guaranteed_of, maps_of_entries, maps_over, rates_after, rates_over, run_of, words_after, words_over}

abbrev IsIn : ℕ → State → Type 0
IsIn i s = has_alloc i s.roster ≡ true

-- ---- no entry of the run admits the Alloc-ID

-- an entry that may follow admits no Alloc-ID that is admitted
not_admitted : (kept : ℕ) (s : State) (e : Entry) (i : ℕ) → MayFollow kept s e → IsIn i s → admits_now i e ≡ false
not_admitted kept s e i m there = by_event e.event (checks_passed kept s e.event m.accepted).0
  where
    taken : (r : Row) → refuses s (Admit r) ≡ None → (r.alloc_id == i) ≡ true → ⊥
    taken r h e =
        let free : has_alloc r.alloc_id s.roster ≡ false = when_none (has_alloc r.alloc_id s.roster) AllocTaken (or_else_none _ _ h).0 in
        let t : true ≡ false = sym there ∙ ap (λ n. has_alloc n s.roster) (sym (eqb-true r.alloc_id i e)) ∙ free in cc

    by_event : (v : Event) → refuses s v ≡ None → admits i v ≡ false
    by_event (Admit r) h = elim (cases_Bool (r.alloc_id == i)) [ inl e ↦ absurd (taken r h e) | inr e ↦ e ]
    by_event v h = refl

abbrev pub part : ℕ → State → List Entry → Chapter
part n s es = record { number = n; opening = s; entries = es }

-- the rest of a legal list, after its first entry
pub legal_tail : (n : ℕ) (s : State) (e : Entry) (es : List Entry) → IsLegal (part n s (e ∷ es)) → IsLegal (part n (after_entry s e) es)
legal_tail n s e es legal k x at = follows_fewer k _ x (legal (suc k) x at)

none_admits : (n : ℕ) (s : State) (es : List Entry) (i : ℕ) → IsLegal (part n s es) → BeforeEach (IsIn i) (part n s es) → list_any (admits_now i) es ≡ false
none_admits n s [] i legal there = refl
none_admits n s (e ∷ es) i legal there =
    or_from (admits_now i e) (list_any (admits_now i) es)
    (not_admitted 0 s e i (legal 0 e refl) (there 0 (let lt : 0 < suc (length es) = omega arith in lt)))
    (none_admits n (after_entry s e) es i (legal_tail n s e es legal) (λ k lt. there (suc k) (let more : suc k < suc (length es) = omega (arith, lt) in more)))

-- ---- without an admission the sums since the last one are the sums of all entries

words_plain : (o : State) (i : ℕ) (done es : List Entry) → list_any (admits_now i) es ≡ false →
    sum_since (λ before e. words_of_reply (replay o before).roster e.reply i) i done es ≡ words_after (replay o done) i es
words_plain o i done [] h = refl
words_plain o i done (e ∷ es) h =
    let two : (admits_now i e ≡ false) × (list_any (admits_now i) es ≡ false) = or_parts (admits_now i e) (list_any (admits_now i) es) h in
    let rest = words_plain o i (done ++ e ∷ []) es two.1 ∙ ap (λ s. words_after s i es) (replay_push o done e) in
    (λ j. (if two.1 j then 0 else words_of_reply (replay o done).roster e.reply i) + rest j)

rates_plain : (o : State) (i : ℕ) (done es : List Entry) → list_any (admits_now i) es ≡ false →
    sum_since (λ before e. rate_of_reply (input_of (replay o before)) e.reply i) i done es ≡ rates_after (replay o done) i es
rates_plain o i done [] h = refl
rates_plain o i done (e ∷ es) h =
    let two : (admits_now i e ≡ false) × (list_any (admits_now i) es ≡ false) = or_parts (admits_now i e) (list_any (admits_now i) es) h in
    let rest = rates_plain o i (done ++ e ∷ []) es two.1 ∙ ap (λ s. rates_after s i es) (replay_push o done e) in
    (λ j. (if two.1 j then 0 else rate_of_reply (input_of (replay o done)) e.reply i) + rest j)

-- the words of a lawful chapter through which the Alloc-ID is admitted
chapter_words : (run : Chapter) → IsLawfulChapter run → run.opening.rule ≡ CarryRemainders → (i : ℕ) → BeforeEach (IsIn i) run →
    words_over run i ≡ (number_of run.opening.roster run.opening.carries i + rates_over run i) / 256
chapter_words run l two i there =
    let none : list_any (admits_now i) run.entries ≡ false = none_admits run.number run.opening run.entries i l.legal there in
    let whole : GrantsWholeParts run.opening run.entries = subst (GrantsWholeParts run.opening) (take_all (length run.entries) run.entries (omega arith)) (whole_runs run l two (length run.entries)) in
    sym (words_plain run.opening i [] run.entries none) ∙ whole i
    ∙ (λ j. ((if none j then 0 else number_of run.opening.roster run.opening.carries i) + rates_plain run.opening i [] run.entries none j) / 256)

-- ---- rates are at least the guaranteed ones

not_lower : (s : Input) (surplus : Row → Frac) (rows : List Row) (i : ℕ) → number_of rows (map (guaranteed_rate s) rows) i ≤ number_of rows (map (whole_rate s surplus) rows) i
not_lower s surplus [] i = omega arith
not_lower s surplus (r ∷ rows) i = elim (r.alloc_id == i)
    as (λ b. (if b then guaranteed_rate s r else number_of rows (map (guaranteed_rate s) rows) i) ≤ (if b then whole_rate s surplus r else number_of rows (map (whole_rate s surplus) rows) i)) [
      | true ↦ omega arith
      | false ↦ not_lower s surplus rows i
    ]

map_rate : (s : State) (i rate : ℕ) (v : Event) (reply : Reply) → IsReply s v reply → makes_map v ≡ true → rate ≤ guaranteed_of s i → rate ≤ rate_of_reply (input_of s) reply i
map_rate s i rate MakeMap (Map made) is makes enough = omega (arith, enough, not_lower (input_of s) (surplus_rate (input_of s) made.cert) s.roster i)
map_rate s i rate MakeMap Taken is makes enough = absurd is
map_rate s i rate v reply is makes enough = absurd (let t : false ≡ true = makes in cc)

rates_enough : (n : ℕ) (s : State) (es : List Entry) (i rate : ℕ) → IsLegal (part n s es) → BeforeMaps (λ s. rate ≤ guaranteed_of s i) (part n s es) → maps_of_entries es * rate ≤ rates_after s i es
rates_enough n s [] i rate legal enough = omega arith
rates_enough n s (e ∷ es) i rate legal enough =
    let count = count-cons (λ (x : Entry). makes_map x.event) e es in
    let rest = rates_enough n (after_entry s e) es i rate (legal_tail n s e es legal) (λ k x at makes. enough (suc k) x at makes) in
    elim (cases_Bool (makes_map e.event)) [
      | inl makes ↦
          let here : rate ≤ rate_of_reply (input_of s) e.reply i = map_rate s i rate e.event e.reply (legal 0 e refl).reply makes (enough 0 e refl makes) in
          rw (count, makes) (omega (arith, here, rest))
      | inr other ↦ rw (count, other) (omega (arith, rest))
    ]

-- the maps in which a rate makes a word
pub rounded_up : (rate maps : ℕ) → 0 < rate → (256 + rate - 1) / rate ≤ maps → 256 ≤ maps * rate
rounded_up rate maps positive enough = omega (arith, mul-le-mul_right rate enough)

-- ---- what a descriptor guarantees

known : (rows : List Row) (load : ℕ → ℕ) (i : ℕ) (d : Descriptor) → descriptor_of rows i ≡ Some d → number_of rows (map (λ r. guaranteed r.descriptor (load r.alloc_id)) rows) i ≡ guaranteed d (load i)
known [] load i d h = absurd cc
known (r ∷ rows) load i d h = elim (cases_Bool (r.alloc_id == i)) [
  | inl e ↦
      let is : r.descriptor ≡ d = same_Some r.descriptor d (rw e at h) in
      ap (λ b. if b then guaranteed r.descriptor (load r.alloc_id) else number_of rows (map (λ r. guaranteed r.descriptor (load r.alloc_id)) rows) i) e
      ∙ (λ j. guaranteed (is j) (load (eqb-true r.alloc_id i e j)))
  | inr e ↦
      ap (λ b. if b then guaranteed r.descriptor (load r.alloc_id) else number_of rows (map (λ r. guaranteed r.descriptor (load r.alloc_id)) rows) i) e
      ∙ known rows load i d (rw e at h)
]

described : (rows : List Row) (i : ℕ) (d : Descriptor) → descriptor_of rows i ≡ Some d → has_alloc i rows ≡ true
described [] i d h = absurd cc
described (r ∷ rows) i d h = elim (cases_Bool (r.alloc_id == i)) [
  | inl e ↦ or_left (r.alloc_id == i) (has_alloc i rows) e
  | inr e ↦ ap (λ b. b || has_alloc i rows) e ∙ described rows i d (rw e at h)
]

-- ---- without a class the rate is the guaranteed one

known_at : (rows : List Row) (f : Row → ℕ) (i x : ℕ) (d : Descriptor) → descriptor_of rows i ≡ Some d → ((r : Row) → r.alloc_id ≡ i → r.descriptor ≡ d → f r ≡ x) → number_of rows (map f rows) i ≡ x
known_at [] f i x d h same = absurd cc
known_at (r ∷ rows) f i x d h same = elim (cases_Bool (r.alloc_id == i)) [
  | inl e ↦ ap (λ b. if b then f r else number_of rows (map f rows) i) e ∙ same r (eqb-true r.alloc_id i e) (same_Some r.descriptor d (rw e at h))
  | inr e ↦ ap (λ b. if b then f r else number_of rows (map f rows) i) e ∙ known_at rows f i x d (rw e at h) same
]

plain_rate : (s : State) (made : MadeMap) (i : ℕ) (d : Descriptor) → descriptor_of s.roster i ≡ Some d → d.class ≡ Plain → rate_of_reply (input_of s) (Map made) i ≡ guaranteed d (load_of s.book i)
plain_rate s made i d has plain = known_at s.roster (whole_rate (input_of s) (surplus_rate (input_of s) made.cert)) i (guaranteed d (load_of s.book i)) d has one
  where
    whole : Class → Row → ℕ
    whole class r =
        (rate_in class (spelled_rate (input_of s) NonAssured made.cert.na r) (spelled_rate (input_of s) BestEffort made.cert.be r)).num
        / (rate_in class (spelled_rate (input_of s) NonAssured made.cert.na r) (spelled_rate (input_of s) BestEffort made.cert.be r)).den

    one : (r : Row) → r.alloc_id ≡ i → r.descriptor ≡ d → whole_rate (input_of s) (surplus_rate (input_of s) made.cert) r ≡ guaranteed d (load_of s.book i)
    one r at is =
        let none : whole r.descriptor.class r ≡ 0 = ap (λ (class : Class). whole class r) (ap (λ (d : Descriptor). d.class) is ∙ plain) in
        let base : guaranteed r.descriptor (load_of s.book r.alloc_id) ≡ guaranteed d (load_of s.book i) = (λ j. guaranteed (is j) (load_of s.book (at j))) in
        omega (arith, none, base)

no_rate : (s : State) (i : ℕ) (v : Event) (reply : Reply) → IsReply s v reply → makes_map v ≡ false → rate_of_reply (input_of s) reply i ≡ 0
no_rate s i MakeMap reply is other = absurd (let t : true ≡ false = other in cc)
no_rate s i v reply is other = ap (λ (r : Reply). rate_of_reply (input_of s) r i) is

exact_rate : (s : State) (i rate : ℕ) (v : Event) (reply : Reply) → IsReply s v reply → makes_map v ≡ true → ((made : MadeMap) → rate_of_reply (input_of s) (Map made) i ≡ rate) → rate_of_reply (input_of s) reply i ≡ rate
exact_rate s i rate MakeMap (Map made) is makes same = same made
exact_rate s i rate MakeMap Taken is makes same = absurd is
exact_rate s i rate v reply is makes same = absurd (let t : false ≡ true = makes in cc)

rates_exact : (n : ℕ) (s : State) (es : List Entry) (i rate : ℕ) → IsLegal (part n s es) → BeforeMaps (λ s. (made : MadeMap) → rate_of_reply (input_of s) (Map made) i ≡ rate) (part n s es) → rates_after s i es ≡ maps_of_entries es * rate
rates_exact n s [] i rate legal same = omega arith
rates_exact n s (e ∷ es) i rate legal same =
    let count = count-cons (λ (x : Entry). makes_map x.event) e es in
    let rest = rates_exact n (after_entry s e) es i rate (legal_tail n s e es legal) (λ k x at makes. same (suc k) x at makes) in
    elim (cases_Bool (makes_map e.event)) [
      | inl makes ↦
          let here : rate_of_reply (input_of s) e.reply i ≡ rate = exact_rate s i rate e.event e.reply (legal 0 e refl).reply makes (same 0 e refl makes) in
          rw (count, makes) (omega (arith, here, rest))
      | inr other ↦
          let here : rate_of_reply (input_of s) e.reply i ≡ 0 = no_rate s i e.event e.reply (legal 0 e refl).reply other in
          rw (count, other) (omega (arith, here, rest))
    ]

-- ---- the laws, over a run of a lawful chapter

module _ (c : Chapter) (l : IsLawfulChapter c) (two : c.opening.rule ≡ CarryRemainders) (from count i : ℕ) where
  abbrev run : Chapter
  run = run_of c from count

  pub lawful : IsLawfulChapter run
  lawful = front_lawful (record { number = c.number + 1; opening = state_before c from; entries = drop from c.entries }) (rest_lawful c l from (c.number + 1) (omega arith)) count

  same_rule : run.opening.rule ≡ CarryRemainders
  same_rule = (replay_later c.opening (take from c.entries)).rule ∙ two

  pub words_of_run : BeforeEach (λ s. has_alloc i s.roster ≡ true) run → words_over run i ≡ (number_of run.opening.roster run.opening.carries i + rates_over run i) / 256
  words_of_run there = chapter_words run lawful same_rule i there

  pub small_carry : number_of run.opening.roster run.opening.carries i ≤ 255
  small_carry = subst (λ rule. number_of run.opening.roster run.opening.carries i ≤ max_carry rule) same_rule
      (carry_within (max_carry run.opening.rule) run.opening.roster run.opening.carries i lawful.opening.state.carries.range)

  pub rates_of_run : (rate : ℕ) → BeforeMaps (λ s. rate ≤ guaranteed_of s i) run → maps_over run * rate ≤ rates_over run i
  rates_of_run rate enough = rates_enough run.number run.opening run.entries i rate lawful.legal enough

  pub enough_words : (rate : ℕ) → BeforeEach (λ s. has_alloc i s.roster ≡ true) run → BeforeMaps (λ s. rate ≤ guaranteed_of s i) run → (maps_over run * rate) / 256 ≤ words_over run i
  enough_words rate there enough = omega (arith, words_of_run there, rates_of_run rate enough)

  -- the state before a map is one before an entry
  pub at_maps : (P Q R : State → Type 0) → ((s : State) → P s → Q s → R s) → BeforeEach P run → BeforeMaps Q run → BeforeMaps R run
  at_maps P Q R both p q k e at makes = both (state_before run k) (p k (slice_get_within run.entries k e at)) (q k e at makes)

  pub sold_words : (d : Descriptor) → BeforeEach (λ s. descriptor_of s.roster i ≡ Some d) run → BeforeMaps (λ s. promised d ≤ load_of s.book i) run → (maps_over run * promised d) / 256 ≤ words_over run i
  sold_words d has loaded =
      enough_words (promised d) (λ k lt. described (state_before run k).roster i d (has k lt))
      (at_maps (λ s. descriptor_of s.roster i ≡ Some d) (λ s. promised d ≤ load_of s.book i) (λ s. promised d ≤ guaranteed_of s i)
      (λ s p q. let e : guaranteed_of s i ≡ guaranteed d (load_of s.book i) = known s.roster (load_of s.book) i d p in omega (arith, e, q)) has loaded)

  pub fixed_words : (d : Descriptor) → BeforeEach (λ s. descriptor_of s.roster i ≡ Some d) run → (maps_over run * d.fixed) / 256 ≤ words_over run i
  fixed_words d has =
      enough_words d.fixed (λ k lt. described (state_before run k).roster i d (has k lt))
      (at_maps (λ s. descriptor_of s.roster i ≡ Some d) (λ s. Unit {0}) (λ s. d.fixed ≤ guaranteed_of s i)
      (λ s p q. let e : guaranteed_of s i ≡ guaranteed d (load_of s.book i) = known s.roster (load_of s.book) i d p in omega (arith, e)) has (λ k e at makes. tt))

  pub exact_words : (d : Descriptor) → d.class ≡ Plain → BeforeEach (λ s. descriptor_of s.roster i ≡ Some d) run → BeforeMaps (λ s. promised d ≤ load_of s.book i) run →
      words_over run i ≡ (number_of run.opening.roster run.opening.carries i + maps_over run * promised d) / 256
  exact_words d plain has loaded =
      let rates : rates_over run i ≡ maps_over run * promised d
      = rates_exact run.number run.opening run.entries i (promised d) lawful.legal
      (at_maps (λ s. descriptor_of s.roster i ≡ Some d) (λ s. promised d ≤ load_of s.book i) (λ s. (made : MadeMap) → rate_of_reply (input_of s) (Map made) i ≡ promised d)
      (λ s p q made. let e = plain_rate s made i d p plain in omega (arith, e, q)) has loaded) in
      words_of_run (λ k lt. described (state_before run k).roster i d (has k lt)) ∙ ap (λ (n : ℕ). (number_of run.opening.roster run.opening.carries i + n) / 256) rates
