-- Over a run of maps the words are the whole part of what is owed, under the rule that carries.
use Rattle.pon_history.specs.Carries.{carry_after, owed_of, rate_of_reply}
use Rattle.pon_history.specs.Parts.{roster_of, admits}
use Rattle.pon_admit.specs.declared.event.Event.TheVariants.{MakeMap}
use Rattle.std.proofs.Common.{◌≡◌, ℕ, ◌+◌, ◌*◌, ◌/◌, ◌<◌, ap, sym, ◌∙◌, add_assoc, ◌-◌, ◌%◌, ◌≤◌, true, false, List, [], ◌∷◌, map, refl, subst, arith, inl, inr}
use Rattle.std.proofs.Math.Nat.{div-div-eq-div-mul, mul-add-div_right}
use Rattle.pon_units.specs.declared.limits.TheConstants.{WORD_RATE}
use Rattle.pon_units.specs.Frac.{Frac}
use Rattle.pon_admit.specs.declared.row.Row.{Row}
use Rattle.pon_demand.specs.Input.{Input}
use Rattle.pon_demand.specs.Rates.{guaranteed_rate, payload, whole_rate}
use Rattle.std.specs.Prelude.{◌==◌, if◌then◌else◌}
use Rattle.std.proofs.lemmas.Bool.{cases_Bool}
use Rattle.pon_lists.proofs.Lists.{map-map, map_same}
use Rattle.pon_admit.specs.declared.rule.Rule.TheVariants.{CarryRemainders}
use Rattle.pon_admit.specs.Roster.{has_alloc, left_over, max_carry}
use Rattle.pon_demand.specs.Carries.{number_of}
use Rattle.pon_demand.specs.Sharing.{surplus_rate}
use Rattle.pon_demand.proofs.Carries.{carry_known, carry_within, number_absent}
use Rattle.pon_state.specs.State.{State, carry_at, input_of}
use Rattle.pon_state.specs.History.{replay}
use Rattle.pon_state.specs.Legal.{IsMade, IsReply}
use Rattle.pon_admit.specs.declared.event.Event.{Event}
use Rattle.pon_state.specs.declared.reply.Reply.{Reply}
use Rattle.pon_state.specs.declared.reply.Reply.TheVariants.{Taken, Map}
use Rattle.pon_state.specs.declared.reply.MadeMap.{MadeMap}
use Rattle.pon_state.specs.Entry.{Entry}
use Rattle.pon_history.specs.Chapters.{Chapter, IsLawfulChapter, cut_at}
use Rattle.pon_history.specs.ClosedForm.{closed_form}
use Rattle.pon_history.specs.WordRuns.{GrantsWholeParts, RunsAreWhole, words_of_reply, words_since}
use Rattle.pon_history.proofs.ClosedForms.{owed_push, sum_since_push, of_chapter}
use Rattle.pon_history.proofs.LawfulChapters.{front_lawful}

-- the words of an Alloc-ID are those of its carry and its rate
words_of_sum : (c w : Row → ℕ) (rows : List Row) (i : ℕ) → number_of rows (map (λ r. (c r + w r) / 256) rows) i ≡ (number_of rows (map c rows) i + number_of rows (map w rows) i) / 256
words_of_sum c w [] i = refl
words_of_sum c w (r ∷ rows) i = elim (r.alloc_id == i) as (λ b. (if b then (c r + w r) / 256 else number_of rows (map (λ r. (c r + w r) / 256) rows) i) ≡ ((if b then c r else number_of rows (map c rows) i) + (if b then w r else number_of rows (map w rows) i)) / 256) [
  | true ↦ refl
  | false ↦ words_of_sum c w rows i
]

-- the words of an Alloc-ID in the map of a state
made_words : (s : State) (made : MadeMap) (i : ℕ) → IsMade s made → has_alloc i s.roster ≡ true →
    words_of_reply s.roster (Map made) i ≡ (number_of s.roster s.carries i + rate_of_reply (input_of s) (Map made) i) / 256
made_words s made i m there =
    let input : Input = input_of s in
    let p : Row → ℕ = payload input (surplus_rate input made.cert) (carry_at s) in
    let words : map (λ a. a.grant - 1) made.map ≡ map p s.roster = rw (m.map, map-map, map-map) (map_same _ p (λ r. let z : (1 + p r) - 1 ≡ p r = omega arith in z) s.roster) in
    ap (λ ns. number_of s.roster ns i) words
    ∙ words_of_sum (carry_at s) (whole_rate input (surplus_rate input made.cert)) s.roster i
    ∙ ap (λ n. (n + rate_of_reply input (Map made) i) / 256) (carry_known (number_of s.roster s.carries) i s.roster there)

-- the words of one more reply, from what was owed before
module _ (o : State) (two : o.rule ≡ CarryRemainders) (i : ℕ) (done : List Entry) (same : replay o done ≡ closed_form o done) where
  abbrev s : State
  s = replay o done

  abbrev before : ℕ
  before = owed_of o done i

  abbrev rate : Reply → ℕ
  rate reply = rate_of_reply (input_of s) reply i

  abbrev word : Reply → ℕ
  word reply = words_of_reply s.roster reply i

  of_map : (made : MadeMap) → IsMade s made → before / 256 + word (Map made) ≡ (before + rate (Map made)) / 256
  of_map made m = elim (cases_Bool (has_alloc i s.roster)) [
    | inl e ↦
        let carry : number_of s.roster s.carries i ≡ before % 256 = ap (λ s. number_of s.roster s.carries i) same
        ∙ carry_known (carry_after o done) i (roster_of o.roster done) (rw same at e) ∙ ap (λ rule. left_over rule before) two in
        let words : word (Map made) ≡ (before % 256 + rate (Map made)) / 256 = made_words s made i m e ∙ ap (λ n. (n + rate (Map made)) / 256) carry in
        omega (arith, words)
    | inr e ↦
        let words : word (Map made) ≡ 0 = number_absent i s.roster _ e in
        let none : rate (Map made) ≡ 0 = number_absent i s.roster _ e in
        omega (arith, words, none)
  ]

  -- an entry that admits an Alloc-ID makes no map
  given : (v : Event) (reply : Reply) → IsReply s v reply → words_since o i done ≡ before / 256 → (if admits i v then 0 else words_since o i done) + word reply ≡ ((if admits i v then 0 else before) + rate reply) / 256
  given MakeMap (Map made) h so_far = omega (arith, so_far, of_map made h)
  given MakeMap Taken h so_far = absurd h
  given v Taken h so_far = elim (admits i v) as (λ b. (if b then 0 else words_since o i done) + 0 ≡ ((if b then 0 else before) + 0) / 256) [ true ↦ omega arith | false ↦ omega (arith, so_far) ]
  given v (Map made) h so_far = absurd (let t : Map made ≡ Taken = h in cc)

-- the words of a lawful chapter under the rule that carries, over the whole of it
whole_parts : (c : Chapter) → IsLawfulChapter c → c.opening.rule ≡ CarryRemainders → GrantsWholeParts c.opening c.entries
whole_parts c l two i =
    let start : number_of c.opening.roster c.opening.carries i ≤ 255
    = subst (λ rule. number_of c.opening.roster c.opening.carries i ≤ max_carry rule) two (carry_within (max_carry c.opening.rule) c.opening.roster c.opening.carries i l.opening.state.carries.range) in
    (of_chapter c l (λ es. words_since c.opening i es ≡ owed_of c.opening es i / 256) (omega (arith, start))
    (λ es e h m so_far. rw (sum_since_push (λ before e. words_of_reply (replay c.opening before).roster e.reply i) i es e, owed_push c.opening es e i)
    (given c.opening two i es h.closed e.event e.reply m.reply so_far))).1

-- and over each run
pub whole_runs : (c : Chapter) → IsLawfulChapter c → RunsAreWhole c
whole_runs c l two k = whole_parts (cut_at c k) (front_lawful c l k) two

-- The whole words of the whole kbit/s of a rate are the whole words of the rate itself.

pub whole_kbits : (s : Input) (surplus : Row → Frac) (r : Row) → 0 < (surplus r).den →
    whole_rate s surplus r ≡ (guaranteed_rate s r * (surplus r).den + (surplus r).num) / (surplus r).den
whole_kbits s surplus r h = sym (mul-add-div_right h (guaranteed_rate s r) (surplus r).num)

pub whole_words : (s : Input) (surplus : Row → Frac) (carry : Row → ℕ) (r : Row) → 0 < (surplus r).den →
    payload s surplus carry r ≡ ((carry r + guaranteed_rate s r) * (surplus r).den + (surplus r).num) / ((surplus r).den * WORD_RATE)
whole_words s surplus carry r h =
    ap (λ n. n / WORD_RATE) (sym (add_assoc (carry r) (guaranteed_rate s r) ((surplus r).num / (surplus r).den))
    ∙ sym (mul-add-div_right h (carry r + guaranteed_rate s r) (surplus r).num))
    ∙ div-div-eq-div-mul ((carry r + guaranteed_rate s r) * (surplus r).den + (surplus r).num) (surplus r).den WORD_RATE
