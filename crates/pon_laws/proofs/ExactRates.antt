-- The exact rates of an Alloc-ID over a run, beside the whole ones.
use Rattle.std.proofs.Common.{◌≡◌, ℕ, ◌+◌, ◌*◌, ◌/◌, ◌<◌, ◌≤◌, true, false, List, [], ◌∷◌, map, refl, arith, lit<, inl, inr}
use Rattle.std.specs.Prelude.{◌==◌, if◌then◌else◌}
use Rattle.std.proofs.Math.Nat.{mul-le-mul_left, mul-le-mul_right}
use Rattle.std.proofs.lemmas.Bool.{cases_Bool}
use Rattle.pon_units.specs.Frac.{Frac}
use Rattle.pon_descr.specs.declared.class.Class.{Class}
use Rattle.pon_descr.specs.declared.class.Class.TheVariants.{Plain, NonAssured, BestEffort}
use Rattle.pon_admit.specs.declared.event.Event.{Event}
use Rattle.pon_admit.specs.declared.event.Event.TheVariants.{MakeMap}
use Rattle.pon_admit.specs.declared.row.Row.{Row}
use Rattle.pon_admit.specs.declared.rule.Rule.TheVariants.{CarryRemainders}
use Rattle.pon_admit.specs.Roster.{has_alloc}
use Rattle.pon_cert.specs.declared.cert.MapCert.{MapCert}
use Rattle.pon_cert.proofs.Counts.{count-cons}
use Rattle.pon_cert.proofs.Fairness.{is_feasible}
use Rattle.pon_demand.specs.Carries.{number_of}
use Rattle.pon_demand.specs.ClassShares.{best_effort_surplus}
use Rattle.pon_demand.specs.Input.{Input}
use Rattle.pon_demand.specs.Rates.{guaranteed_rate, whole_rate}
use Rattle.pon_demand.specs.Sharing.{IsCertified, items, rate_in, spelled_rate, surplus, surplus_rate}
use Rattle.pon_state.specs.After.{after_entry}
use Rattle.pon_state.specs.Entry.{Entry}
use Rattle.pon_state.specs.Legal.{IsReply}
use Rattle.pon_state.specs.Maps.{makes_map}
use Rattle.pon_state.specs.State.{State, input_of}
use Rattle.pon_state.specs.declared.reply.Reply.{Reply}
use Rattle.pon_state.specs.declared.reply.Reply.TheVariants.{Taken, Map}
use Rattle.pon_history.specs.Carries.{rate_of_reply}
use Rattle.pon_history.specs.Chapters.{Chapter, IsLawfulChapter, IsLegal}
use Rattle.pon_laws.specs.Exact.{IsAtLeast, IsBelow, exact_after, exact_of_reply, exact_over, no_rate, plus, rate_among}
use Rattle.pon_laws.specs.Runs.{BeforeEach, maps_of_entries, maps_over, rates_after, rates_over, run_of, words_over}
use Rattle.pon_laws.specs.Shares.{rate_of}
use Rattle.pon_laws.proofs.RunWords.{lawful, legal_tail, part, small_carry, words_of_run}

-- whole rates are at most the exact ones, and less than 1 kbit/s a map below them
record Beside (exact : Frac) (rates maps : ℕ) : Type 0 where
  positive : 0 < exact.den
  low : rates * exact.den ≤ exact.num
  high : exact.num + maps ≤ (rates + maps) * exact.den

nothing : (maps : ℕ) → Beside no_rate 0 maps
nothing maps = record { positive = lit< tt; low = omega arith; high = omega arith }

both : (a b : Frac) (p q m n : ℕ) → Beside a p m → Beside b q n → Beside (plus a b) (p + q) (m + n)
both a b p q m n x y =
    let one : 1 ≤ a.den = omega (arith, x.positive) in
    let two : 1 ≤ b.den = omega (arith, y.positive) in
    record {
      positive = omega (arith, x.positive, mul-le-mul_left a.den two);
      low = omega (arith, mul-le-mul_right b.den x.low, mul-le-mul_right a.den y.low);
      high = omega (arith, mul-le-mul_right b.den x.high, mul-le-mul_right a.den y.high, mul-le-mul_left m two, mul-le-mul_left n one);
    }

-- ---- one map

module _ (s : Input) (cert : MapCert) (c : IsCertified s cert) where
  positive_in : (r : Row) → 0 < (surplus_rate s cert r).den
  positive_in r = by_class r.descriptor.class
    where
      by_class : (class : Class) → 0 < (rate_in class (spelled_rate s NonAssured cert.na r) (spelled_rate s BestEffort cert.be r)).den
      by_class Plain = lit< tt
      by_class NonAssured = (is_feasible (items NonAssured s) (surplus s) cert.na c.non_assured).has_over
      by_class BestEffort = (is_feasible (items BestEffort s) (best_effort_surplus s cert) cert.be c.best_effort).has_over

  of_row : (r : Row) → Beside (rate_of s cert r) (whole_rate s (surplus_rate s cert) r) 1
  of_row r = parts (guaranteed_rate s r) (surplus_rate s cert r) (positive_in r)
    where
      parts : (g : ℕ) (f : Frac) → 0 < f.den → Beside (record { num = g * f.den + f.num; den = f.den }) (g + f.num / f.den) 1
      parts g f h = record { positive = h; low = omega (arith, h); high = omega (arith, h) }

  of_rows : (rows : List Row) (i : ℕ) → Beside (rate_among (rate_of s cert) rows i) (number_of rows (map (whole_rate s (surplus_rate s cert)) rows) i) 1
  of_rows [] i = nothing 1
  of_rows (r ∷ rows) i = elim (r.alloc_id == i)
      as (λ b. Beside (if b then rate_of s cert r else rate_among (rate_of s cert) rows i) (if b then whole_rate s (surplus_rate s cert) r else number_of rows (map (whole_rate s (surplus_rate s cert)) rows) i) 1) [
        | true ↦ of_row r
        | false ↦ of_rows rows i
      ]

of_map : (s : State) (i : ℕ) (v : Event) (reply : Reply) → IsReply s v reply → makes_map v ≡ true → Beside (exact_of_reply (input_of s) reply i) (rate_of_reply (input_of s) reply i) 1
of_map s i MakeMap (Map made) is makes = of_rows (input_of s) made.cert is.certified s.roster i
of_map s i MakeMap Taken is makes = absurd is
of_map s i v reply is makes = absurd (let t : false ≡ true = makes in cc)

of_other : (s : State) (i : ℕ) (v : Event) (reply : Reply) → IsReply s v reply → makes_map v ≡ false → Beside (exact_of_reply (input_of s) reply i) (rate_of_reply (input_of s) reply i) 0
of_other s i MakeMap reply is other = absurd (let t : true ≡ false = other in cc)
of_other s i v Taken is other = nothing 0
of_other s i v (Map made) is other = absurd (let t : Map made ≡ Taken = is in cc)

-- ---- a run

of_entries : (n : ℕ) (s : State) (es : List Entry) (i : ℕ) → IsLegal (part n s es) → Beside (exact_after s i es) (rates_after s i es) (maps_of_entries es)
of_entries n s [] i legal = nothing 0
of_entries n s (e ∷ es) i legal =
    let count = count-cons (λ (x : Entry). makes_map x.event) e es in
    let rest = of_entries n (after_entry s e) es i (legal_tail n s e es legal) in
    let first : Frac = exact_of_reply (input_of s) e.reply i in
    let rate : ℕ = rate_of_reply (input_of s) e.reply i in
    elim (cases_Bool (makes_map e.event)) [
      | inl makes ↦
          rw (count, makes) (both first (exact_after (after_entry s e) i es) rate (rates_after (after_entry s e) i es) 1 (maps_of_entries es) (of_map s i e.event e.reply (legal 0 e refl).reply makes) rest)
      | inr other ↦
          rw (count, other) (both first (exact_after (after_entry s e) i es) rate (rates_after (after_entry s e) i es) 0 (maps_of_entries es) (of_other s i e.event e.reply (legal 0 e refl).reply other) rest)
    ]

module _ (c : Chapter) (l : IsLawfulChapter c) (two : c.opening.rule ≡ CarryRemainders) (from count i : ℕ) where
  abbrev run : Chapter
  run = run_of c from count

  beside : Beside (exact_over run i) (rates_over run i) (maps_over run)
  beside = of_entries run.number run.opening run.entries i (lawful c l two from count i).legal

  pub exact_is_fraction : 0 < (exact_over run i).den
  exact_is_fraction = beside.positive

  pub exact_below : BeforeEach (λ s. has_alloc i s.roster ≡ true) run → 0 < maps_over run → IsBelow (exact_over run i) (words_over run i * 256 + 255 + maps_over run)
  exact_below there some =
      let rates : rates_over run i + maps_over run ≤ words_over run i * 256 + 255 + maps_over run = omega (arith, words_of_run c l two from count i there) in
      omega (arith, beside.high, some, mul-le-mul_right (exact_over run i).den rates)

  pub exact_above : BeforeEach (λ s. has_alloc i s.roster ≡ true) run → IsAtLeast (exact_over run i) (words_over run i * 256) 255
  exact_above there =
      let words : words_over run i * 256 ≤ rates_over run i + 255 = omega (arith, words_of_run c l two from count i there, small_carry c l two from count i) in
      omega (arith, beside.low, mul-le-mul_right (exact_over run i).den words)
