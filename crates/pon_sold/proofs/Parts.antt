-- What was sold over chapters that are summed up apart.
use Rattle.std.proofs.Common.{◌≡◌, ℕ, zero, suc, ◌+◌, ◌-◌, ◌*◌, ◌≤◌, Bool, true, false, List, [], ◌∷◌, refl, ap, sym, ◌∙◌, arith}
use Rattle.std.specs.Prelude.{◌==◌, ◌&&◌, if◌then◌else◌, max, slice_get, Option, Some, None}
use Rattle.std.proofs.lemmas.Bool.{eqb-false, eqb-true}
use Rattle.pon_bwmap.specs.Alloc.{Alloc}
use Rattle.pon_descr.specs.Descriptor.{promised}
use Rattle.pon_admit.specs.declared.event.Event.{Event}
use Rattle.pon_admit.specs.declared.event.Event.TheVariants.{Admit, Remove}
use Rattle.pon_admit.specs.declared.row.Row.{Row}
use Rattle.pon_admit.specs.declared.rule.Rule.{Rule}
use Rattle.pon_admit.specs.declared.rule.Rule.TheVariants.{DropRemainders, CarryRemainders}
use Rattle.pon_state.specs.Entry.{Entry}
use Rattle.pon_state.specs.State.{State}
use Rattle.pon_state.specs.declared.reply.Reply.{Reply}
use Rattle.pon_state.specs.declared.reply.Reply.TheVariants.{Taken, Map}
use Rattle.pon_history.specs.Chapters.{Chapter, state_before}
use Rattle.pon_why.specs.Rates.{rates_of}
use Rattle.pon_why.specs.declared.rates.RowRates.{RowRates}
use Rattle.pon_sold.specs.Chapters.{after_entry, after_map, after_reply, is_between, watch_over, where_carried}
use Rattle.pon_sold.specs.Watches.{Agree, after_other, after_owed, after_row, after_rows, after_sold, crossing_debt, crossing_wait, debt_after, is_sold, joined, lesser, nothing, restarted}
use Rattle.pon_sold.specs.declared.watch.Sold.{Sold}
use Rattle.pon_sold.specs.declared.watch.Watch.{Watch}
use Rattle.pon_sold.proofs.Bounds.{lesser_assoc, lesser_none}

-- ---- numbers

-- the debt after maps that follow a debt `d`; by themselves they make `own`
abbrev crossed : Bool → ℕ → ℕ → ℕ → ℕ → ℕ
crossed is_open d guaranteed words own = if is_open then max own (d + guaranteed - 256 * words) else own

-- one more number
keep : (a b c x y : ℕ) → max (max a b) c ≡ x → max (max a (max b y)) c ≡ max x y
keep a b c x y e = omega (arith, e)

-- the greatest shortfall, with the debt after one more map
crossing : (b : Bool) (d peak : ℕ) → (peak == 0) ≡ b → crossing_debt d peak ≡ (if b then 0 else d + peak)
crossing b d peak e = ap (λ b. if b then 0 else d + peak) e

shortfall_grows : (d peak most guaranteed words : ℕ) → d ≤ most →
    max (max most (crossing_debt d peak)) (d + guaranteed - 256 * words) ≡ max most (crossing_debt d (max peak (guaranteed - 256 * words)))
shortfall_grows d peak most guaranteed words small = by_both (peak == 0) (max peak (guaranteed - 256 * words) == 0) refl refl
  where
    by_both : (b c : Bool) → (peak == 0) ≡ b → (max peak (guaranteed - 256 * words) == 0) ≡ c →
        max (max most (crossing_debt d peak)) (d + guaranteed - 256 * words) ≡ max most (crossing_debt d (max peak (guaranteed - 256 * words)))
    by_both true true e f =
        let none : peak ≡ 0 = eqb-true peak 0 e in
        let no_more : max peak (guaranteed - 256 * words) ≡ 0 = eqb-true (max peak (guaranteed - 256 * words)) 0 f in
        omega (arith, small, no_more, crossing true d peak e, crossing true d (max peak (guaranteed - 256 * words)) f)
    by_both true false e f =
        let none : peak ≡ 0 = eqb-true peak 0 e in
        let some : (max peak (guaranteed - 256 * words) ≡ 0) → ⊥ = eqb-false (max peak (guaranteed - 256 * words)) 0 f in
        omega (arith, small, none, some, crossing true d peak e, crossing false d (max peak (guaranteed - 256 * words)) f)
    by_both false true e f =
        let some : (peak ≡ 0) → ⊥ = eqb-false peak 0 e in
        let none : max peak (guaranteed - 256 * words) ≡ 0 = eqb-true (max peak (guaranteed - 256 * words)) 0 f in
        absurd (omega (arith, some, none))
    by_both false false e f =
        let some : (peak ≡ 0) → ⊥ = eqb-false peak 0 e in
        omega (arith, small, some, crossing false d peak e, crossing false d (max peak (guaranteed - 256 * words)) f)

with_shortfall : (a b y now later x all after : ℕ) → max (max (max a b) now) x ≡ max (max a b) later → max (max a b) now ≡ all → max y x ≡ after → max (max a (max b y)) later ≡ max all after
with_shortfall a b y now later x all after grows is debt = omega (arith, grows, is, debt)

-- the wait, with one more map that granted no word
crossing_more : (run more : ℕ) → crossing_wait run (more + 1) ≡ run + (more + 1) + 1
crossing_more run more = by_number (more + 1 == 0) refl
  where
    by_number : (b : Bool) → (more + 1 == 0) ≡ b → crossing_wait run (more + 1) ≡ run + (more + 1) + 1
    by_number true e = absurd (let none : more + 1 ≡ 0 = eqb-true (more + 1) 0 e in omega (arith, none))
    by_number false e = ap (λ b. if b then 0 else run + (more + 1) + 1) e

crossing_most : (run more : ℕ) → crossing_wait run more ≤ run + more + 1
crossing_most run more = by_number (more == 0) refl
  where
    by_number : (b : Bool) → (more == 0) ≡ b → crossing_wait run more ≤ run + more + 1
    by_number true e = let is : crossing_wait run more ≡ 0 = ap (λ b. if b then 0 else run + more + 1) e in omega (arith, is)
    by_number false e = let is : crossing_wait run more ≡ run + more + 1 = ap (λ b. if b then 0 else run + more + 1) e in omega (arith, is)

-- ---- two ways to sum up

abbrev watch_of : Bool → Bool → Sold → ℕ → ℕ → ℕ → ℕ → ℕ → ℕ → Watch
watch_of is_open waiting sold debt run guaranteed words peak more = record {
  sold = sold;
  debt = debt;
  run = run;
  head = record { guaranteed = guaranteed; words = words; peak = peak; run = more; is_open = is_open; is_waiting = waiting };
}

-- `v` knows of later maps what they are by themselves, and `u` what they are after those of `w`
record Meet (w v u : Watch) : Type 0 where
  rate : w.sold.rate + v.sold.rate ≡ u.sold.rate
  words : w.sold.words + v.sold.words ≡ u.sold.words
  shortfall : max (max w.sold.shortfall v.sold.shortfall) (crossing_debt w.debt v.head.peak) ≡ u.sold.shortfall
  wait : max (max w.sold.wait v.sold.wait) (crossing_wait w.run v.head.run) ≡ u.sold.wait
  least : lesser w.sold.least v.sold.least ≡ u.sold.least
  debt : crossed v.head.is_open w.debt v.head.guaranteed v.head.words v.debt ≡ u.debt
  run : (if v.head.is_waiting then w.run + v.head.run else v.run) ≡ u.run
  waiting : v.head.is_waiting ≡ true → v.run ≡ v.head.run

module _ (w : Watch) (small : w.debt ≤ w.sold.shortfall) where
  met_nothing : Meet w nothing w
  met_nothing = record {
    rate = omega arith;
    words = omega arith;
    shortfall = omega arith;
    wait = omega arith;
    least = lesser_none w.sold.least;
    debt = omega (arith, small);
    run = omega arith;
    waiting = λ e. refl;
  }

  met_restarted : (v u : Watch) → Meet w v u → Meet w (restarted v) (restarted u)
  met_restarted v u m = record {
    rate = m.rate;
    words = m.words;
    shortfall = m.shortfall;
    wait = m.wait;
    least = m.least;
    debt = refl;
    run = refl;
    waiting = λ e. absurd (let t : false ≡ true = e in cc);
  }

  -- a map with a guaranteed rate, and these words
  module _ (g n : ℕ) (u : Watch) where
    met_owed : (is_open waiting : Bool) (sold : Sold) (debt run guaranteed words peak more : ℕ) →
        Meet w (watch_of is_open waiting sold debt run guaranteed words peak more) u → Meet w (after_owed g n (watch_of is_open waiting sold debt run guaranteed words peak more)) (after_owed g n u)
    met_owed true waiting sold debt run guaranteed words peak more m =
        let next : max (debt_after g n debt) (w.debt + (guaranteed + g) - 256 * (words + n)) ≡ debt_after g n u.debt = omega (arith, m.debt) in
        record {
          rate = m.rate;
          words = m.words;
          shortfall = with_shortfall w.sold.shortfall sold.shortfall (debt_after g n debt) (crossing_debt w.debt peak) (crossing_debt w.debt (max peak (guaranteed + g - 256 * (words + n))))
              (w.debt + (guaranteed + g) - 256 * (words + n)) u.sold.shortfall (debt_after g n u.debt)
              (shortfall_grows w.debt peak (max w.sold.shortfall sold.shortfall) (guaranteed + g) (words + n) (omega (arith, small))) m.shortfall next;
          wait = m.wait;
          least = m.least;
          debt = next;
          run = m.run;
          waiting = m.waiting;
        }
    met_owed false waiting sold debt run guaranteed words peak more m = record {
      rate = m.rate;
      words = m.words;
      shortfall = keep w.sold.shortfall sold.shortfall (crossing_debt w.debt peak) u.sold.shortfall (debt_after g n debt) m.shortfall ∙ ap (λ d. max u.sold.shortfall (debt_after g n d)) m.debt;
      wait = m.wait;
      least = m.least;
      debt = ap (debt_after g n) m.debt;
      run = m.run;
      waiting = m.waiting;
    }

  -- a map that is sold, and grants a word or none
  abbrev sold_by : Bool → ℕ → ℕ → Watch → Watch
  sold_by none rate words v = record {
    sold = record {
      rate = v.sold.rate + rate;
      words = v.sold.words + words;
      shortfall = v.sold.shortfall;
      wait = max v.sold.wait ((if none then v.run + 1 else 0) + 1);
      least = lesser v.sold.least rate;
    };
    debt = v.debt;
    run = if none then v.run + 1 else 0;
    head = record {
      guaranteed = v.head.guaranteed;
      words = v.head.words;
      peak = v.head.peak;
      run = if v.head.is_waiting && none then v.head.run + 1 else v.head.run;
      is_open = v.head.is_open;
      is_waiting = v.head.is_waiting && none;
    };
  }

  module _ (rate n : ℕ) (u : Watch) where
    met_by : (none is_open waiting : Bool) (sold : Sold) (debt run guaranteed words peak more : ℕ) →
        Meet w (watch_of is_open waiting sold debt run guaranteed words peak more) u → Meet w (sold_by none rate n (watch_of is_open waiting sold debt run guaranteed words peak more)) (sold_by none rate n u)
    met_by true is_open true sold debt run guaranteed words peak more m = record {
      rate = omega (arith, m.rate);
      words = omega (arith, m.words);
      shortfall = m.shortfall;
      wait = omega (arith, m.wait, m.run, m.waiting refl, crossing_more w.run more, crossing_most w.run more);
      least = sym (lesser_assoc w.sold.least sold.least rate) ∙ ap (λ x. lesser x rate) m.least;
      debt = m.debt;
      run = omega (arith, m.run);
      waiting = λ e. ap (λ k. k + 1) (m.waiting refl);
    }
    met_by true is_open false sold debt run guaranteed words peak more m = record {
      rate = omega (arith, m.rate);
      words = omega (arith, m.words);
      shortfall = m.shortfall;
      wait = keep w.sold.wait sold.wait (crossing_wait w.run more) u.sold.wait (run + 1 + 1) m.wait ∙ ap (λ k. max u.sold.wait (k + 1 + 1)) m.run;
      least = sym (lesser_assoc w.sold.least sold.least rate) ∙ ap (λ x. lesser x rate) m.least;
      debt = m.debt;
      run = ap (λ k. k + 1) m.run;
      waiting = λ e. absurd (let t : false ≡ true = e in cc);
    }
    met_by false is_open true sold debt run guaranteed words peak more m = record {
      rate = omega (arith, m.rate);
      words = omega (arith, m.words);
      shortfall = m.shortfall;
      wait = keep w.sold.wait sold.wait (crossing_wait w.run more) u.sold.wait (0 + 1) m.wait;
      least = sym (lesser_assoc w.sold.least sold.least rate) ∙ ap (λ x. lesser x rate) m.least;
      debt = m.debt;
      run = refl;
      waiting = λ e. absurd (let t : false ≡ true = e in cc);
    }
    met_by false is_open false sold debt run guaranteed words peak more m = record {
      rate = omega (arith, m.rate);
      words = omega (arith, m.words);
      shortfall = m.shortfall;
      wait = keep w.sold.wait sold.wait (crossing_wait w.run more) u.sold.wait (0 + 1) m.wait;
      least = sym (lesser_assoc w.sold.least sold.least rate) ∙ ap (λ x. lesser x rate) m.least;
      debt = m.debt;
      run = refl;
      waiting = λ e. absurd (let t : false ≡ true = e in cc);
    }

  met_other : (v u : Watch) → Meet w v u → Meet w (after_other v) (after_other u)
  met_other v u m = record {
    rate = m.rate;
    words = m.words;
    shortfall = m.shortfall;
    wait = m.wait;
    least = m.least;
    debt = m.debt;
    run = refl;
    waiting = λ e. absurd (let t : false ≡ true = e in cc);
  }

  met_rates : (b : Bool) (rate g n : ℕ) (v u : Watch) → Meet w v u →
      Meet w (if b then after_sold rate n (after_owed g n v) else after_other (after_owed g n v)) (if b then after_sold rate n (after_owed g n u) else after_other (after_owed g n u))
  met_rates b rate g n v u m = more b (met_owed g n u v.head.is_open v.head.is_waiting v.sold v.debt v.run v.head.guaranteed v.head.words v.head.peak v.head.run m)
    where
      more : (b : Bool) → Meet w (after_owed g n v) (after_owed g n u) →
          Meet w (if b then after_sold rate n (after_owed g n v) else after_other (after_owed g n v)) (if b then after_sold rate n (after_owed g n u) else after_other (after_owed g n u))
      more true met =
          let x : Watch = after_owed g n v in
          met_by rate n (after_owed g n u) (n == 0) x.head.is_open x.head.is_waiting x.sold x.debt x.run x.head.guaranteed x.head.words x.head.peak x.head.run met
      more false met = met_other (after_owed g n v) (after_owed g n u) met

  met_row : (b : Bool) (r : Row) (x : RowRates) (a : Alloc) (v u : Watch) → Meet w v u → Meet w (if b then after_row r x a v else v) (if b then after_row r x a u else u)
  met_row true r x a v u m = met_rates (is_sold (promised r.descriptor) x.load) (promised r.descriptor) x.guaranteed (a.grant - 1) v u m
  met_row false r x a v u m = m

  met_rows : (i : ℕ) (rows : List Row) (xs : List RowRates) (more : List Alloc) (v u : Watch) → Meet w v u → Meet w (after_rows i rows xs more v) (after_rows i rows xs more u)
  met_rows i [] xs more v u m = m
  met_rows i (r ∷ rows) [] more v u m = m
  met_rows i (r ∷ rows) (x ∷ xs) [] v u m = m
  met_rows i (r ∷ rows) (x ∷ xs) (a ∷ more) v u m =
      met_rows i rows xs more (if r.alloc_id == i then after_row r x a v else v) (if r.alloc_id == i then after_row r x a u else u) (met_row (r.alloc_id == i) r x a v u m)

  met_carried : (rule : Rule) (x y v u : Watch) → Meet w x y → Meet w v u → Meet w (where_carried rule x v) (where_carried rule y u)
  met_carried CarryRemainders x y v u new old = new
  met_carried DropRemainders x y v u new old = old

  met_if : (b : Bool) (x y v u : Watch) → Meet w x y → Meet w v u → Meet w (if b then x else v) (if b then y else u)
  met_if true x y v u new old = new
  met_if false x y v u new old = old

  met_reply : (first last i : ℕ) (s : State) (e : Event) (reply : Reply) (v u : Watch) → Meet w v u → Meet w (after_reply first last i s e reply v) (after_reply first last i s e reply u)
  met_reply first last i s e (Map made) v u m =
      met_if (is_between first last made.frame) (after_map i s made v) (after_map i s made u) v u
      (met_carried s.rule (after_rows i s.roster (rates_of s made.cert) made.map v) (after_rows i s.roster (rates_of s made.cert) made.map u) v u (met_rows i s.roster (rates_of s made.cert) made.map v u m) m) m
  met_reply first last i s (Admit r) Taken v u m = met_if (r.alloc_id == i) (restarted v) (restarted u) v u (met_restarted v u m) m
  met_reply first last i s (Remove alloc_id) Taken v u m = met_if (alloc_id == i) (restarted v) (restarted u) v u (met_restarted v u m) m
  met_reply first last i s e Taken v u m = m

  met_entry : (first last i : ℕ) (s : State) (o : Option Entry) (v u : Watch) → Meet w v u → Meet w (after_entry first last i s o v) (after_entry first last i s o u)
  met_entry first last i s None v u m = m
  met_entry first last i s (Some e) v u m = met_reply first last i s e.event e.reply v u m

  met_over : (first last : ℕ) (c : Chapter) (i n : ℕ) → Meet w (watch_over first last i c nothing n) (watch_over first last i c w n)
  met_over first last c i zero = met_nothing
  met_over first last c i (suc n) =
      met_entry first last i (state_before c n) (slice_get c.entries n) (watch_over first last i c nothing n) (watch_over first last i c w n) (met_over first last c i n)

  pub joined_over : (first last : ℕ) (c : Chapter) (i n : ℕ) → Agree (joined w (watch_over first last i c nothing n)) (watch_over first last i c w n)
  joined_over first last c i n =
      let m : Meet w (watch_over first last i c nothing n) (watch_over first last i c w n) = met_over first last c i n in
      record {
        sold = (λ j. record { rate = m.rate j; words = m.words j; shortfall = m.shortfall j; wait = m.wait j; least = m.least j });
        debt = m.debt;
        run = m.run;
      }
