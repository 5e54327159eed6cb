-- The maps of a lawful chapter grant an Alloc-ID what was sold to it.
use Rattle.std.proofs.Common.{◌≡◌, ℕ, zero, suc, ◌+◌, ◌-◌, ◌*◌, ◌/◌, ◌%◌, ◌<◌, ◌≤◌, Bool, true, false, List, [], ◌∷◌, ◌++◌, length, map, take, get_or, refl, ap, sym, ◌∙◌, subst, arith, inl, inr}
use Rattle.std.specs.Prelude.{not, ◌==◌, ◌⊎◌, if◌then◌else◌, max, nat_le, nat_lt, slice_get, Option, Some, None}
use Rattle.std.proofs.Math.Nat.{mul-le-mul_left}
use Rattle.std.proofs.Math.Numerals.{add-one}
use Rattle.std.proofs.lemmas.Bool.{and_cases, and_parts, cases_Bool, cases_eq, eq-eqb, eqb-true, leb-false, leb-true, ltb-true, or_parts}
use Rattle.std.proofs.lemmas.List.{take_all, take_more}
use Rattle.std.proofs.lemmas.Option.{get_or_from_slice_get, slice_get_cases, slice_get_within}
use Rattle.pon_units.specs.declared.granted.Granted.{Granted}
use Rattle.pon_bwmap.specs.Alloc.{Alloc}
use Rattle.pon_burst.specs.Maps.{structure_of}
use Rattle.pon_lists.proofs.Inserted.{any_without, list_any-inserted}
use Rattle.pon_lists.proofs.Lists.{map-map}
use Rattle.pon_descr.specs.Descriptor.{promised}
use Rattle.pon_descr.specs.declared.descriptor.Descriptor.{Descriptor}
use Rattle.pon_admit.specs.declared.event.Event.{Event}
use Rattle.pon_admit.specs.declared.event.Event.TheVariants.{Admit, Change, MakeMap, Remove}
use Rattle.pon_admit.specs.declared.row.Row.{Row}
use Rattle.pon_admit.specs.declared.rule.Rule.{Rule}
use Rattle.pon_admit.specs.declared.rule.Rule.TheVariants.{DropRemainders, CarryRemainders}
use Rattle.pon_admit.specs.Roster.{IsDistinct, comes_before, has_alloc, left_over, with_descriptor, with_row, without}
use Rattle.pon_admit.proofs.AdmittedSets.{has_alloc-changed}
use Rattle.pon_guar.specs.Book.{load_of}
use Rattle.pon_cert.specs.declared.cert.MapCert.{MapCert}
use Rattle.pon_demand.specs.Carries.{number_of}
use Rattle.pon_demand.specs.Rates.{guaranteed_rate, planned_grants, whole_rate}
use Rattle.pon_demand.specs.Sharing.{surplus_rate}
use Rattle.pon_demand.proofs.Carries.{carry_known}
use Rattle.pon_demand.proofs.RosterMaps.{granted_to_row}
use Rattle.pon_state.specs.After.{after_entry}
use Rattle.pon_state.specs.Entry.{Entry}
use Rattle.pon_state.specs.History.{replay}
use Rattle.pon_state.specs.Legal.{IsMade, IsReply}
use Rattle.pon_state.specs.State.{State, carry_at, input_of}
use Rattle.pon_state.specs.declared.reply.MadeMap.{MadeMap}
use Rattle.pon_state.specs.declared.reply.Reply.{Reply}
use Rattle.pon_state.specs.declared.reply.Reply.TheVariants.{Taken, Map}
use Rattle.pon_state.proofs.Replays.{replay_push}
use Rattle.pon_history.specs.Carries.{carry_after, owed_of, rate_of_reply}
use Rattle.pon_history.specs.Chapters.{Chapter, Follows, IsLawfulChapter, present_state, state_before}
use Rattle.pon_history.specs.ClosedForm.{closed_form}
use Rattle.pon_history.specs.Parts.{admits, roster_of}
use Rattle.pon_history.specs.WordRuns.{words_of_reply, words_since}
use Rattle.pon_history.proofs.ClosedForms.{closed_at_present, owed_push, sum_since_push}
use Rattle.pon_history.proofs.LawfulChapters.{lawful_before}
use Rattle.pon_history.proofs.Legality.{replay_later}
use Rattle.pon_history.proofs.WordRuns.{whole_runs}
use Rattle.pon_why.specs.Rates.{rates_of, row_rates}
use Rattle.pon_sold.specs.Chapters.{AreOfPort, GoOn, GotAllSold, after_map, after_reply, begun, is_between, watch_all, watch_over, where_carried}
use Rattle.pon_sold.specs.Chapters.{after_entry as watch_after}
use Rattle.pon_sold.specs.Watches.{after_other, after_owed, after_rates, after_row, after_rows, after_sold, debt_after, head_owed, head_sold, is_sold, lesser, none_sold, nothing, restarted, stopped}
use Rattle.pon_sold.specs.declared.watch.Watch.{Watch}
use Rattle.pon_sold.proofs.Bounds.{lesser_known, lesser_left, lesser_some, within_bound}

-- the maps without a word make no more than the debt, and what was sold was got
pub record Fine (w : Watch) : Type 0 where
  pub run : w.run * w.sold.least ≤ w.debt
  pub none : w.sold.least ≡ 0 → w.run ≡ 0
  pub got : GotAllSold w.sold

-- ---- one map of a row: the words make the whole part of what is owed before it and of its rate

module _ (rate guaranteed words total before : ℕ) (w : Watch) (less : guaranteed ≤ total) (whole : before / 256 + words ≡ (before + total) / 256) (small : w.debt ≤ before % 256) (fine : Fine w) where
  abbrev debt : ℕ
  debt = debt_after guaranteed words w.debt

  abbrev least : ℕ
  least = lesser w.sold.least rate

  left : debt ≤ (before + total) % 256
  left = omega (arith, less, whole, small)

  few : debt ≤ 255
  few = omega (arith, left)

  abbrev sold_at : ℕ → Watch
  sold_at run = record {
    sold = record { rate = w.sold.rate + rate; words = w.sold.words + words; shortfall = max w.sold.shortfall debt; wait = max w.sold.wait (run + 1); least = least };
    debt = debt;
    run = run;
    head = head_sold words (head_owed guaranteed words w.head);
  }

  fine_at : 0 < rate → (run : ℕ) → run * least ≤ debt → Fine (sold_at run)
  fine_at positive run short = record {
    run = short;
    none = λ e. absurd (omega (arith, e, (lesser_some w.sold.least rate positive).0));
    got = record {
      words = omega (arith, fine.got.words, few);
      wait = omega (arith, lesser_left w.sold.least rate w.sold.wait fine.got.wait, within_bound run least (lesser_some w.sold.least rate positive).0 (omega (arith, short, few)));
    };
  }

  -- a map without a word
  waits : 0 < rate → guaranteed ≡ rate → words ≡ 0 → (w.run + 1) * least ≤ debt
  waits positive same none = elim (cases_eq w.sold.least 0) [
    | inl e ↦ omega (arith, ap (λ n. (n + 1) * least) (fine.none e), (lesser_some w.sold.least rate positive).1, same, none)
    | inr e ↦
        let known : 0 < w.sold.least = omega (arith, e) in
        omega (arith, mul-le-mul_left w.run (lesser_known w.sold.least rate known), fine.run, (lesser_some w.sold.least rate positive).1, same, none)
  ]

  fine_sold : 0 < rate → guaranteed ≡ rate → Fine (after_sold rate words (after_owed guaranteed words w))
  fine_sold positive same = elim (cases_Bool (words == 0)) [
    | inl e ↦ subst (λ b. Fine (sold_at (if b then w.run + 1 else 0))) (sym e) (fine_at positive (w.run + 1) (waits positive same (eqb-true words 0 e)))
    | inr e ↦ subst (λ b. Fine (sold_at (if b then w.run + 1 else 0))) (sym e) (fine_at positive 0 (omega arith))
  ]

  fine_other : Fine (after_other (after_owed guaranteed words w))
  fine_other = record { run = omega arith; none = λ e. refl; got = record { words = omega (arith, fine.got.words, few); wait = fine.got.wait } }

  abbrev Kept : Watch → Type 0
  Kept v = (v.debt ≤ (before + total) % 256) × Fine v

  pub fine_row : (load : ℕ) → (is_sold rate load ≡ true → guaranteed ≡ rate) → Kept (after_rates rate load guaranteed words w)
  fine_row load same = elim (cases_Bool (is_sold rate load)) [
    | inl e ↦ subst (λ b. Kept (if b then after_sold rate words (after_owed guaranteed words w) else after_other (after_owed guaranteed words w))) (sym e)
        (left, fine_sold (ltb-true 0 rate (and_parts (nat_lt 0 rate) (nat_le rate load) e).0) (same e))
    | inr e ↦ subst (λ b. Kept (if b then after_sold rate words (after_owed guaranteed words w) else after_other (after_owed guaranteed words w))) (sym e) (left, fine_other)
  ]

-- ---- the rows of a map

module _ (s : State) (cert : MapCert) (gs : List Granted) (i : ℕ) where
  abbrev to_row : Row → Granted
  to_row = granted_to_row (input_of s) (surplus_rate (input_of s) cert) (carry_at s)

  abbrev alloc_to : Row → Alloc
  alloc_to r = structure_of s.gap s.profile gs (to_row r)

  abbrev rows_after : List Row → Watch → Watch
  rows_after rows w = after_rows i rows (map (row_rates s cert) rows) (map (structure_of s.gap s.profile gs) (map to_row rows)) w

  abbrev one_after : Row → Watch → Watch
  one_after r w = after_row r (row_rates s cert r) (alloc_to r) w

  words_list : (rows : List Row) → map (λ (a : Alloc). a.grant - 1) (map (structure_of s.gap s.profile gs) (map to_row rows)) ≡ map (λ r. (alloc_to r).grant - 1) rows
  words_list rows = map-map (λ (a : Alloc). a.grant - 1) (structure_of s.gap s.profile gs) (map to_row rows) ∙ map-map (λ g. (structure_of s.gap s.profile gs g).grant - 1) to_row rows

  -- rows of other Alloc-IDs
  others : (rows : List Row) (w : Watch) → has_alloc i rows ≡ false → rows_after rows w ≡ w
  others [] w h = refl
  others (r ∷ rows) w h =
      let two : ((r.alloc_id == i) ≡ false) × (has_alloc i rows ≡ false) = or_parts (r.alloc_id == i) (has_alloc i rows) h in
      ap (λ b. rows_after rows (if b then one_after r w else w)) two.0 ∙ others rows w two.1

  abbrev IsMissing : List Row → Watch → Type 0
  IsMissing rows w = ((f : Row → ℕ) → number_of rows (map f rows) i ≡ 0) × (rows_after rows w ≡ w)

  abbrev IsFoundIn : List Row → Watch → Type 0
  IsFoundIn rows w = (r : Row) × ((f : Row → ℕ) → number_of rows (map f rows) i ≡ f r) × (rows_after rows w ≡ one_after r w)

  in_rows : (rows : List Row) (w : Watch) → IsDistinct rows → IsMissing rows w ⊎ IsFoundIn rows w
  in_rows [] w d = inl (λ f. refl, refl)
  in_rows (r ∷ rows) w d = elim (cases_Bool (r.alloc_id == i)) [
    | inl e ↦
        let absent : has_alloc i rows ≡ false = ap (λ n. has_alloc n rows) (sym (eqb-true r.alloc_id i e)) ∙ d.0 in
        inr (r, λ f. ap (λ b. if b then f r else number_of rows (map f rows) i) e, ap (λ b. rows_after rows (if b then one_after r w else w)) e ∙ others rows (one_after r w) absent)
    | inr e ↦ elim (in_rows rows w d.1) [
      | inl m ↦ inl (λ f. ap (λ b. if b then f r else number_of rows (map f rows) i) e ∙ m.0 f, ap (λ b. rows_after rows (if b then one_after r w else w)) e ∙ m.1)
      | inr x ↦ inr (x.0, λ f. ap (λ b. if b then f r else number_of rows (map f rows) i) e ∙ x.1 f, ap (λ b. rows_after rows (if b then one_after r w else w)) e ∙ x.2)
    ]
  ]

-- ---- the map of a state

module _ (s : State) (i : ℕ) (apart : IsDistinct s.roster) (two : s.rule ≡ CarryRemainders) (before : ℕ) (w : Watch) (small : w.debt ≤ before % 256) (fine : Fine w) (made : MadeMap) (m : IsMade s made)
    (whole : before / 256 + words_of_reply s.roster (Map made) i ≡ (before + rate_of_reply (input_of s) (Map made) i) / 256) where
  abbrev grants : List Granted
  grants = planned_grants (input_of s) (surplus_rate (input_of s) made.cert) (carry_at s)

  abbrev rate : ℕ
  rate = rate_of_reply (input_of s) (Map made) i

  abbrev KeptBy : Watch → Type 0
  KeptBy v = (v.debt ≤ (before + rate) % 256) × Fine v

  as_rows : after_map i s made w ≡ rows_after s made.cert grants i s.roster w
  as_rows =
      ap (λ rule. where_carried rule (after_rows i s.roster (rates_of s made.cert) made.map w) w) two
      ∙ ap (λ more. after_rows i s.roster (rates_of s made.cert) more w) m.map

  words_of : words_of_reply s.roster (Map made) i ≡ number_of s.roster (map (λ r. (alloc_to s made.cert grants i r).grant - 1) s.roster) i
  words_of =
      ap (λ more. number_of s.roster (map (λ (a : Alloc). a.grant - 1) more) i) m.map
      ∙ ap (λ ns. number_of s.roster ns i) (words_list s made.cert grants i s.roster)

  -- what is sold is guaranteed if as much is reported
  sold_rate : (r : Row) → is_sold (promised r.descriptor) (load_of s.book r.alloc_id) ≡ true → guaranteed_rate (input_of s) r ≡ promised r.descriptor
  sold_rate r e =
      let enough : promised r.descriptor ≤ load_of s.book r.alloc_id = leb-true (promised r.descriptor) (load_of s.book r.alloc_id) (and_parts (nat_lt 0 (promised r.descriptor)) (nat_le (promised r.descriptor) (load_of s.book r.alloc_id)) e).1 in
      omega (arith, enough)

  of_row : (r : Row) → rate ≡ whole_rate (input_of s) (surplus_rate (input_of s) made.cert) r → words_of_reply s.roster (Map made) i ≡ (alloc_to s made.cert grants i r).grant - 1 → KeptBy (one_after s made.cert grants i r w)
  of_row r is words = fine_row (promised r.descriptor) (guaranteed_rate (input_of s) r) ((alloc_to s made.cert grants i r).grant - 1) rate before w
      (omega (arith, is)) (ap (λ n. before / 256 + n) (sym words) ∙ whole) small fine (load_of s.book r.alloc_id) (sold_rate r)

  pub unlisted : has_alloc i s.roster ≡ false → after_map i s made w ≡ w
  unlisted h = as_rows ∙ others s made.cert grants i s.roster w h

  pub fine_map : KeptBy (after_map i s made w)
  fine_map = subst KeptBy (sym as_rows) (elim (in_rows s made.cert grants i s.roster w apart) [
    | inl x ↦
        let none : rate ≡ 0 = x.0 (whole_rate (input_of s) (surplus_rate (input_of s) made.cert)) in
        subst KeptBy (sym x.1) (omega (arith, small, none), fine)
    | inr x ↦ subst KeptBy (sym x.2) (of_row x.0 (x.1 (whole_rate (input_of s) (surplus_rate (input_of s) made.cert))) (words_of ∙ x.1 (λ r. (alloc_to s made.cert grants i r).grant - 1)))
  ])

-- ---- the entries of a chapter under the rule that carries

-- the debt is part of what whole words leave, up to the last frame of the range; there is none before the first one, and
-- none of an Alloc-ID that is not admitted
pub record Holds (first last i next : ℕ) (rows : List Row) (owed : ℕ) (w : Watch) : Type 0 where
  pub before : next ≤ first → w.debt ≡ 0
  pub within : next ≤ last + 1 → w.debt ≤ owed % 256
  pub gone : has_alloc i rows ≡ false → w.debt ≡ 0
  pub fine : Fine w

fine_without : (w v : Watch) → GotAllSold w.sold → v.sold ≡ w.sold → v.debt ≡ 0 → v.run ≡ 0 → Fine v
fine_without w v got sold debt run = record { run = rw run (omega arith); none = λ e. run; got = subst GotAllSold (sym sold) got }

-- where no run of maps goes on
pub held_stopped : (first last i next : ℕ) (rows : List Row) (owed : ℕ) (w : Watch) → GotAllSold w.sold → Holds first last i next rows owed (stopped w)
held_stopped first last i next rows owed w got = record { before = λ early. refl; within = λ early. omega arith; gone = λ h. refl; fine = fine_without w (stopped w) got refl refl refl }

held_restarted : (first last i next : ℕ) (rows : List Row) (owed : ℕ) (w : Watch) → GotAllSold w.sold → Holds first last i next rows owed (restarted w)
held_restarted first last i next rows owed w got = record { before = λ early. refl; within = λ early. omega arith; gone = λ h. refl; fine = fine_without w (restarted w) got refl refl refl }

-- an Alloc-ID that an event leaves without a row had none before, but if the event removes it
was_gone : (i : ℕ) (r : Row) (rows : List Row) → has_alloc i (with_row r rows) ≡ false → has_alloc i rows ≡ false
was_gone i r rows h = (or_parts (r.alloc_id == i) (has_alloc i rows) (sym (list_any-inserted (λ q. q.alloc_id == i) (λ q. comes_before q r) r rows) ∙ h)).1

had_none : (i alloc_id : ℕ) (rows : List Row) → (alloc_id == i) ≡ false → has_alloc i (without alloc_id rows) ≡ false → has_alloc i rows ≡ false
had_none i alloc_id rows other h = elim (and_cases (not (i == alloc_id)) (has_alloc i rows) (sym (any_without (λ r. r.alloc_id) alloc_id i rows) ∙ h)) [
  | inl e ↦ absurd (apart (cases_Bool (i == alloc_id)) e)
  | inr e ↦ e
]
  where
    apart : ((i == alloc_id) ≡ true) ⊎ ((i == alloc_id) ≡ false) → not (i == alloc_id) ≡ false → ⊥
    apart (inl e) n = let same : i ≡ alloc_id = eqb-true i alloc_id e in
        let t : true ≡ false = sym (eq-eqb alloc_id i (sym same)) ∙ other in cc
    apart (inr e) n = let t : true ≡ false = sym (ap not e) ∙ n in cc

module _ (first last i : ℕ) (s : State) (apart : IsDistinct s.roster) (two : s.rule ≡ CarryRemainders) (owed : ℕ) (w : Watch) (held : Holds first last i s.next s.roster owed w) where
  -- a map of a frame out of the range
  outside : (frame next rate : ℕ) → frame ≡ s.next → next ≡ s.next + 1 → is_between first last frame ≡ false → Holds first last i next s.roster (owed + rate) w
  outside frame next rate same after out = record {
    before = λ early. held.before (omega (arith, early, after));
    within = λ early. elim (and_cases (nat_le first frame) (nat_le frame last) out) [
      | inl e ↦
          let lt : frame < first = leb-false first frame e in
          let none : w.debt ≡ 0 = held.before (omega (arith, lt, same)) in
          omega (arith, none)
      | inr e ↦ absurd (let lt : last < frame = leb-false frame last e in omega (arith, lt, same, after, early))
    ];
    gone = held.gone;
    fine = held.fine;
  }

  -- a map of a frame of the range
  inside : (made : MadeMap) (m : IsMade s made) → (next : ℕ) → next ≡ s.next + 1 → is_between first last made.frame ≡ true →
      (owed / 256 + words_of_reply s.roster (Map made) i ≡ (owed + rate_of_reply (input_of s) (Map made) i) / 256) →
      Holds first last i next s.roster (owed + rate_of_reply (input_of s) (Map made) i) (after_map i s made w)
  inside made m next after within whole =
      let from : first ≤ made.frame = leb-true first made.frame (and_parts (nat_le first made.frame) (nat_le made.frame last) within).0 in
      let to : made.frame ≤ last = leb-true made.frame last (and_parts (nat_le first made.frame) (nat_le made.frame last) within).1 in
      let small : w.debt ≤ owed % 256 = held.within (omega (arith, to, m.frame)) in
      let kept = fine_map s i apart two owed w small held.fine made m whole in
      record {
        before = λ early. absurd (omega (arith, early, after, from, m.frame));
        within = λ early. kept.0;
        gone = λ h. ap (λ v. v.debt) (unlisted s i apart two owed w small held.fine made m whole h) ∙ held.gone h;
        fine = kept.1;
      }

  of_map : (made : MadeMap) (m : IsMade s made) → (next : ℕ) → next ≡ s.next + 1 →
      (owed / 256 + words_of_reply s.roster (Map made) i ≡ (owed + rate_of_reply (input_of s) (Map made) i) / 256) →
      Holds first last i next s.roster (owed + rate_of_reply (input_of s) (Map made) i) (if is_between first last made.frame then after_map i s made w else w)
  of_map made m next after whole = elim (cases_Bool (is_between first last made.frame)) [
    | inl e ↦ subst (λ b. Holds first last i next s.roster (owed + rate_of_reply (input_of s) (Map made) i) (if b then after_map i s made w else w)) (sym e) (inside made m next after e whole)
    | inr e ↦ subst (λ b. Holds first last i next s.roster (owed + rate_of_reply (input_of s) (Map made) i) (if b then after_map i s made w else w)) (sym e) (outside made.frame next (rate_of_reply (input_of s) (Map made) i) m.frame after e)
  ]

  -- an event without a map, after which an Alloc-ID without a row had none before
  of_taken : (rows : List Row) → (has_alloc i rows ≡ false → has_alloc i s.roster ≡ false) → Holds first last i s.next rows (owed + 0) w
  of_taken rows had = record { before = held.before; within = λ early. omega (arith, held.within early); gone = λ h. held.gone (had h); fine = held.fine }

  -- an admission begins with nothing owed
  of_admission : (r : Row) (b : Bool) → (r.alloc_id == i) ≡ b → Holds first last i s.next (with_row r s.roster) ((if b then 0 else owed) + 0) (if b then restarted w else w)
  of_admission r true e = held_restarted first last i s.next (with_row r s.roster) 0 w held.fine.got
  of_admission r false e = of_taken (with_row r s.roster) (was_gone i r s.roster)

  of_removal : (alloc_id : ℕ) (b : Bool) → (alloc_id == i) ≡ b → Holds first last i s.next (without alloc_id s.roster) (owed + 0) (if b then restarted w else w)
  of_removal alloc_id true e = held_restarted first last i s.next (without alloc_id s.roster) (owed + 0) w held.fine.got
  of_removal alloc_id false e = of_taken (without alloc_id s.roster) (had_none i alloc_id s.roster e)

  of_change : (alloc_id : ℕ) (d : Descriptor) → Holds first last i s.next (with_descriptor alloc_id d s.roster) (owed + 0) w
  of_change alloc_id d = of_taken (with_descriptor alloc_id d s.roster) (λ h. sym (has_alloc-changed alloc_id d i s.roster) ∙ h)

  -- an event and its reply
  of_reply : (v : Event) (reply : Reply) → IsReply s v reply →
      ((if admits i v then 0 else owed) / 256 + words_of_reply s.roster reply i ≡ ((if admits i v then 0 else owed) + rate_of_reply (input_of s) reply i) / 256) →
      Holds first last i (after_entry s (record { event = v; reply = reply })).next (after_entry s (record { event = v; reply = reply })).roster ((if admits i v then 0 else owed) + rate_of_reply (input_of s) reply i) (after_reply first last i s v reply w)
  of_reply MakeMap (Map made) m whole = of_map made m (s.next + 1) refl whole
  of_reply MakeMap Taken m whole = absurd m
  of_reply v (Map made) m whole = absurd (let t : Map made ≡ Taken = m in cc)
  of_reply (Admit r) Taken m whole = of_admission r (r.alloc_id == i) refl
  of_reply (Remove alloc_id) Taken m whole = of_removal alloc_id (alloc_id == i) refl
  of_reply (Change alloc_id d) Taken m whole = of_change alloc_id d
  of_reply v Taken m whole = of_taken s.roster (λ h. h)

abbrev pub HoldsAfter : ℕ → ℕ → ℕ → State → List Entry → Watch → Type 0
HoldsAfter first last i o es v = Holds first last i (replay o es).next (replay o es).roster (owed_of o es i) v

module _ (first last : ℕ) (c : Chapter) (l : IsLawfulChapter c) (two : c.opening.rule ≡ CarryRemainders) (i : ℕ) (w : Watch) (start : HoldsAfter first last i c.opening [] w) where
  abbrev after : List Entry → Watch → Type 0
  after es v = HoldsAfter first last i c.opening es v

  -- one more entry
  one_more : (n : ℕ) (e : Entry) (v : Watch) → slice_get c.entries n ≡ Some e → take (suc n) c.entries ≡ take n c.entries ++ e ∷ [] → after (take n c.entries) v →
      after (take (suc n) c.entries) (after_reply first last i (state_before c n) e.event e.reply v)
  one_more n e v at pushed held =
      let s : State = state_before c n in
      let es : List Entry = take n c.entries in
      let rule : s.rule ≡ CarryRemainders = (replay_later c.opening es).rule ∙ two in
      let owed : owed_of c.opening (es ++ e ∷ []) i ≡ (if admits i e.event then 0 else owed_of c.opening es i) + rate_of_reply (input_of s) e.reply i = owed_push c.opening es e i in
      let words : words_since c.opening i (es ++ e ∷ []) ≡ (if admits i e.event then 0 else words_since c.opening i es) + words_of_reply s.roster e.reply i
      = sum_since_push (λ before e. words_of_reply (replay c.opening before).roster e.reply i) i es e in
      let here : words_since c.opening i es ≡ owed_of c.opening es i / 256 = whole_runs c l two n i in
      let next : words_since c.opening i (es ++ e ∷ []) ≡ owed_of c.opening (es ++ e ∷ []) i / 256 = subst (λ es. words_since c.opening i es ≡ owed_of c.opening es i / 256) pushed (whole_runs c l two (suc n) i) in
      let whole : (if admits i e.event then 0 else owed_of c.opening es i) / 256 + words_of_reply s.roster e.reply i ≡ ((if admits i e.event then 0 else owed_of c.opening es i) + rate_of_reply (input_of s) e.reply i) / 256
      = parted (admits i e.event) (owed_of c.opening es i) (words_since c.opening i es) (words_of_reply s.roster e.reply i) (rate_of_reply (input_of s) e.reply i)
      here (sym words ∙ next ∙ ap (λ n. n / 256) owed) in
      let reply : IsReply s e.event e.reply = (l.legal n e at).reply in
      let made = of_reply first last i s (lawful_before c l n).admitted.apart rule (owed_of c.opening es i) v held e.event e.reply reply whole in
      subst (λ es. after es (after_reply first last i s e.event e.reply v)) (sym pushed)
      (subst (λ t. Holds first last i t.next t.roster (owed_of c.opening (es ++ e ∷ []) i) (after_reply first last i s e.event e.reply v)) (sym (replay_push c.opening es e))
      (subst (λ n. Holds first last i (after_entry s e).next (after_entry s e).roster n (after_reply first last i s e.event e.reply v)) (sym owed) made))
    where
      parted : (b : Bool) (owed words word rate : ℕ) → words ≡ owed / 256 → (if b then 0 else words) + word ≡ ((if b then 0 else owed) + rate) / 256 → (if b then 0 else owed) / 256 + word ≡ ((if b then 0 else owed) + rate) / 256
      parted true owed words word rate here next = omega (arith, next)
      parted false owed words word rate here next = omega (arith, here, next)

  abbrev so_far : ℕ → Watch
  so_far n = watch_over first last i c w n

  step : (n : ℕ) (o : Option Entry) → slice_get c.entries n ≡ o → after (take n c.entries) (so_far n) → after (take (suc n) c.entries) (watch_after first last i (state_before c n) o (so_far n))
  step n None at held =
      let end : length c.entries ≤ n = past in
      let all : take n c.entries ≡ c.entries = take_all n c.entries end in
      let more : take (suc n) c.entries ≡ c.entries = take_all (suc n) c.entries (omega (arith, end)) in
      subst (λ es. after es (so_far n)) (all ∙ sym more) held
    where
      past : length c.entries ≤ n
      past = elim (slice_get_cases c.entries n).1 [
        | inl x ↦ absurd (let t : None ≡ Some x.0 = sym at ∙ x.2 in cc)
        | inr x ↦ x.0
      ]
  step n (Some e) at held =
      let lt : n < length c.entries = slice_get_within c.entries n e at in
      let here : get_or c.entries n e ≡ e = get_or_from_slice_get c.entries n e e at in
      let pushed : take (suc n) c.entries ≡ take n c.entries ++ e ∷ []
      = ap (λ k. take k c.entries) (sym (add-one n)) ∙ take_more c.entries n e lt ∙ ap (λ x. take n c.entries ++ x ∷ []) here in
      one_more n e (so_far n) at pushed held

  pub held_after : (n : ℕ) → after (take n c.entries) (so_far n)
  held_after zero = start
  held_after (suc n) = step n (slice_get c.entries n) refl (held_after n)

-- ---- under the rule that drops what whole words leave no map is looked at

module _ (first last : ℕ) (c : Chapter) (one : c.opening.rule ≡ DropRemainders) (i : ℕ) (w : Watch) where
  dropped_reply : (s : State) → s.rule ≡ DropRemainders → (v : Event) (reply : Reply) (old : Watch) → (after_reply first last i s v reply old).sold ≡ old.sold
  dropped_reply s rule v (Map made) old = elim (is_between first last made.frame) as (λ b. (if b then after_map i s made old else old).sold ≡ old.sold) [
    | true ↦ ap (λ rule. (where_carried rule (after_rows i s.roster (rates_of s made.cert) made.map old) old).sold) rule
    | false ↦ refl
  ]
  dropped_reply s rule (Admit r) Taken old = elim (r.alloc_id == i) as (λ b. (if b then restarted old else old).sold ≡ old.sold) [ true ↦ refl | false ↦ refl ]
  dropped_reply s rule (Remove alloc_id) Taken old = elim (alloc_id == i) as (λ b. (if b then restarted old else old).sold ≡ old.sold) [ true ↦ refl | false ↦ refl ]
  dropped_reply s rule v Taken old = refl

  dropped_entry : (s : State) → s.rule ≡ DropRemainders → (o : Option Entry) (old : Watch) → (watch_after first last i s o old).sold ≡ old.sold
  dropped_entry s rule None old = refl
  dropped_entry s rule (Some e) old = dropped_reply s rule e.event e.reply old

  pub dropped : (n : ℕ) → (watch_over first last i c w n).sold ≡ w.sold
  dropped zero = refl
  dropped (suc n) = dropped_entry (state_before c n) ((replay_later c.opening (take n c.entries)).rule ∙ one) (slice_get c.entries n) (watch_over first last i c w n) ∙ dropped n

-- ---- a chapter

-- what was sold was got, and under the rule that carries the debt is part of what whole words leave
pub record Owes (first last i : ℕ) (s : State) (w : Watch) : Type 0 where
  pub got : GotAllSold w.sold
  pub held : s.rule ≡ CarryRemainders → HoldsAfter first last i s [] w

module _ (first last i : ℕ) where
  pub owes_stopped : (s : State) (w : Watch) → GotAllSold w.sold → Owes first last i s (stopped w)
  owes_stopped s w got = record { got = got; held = λ two. held_stopped first last i s.next s.roster (owed_of s [] i) w got }

  -- what the end of a chapter owes is what its carries are
  at_border : (c : Chapter) → IsLawfulChapter c → c.opening.rule ≡ CarryRemainders → (v : Watch) → HoldsAfter first last i c.opening c.entries v → HoldsAfter first last i (present_state c) [] v
  at_border c l two v held = record {
    before = held.before;
    within = λ early. by_row (held.within early) (cases_Bool (has_alloc i (present_state c).roster));
    gone = held.gone;
    fine = held.fine;
  }
    where
      carried : has_alloc i (present_state c).roster ≡ true → number_of (present_state c).roster (present_state c).carries i ≡ owed_of c.opening c.entries i % 256
      carried h =
          let closed : present_state c ≡ closed_form c.opening c.entries = closed_at_present c l in
          ap (λ s. number_of s.roster s.carries i) closed
          ∙ carry_known (carry_after c.opening c.entries) i (roster_of c.opening.roster c.entries) (sym (ap (λ s. has_alloc i s.roster) closed) ∙ h)
          ∙ ap (λ rule. left_over rule (owed_of c.opening c.entries i)) two

      by_row : v.debt ≤ owed_of c.opening c.entries i % 256 → (has_alloc i (present_state c).roster ≡ true) ⊎ (has_alloc i (present_state c).roster ≡ false) → v.debt ≤ (number_of (present_state c).roster (present_state c).carries i + 0) % 256
      by_row small (inl h) = omega (arith, small, carried h)
      by_row small (inr h) = omega (arith, held.gone h)

  -- over a lawful chapter
  pub owes_over : (c : Chapter) → IsLawfulChapter c → (w : Watch) → Owes first last i c.opening w → (n : ℕ) → GotAllSold (watch_over first last i c w n).sold
  owes_over c l w owes n = by_rule c.opening.rule refl
    where
      by_rule : (rule : Rule) → c.opening.rule ≡ rule → GotAllSold (watch_over first last i c w n).sold
      by_rule CarryRemainders two = (held_after first last c l two i w (owes.held two) n).fine.got
      by_rule DropRemainders one = subst GotAllSold (sym (dropped first last c one i w n)) owes.got

  pub owes_after : (c : Chapter) → IsLawfulChapter c → (w : Watch) → Owes first last i c.opening w → Owes first last i (present_state c) (watch_over first last i c w (length c.entries))
  owes_after c l w owes = record {
    got = owes_over c l w owes (length c.entries);
    held = λ two.
        let carries : c.opening.rule ≡ CarryRemainders = sym (replay_later c.opening c.entries).rule ∙ two in
        at_border c l carries (watch_over first last i c w (length c.entries))
        (subst (λ es. HoldsAfter first last i c.opening es (watch_over first last i c w (length c.entries))) (take_all (length c.entries) c.entries (let same : length c.entries ≤ length c.entries = omega arith in same))
        (held_after first last c l carries i w (owes.held carries) (length c.entries)));
  }

pub got_all : (first last : ℕ) (c : Chapter) → IsLawfulChapter c → (i n : ℕ) (w : Watch) → GotAllSold w.sold → GotAllSold (watch_over first last i c (stopped w) n).sold
got_all first last c l i n w got = owes_over first last i c l (stopped w) (owes_stopped first last i c.opening w got) n

-- ---- the chapters of a port

got_none : GotAllSold none_sold
got_none = record { words = omega arith; wait = omega arith }

module _ (first last i : ℕ) where
  abbrev all_after : Chapter → List Chapter → Watch → Watch
  all_after c cs w = watch_all first last i (Some c.number) cs w

  owes_begun : (c d : Chapter) → Follows c d → (w : Watch) → Owes first last i (present_state c) w → Owes first last i d.opening (begun (Some c.number) d.number w)
  owes_begun c d follows w owes = by_number (d.number == c.number + 1) refl
    where
      by_number : (b : Bool) → (d.number == c.number + 1) ≡ b → Owes first last i d.opening (if b then w else stopped w)
      by_number true e = subst (λ s. Owes first last i s w) (sym (follows (eqb-true d.number (c.number + 1) e))) owes
      by_number false e = owes_stopped first last i d.opening w owes.got

  got_after : (c : Chapter) (cs : List Chapter) → GoOn c cs → (w : Watch) → Owes first last i (present_state c) w → GotAllSold (all_after c cs w).sold
  got_after c [] on w owes = owes.got
  got_after c (d ∷ ds) on w owes =
      got_after d ds on.2 (watch_over first last i d (begun (Some c.number) d.number w) (length d.entries))
      (owes_after first last i d on.0 (begun (Some c.number) d.number w) (owes_begun c d on.1 w owes))

  pub got_of_port : (cs : List Chapter) → AreOfPort cs → GotAllSold (watch_all first last i None cs nothing).sold
  got_of_port [] h = got_none
  got_of_port (c ∷ cs) h =
      got_after c cs h.1 (watch_over first last i c (stopped nothing) (length c.entries))
      (owes_after first last i c h.0 (stopped nothing) (owes_stopped first last i c.opening nothing got_none))
