-- The payload words of a map, beside the capacity.
use Rattle.std.proofs.Common.{◌≡◌, ℕ, suc, ◌+◌, ◌-◌, ◌*◌, ◌/◌, ◌<◌, ◌≤◌, cond, List, [], ◌∷◌, length, map, ap, ◌∙◌, subst, arith, inl, inr, refl}
use Rattle.std.specs.Prelude.{◌⊎◌, Some, slice_get, sum_by}
use Rattle.std.proofs.Math.Nat.{mul-le-mul_left}
use Rattle.std.proofs.lemmas.Bool.{cases_lt}
use Rattle.std.proofs.lemmas.List.Sums.{sum_by-cons}
use Rattle.pon_units.specs.Frac.{Frac}
use Rattle.pon_units.specs.declared.granted.Granted.{Granted}
use Rattle.pon_bwmap.specs.Alloc.{Alloc}
use Rattle.pon_burst.specs.Maps.{structure_of}
use Rattle.pon_descr.specs.declared.class.Class.{Class}
use Rattle.pon_descr.specs.declared.class.Class.TheVariants.{Plain, NonAssured, BestEffort}
use Rattle.pon_admit.specs.declared.row.Row.{Row}
use Rattle.pon_admit.specs.declared.rule.Rule.{Rule}
use Rattle.pon_admit.specs.Roster.{IsAdmitted, capacity}
use Rattle.pon_cert.specs.declared.cert.MapCert.{MapCert}
use Rattle.pon_cert.specs.Certificate.{denominator}
use Rattle.pon_cert.proofs.Fairness.{is_feasible}
use Rattle.pon_demand.specs.ClassShares.{best_effort_surplus}
use Rattle.pon_demand.specs.Input.{Input}
use Rattle.pon_demand.specs.Maps.{map_of}
use Rattle.pon_demand.specs.Rates.{guaranteed_rate, payload, planned_grants}
use Rattle.pon_demand.specs.Sharing.{IsCertified, items, members, rate_in, same_class, spelled_rate, surplus, surplus_rate}
use Rattle.pon_demand.proofs.RosterMaps.{granted_to_row}
use Rattle.pon_state.specs.Entry.{Entry}
use Rattle.pon_state.specs.State.{State, carry_at, input_of}
use Rattle.pon_state.specs.declared.reply.MadeMap.{MadeMap}
use Rattle.pon_state.specs.declared.reply.Reply.TheVariants.{Map}
use Rattle.pon_history.specs.Chapters.{Chapter, IsLawfulChapter, state_before}
use Rattle.pon_history.specs.FairMaps.{IsFairMap, TellsFairMap}
use Rattle.pon_history.proofs.FairMaps.{maps_are_fair}
use Rattle.pon_history.proofs.LawfulChapters.{lawful_before}
use Rattle.pon_laws.specs.Shares.{AssignsAll, GrantsAll, ServesAll, payload_words}
use Rattle.pon_laws.proofs.ClassParts.{served_or_assigned, total}

-- ---- the words of the structures are those of the rows

module _ (s : Input) (surplus : Row → Frac) (carry : Row → ℕ) where
  words_back : (f : Granted → Alloc) → ((g : Granted) → (f g).grant ≡ 1 + g.words) → (rows : List Row) →
      payload_words (map f (map (granted_to_row s surplus carry) rows)) ≡ sum_by (payload s surplus carry) rows
  words_back f one [] = refl
  words_back f one (r ∷ rows) =
      let here : (f (granted_to_row s surplus carry r)).grant ≡ 1 + payload s surplus carry r = one (granted_to_row s surplus carry r) in
      omega (
        arith,
        sum_by-cons (λ (a : Alloc). a.grant - 1) (f (granted_to_row s surplus carry r)) (map f (map (granted_to_row s surplus carry) rows)),
        sum_by-cons (payload s surplus carry) r rows,
        here,
        words_back f one rows,
      )

  map_words : (profile : ℕ) → payload_words (map_of profile s surplus carry) ≡ sum_by (payload s surplus carry) s.roster
  map_words profile = words_back (structure_of s.gap profile (planned_grants s surplus carry)) (λ g. refl) s.roster

-- ---- each Alloc-ID loses less than a word of its rate, over the denominators dn and db of the two classes

row_words : (c g f : ℕ) → g + f + 1 ≤ 256 * ((c + (g + f)) / 256 + 1)
row_words c g f = omega arith

whole_part : (num den : ℕ) → 0 < den → num + 1 ≤ (num / den + 1) * den
whole_part num den h = omega (arith, h)

module _ (dn db : ℕ) (hn : 0 < dn) (hb : 0 < db) (g w sum na be words n : ℕ) (rest : dn * db * sum + db * na + dn * be + n ≤ dn * db * (256 * (words + n))) where
  positive : 1 ≤ dn * db
  positive = let one : 1 ≤ db = omega (arith, hb) in omega (arith, hn, mul-le-mul_left dn one)

  plain_row : g + 0 + 1 ≤ 256 * (w + 1) → dn * db * (g + sum) + db * na + dn * be + suc n ≤ dn * db * (256 * ((w + words) + suc n))
  plain_row h = omega (arith, rest, positive, mul-le-mul_left (dn * db) h)

  na_row : (num q : ℕ) → g + q + 1 ≤ 256 * (w + 1) → num + 1 ≤ (q + 1) * dn → dn * db * (g + sum) + db * (num + na) + dn * be + suc n ≤ dn * db * (256 * ((w + words) + suc n))
  na_row num q h part = omega (arith, rest, hb, mul-le-mul_left (dn * db) h, mul-le-mul_left db part)

  be_row : (num q : ℕ) → g + q + 1 ≤ 256 * (w + 1) → num + 1 ≤ (q + 1) * db → dn * db * (g + sum) + db * na + dn * (num + be) + suc n ≤ dn * db * (256 * ((w + words) + suc n))
  be_row num q h part = omega (arith, rest, hn, mul-le-mul_left (dn * db) h, mul-le-mul_left dn part)

module _ (s : Input) (cert : MapCert) (carry : Row → ℕ) (k : IsAdmitted s.rule s.gap s.roster) (c : IsCertified s cert) where
  abbrev dn : ℕ
  dn = denominator cert.na.level

  abbrev db : ℕ
  db = denominator cert.be.level

  hn : 0 < dn
  hn = (is_feasible (items NonAssured s) (surplus s) cert.na c.non_assured).has_over

  hb : 0 < db
  hb = (is_feasible (items BestEffort s) (best_effort_surplus s cert) cert.be c.best_effort).has_over

  abbrev na_of : Row → ℕ
  na_of r = (spelled_rate s NonAssured cert.na r).num

  abbrev be_of : Row → ℕ
  be_of r = (spelled_rate s BestEffort cert.be r).num

  abbrev words_of : Row → ℕ
  words_of = payload s (surplus_rate s cert) carry

  -- the whole part of the surplus rate of a row in a class, and the words of the row
  abbrev whole : Row → Class → ℕ
  whole r class = (rate_in class (spelled_rate s NonAssured cert.na r) (spelled_rate s BestEffort cert.be r)).num / (rate_in class (spelled_rate s NonAssured cert.na r) (spelled_rate s BestEffort cert.be r)).den

  abbrev words_in : Row → Class → ℕ
  words_in r class = (carry r + (guaranteed_rate s r + whole r class)) / 256

  abbrev IsRowSum : List Row → Type 0
  IsRowSum rows = dn * db * sum_by (guaranteed_rate s) rows + db * sum_by na_of (members NonAssured rows) + dn * sum_by be_of (members BestEffort rows) + length rows
      ≤ dn * db * (256 * (sum_by words_of rows + length rows))

  one_more : (r : Row) (rows : List Row) (class : Class) → IsRowSum rows →
      dn * db * (guaranteed_rate s r + sum_by (guaranteed_rate s) rows)
      + db * sum_by na_of (cond (same_class class NonAssured) (r ∷ members NonAssured rows) (members NonAssured rows))
      + dn * sum_by be_of (cond (same_class class BestEffort) (r ∷ members BestEffort rows) (members BestEffort rows))
      + suc (length rows)
      ≤ dn * db * (256 * ((words_in r class + sum_by words_of rows) + suc (length rows)))
  one_more r rows Plain rest =
      plain_row dn db hn hb (guaranteed_rate s r) (words_in r Plain) (sum_by (guaranteed_rate s) rows) (sum_by na_of (members NonAssured rows)) (sum_by be_of (members BestEffort rows)) (sum_by words_of rows) (length rows) rest
      (row_words (carry r) (guaranteed_rate s r) 0)
  one_more r rows NonAssured rest = rw (sum_by-cons na_of r (members NonAssured rows))
      (na_row dn db hn hb (guaranteed_rate s r) (words_in r NonAssured) (sum_by (guaranteed_rate s) rows) (sum_by na_of (members NonAssured rows)) (sum_by be_of (members BestEffort rows)) (sum_by words_of rows) (length rows) rest
      (na_of r) (whole r NonAssured) (row_words (carry r) (guaranteed_rate s r) (whole r NonAssured)) (whole_part (na_of r) dn hn))
  one_more r rows BestEffort rest = rw (sum_by-cons be_of r (members BestEffort rows))
      (be_row dn db hn hb (guaranteed_rate s r) (words_in r BestEffort) (sum_by (guaranteed_rate s) rows) (sum_by na_of (members NonAssured rows)) (sum_by be_of (members BestEffort rows)) (sum_by words_of rows) (length rows) rest
      (be_of r) (whole r BestEffort) (row_words (carry r) (guaranteed_rate s r) (whole r BestEffort)) (whole_part (be_of r) db hb))

  rows_words : (rows : List Row) → IsRowSum rows
  rows_words [] = omega arith
  rows_words (r ∷ rows) = rw (sum_by-cons (guaranteed_rate s) r rows, sum_by-cons words_of r rows) (one_more r rows r.descriptor.class (rows_words rows))

  -- if all of the capacity is assigned, what the words leave of it is less than a word for each Alloc-ID
  assigned_words : AssignsAll s cert → dn * db * (256 * capacity s.rule s.gap s.roster) + length s.roster ≤ dn * db * (256 * (sum_by words_of s.roster + length s.roster))
  assigned_words all =
      omega (
        arith,
        all,
        rows_words s.roster,
        ap (λ (n : ℕ). db * n) (total s NonAssured cert.na (surplus s) k c.non_assured),
        ap (λ (n : ℕ). dn * n) (total s BestEffort cert.be (best_effort_surplus s cert) k c.best_effort),
      )

-- without Alloc-IDs nothing is granted, and a frame has words
no_words : (f : Row → ℕ) (rule : Rule) (gap : ℕ) (rows : List Row) → length rows ≡ 0 → sum_by f rows < capacity rule gap rows
no_words f rule gap [] h = omega arith
no_words f rule gap (r ∷ rows) h = absurd (omega (arith, h))

less_than_a_word_each : (d c w n : ℕ) → 0 < d → (n ≡ 0 → w < c) → d * (256 * c) + n ≤ d * (256 * (w + n)) → c < w + n
less_than_a_word_each d c w n h none le = elim (cases_lt c (w + n)) [
  | inl lt ↦ lt
  | inr ge ↦
      let zero_of : n ≡ 0 = omega (arith, le, mul-le-mul_left (d * 256) ge) in
      let more : suc w ≤ c = omega (arith, none zero_of) in
      absurd (omega (arith, le, zero_of, h, mul-le-mul_left (d * 256) more, ap (λ (n : ℕ). d * n) zero_of))
]

pub granted_or_served : (c : Chapter) → IsLawfulChapter c → (k : ℕ) (e : Entry) (made : MadeMap) → slice_get c.entries k ≡ Some e → e.reply ≡ Map made →
    ServesAll (input_of (state_before c k)) made.cert ⊎ GrantsAll (state_before c k) made
granted_or_served c l k e made at is =
    let s : State = state_before c k in
    let fair : IsFairMap s made = subst (TellsFairMap s) is (maps_are_fair c l k e at) in
    let admitted : IsAdmitted s.rule s.gap s.roster = (lawful_before c l k).admitted in
    elim (served_or_assigned (input_of s) made.cert admitted fair.certificate) [
      | inl served ↦ inl served
      | inr assigned ↦
          let words : payload_words made.map ≡ sum_by (payload (input_of s) (surplus_rate (input_of s) made.cert) (carry_at s)) s.roster
          = ap payload_words fair.map ∙ map_words (input_of s) (surplus_rate (input_of s) made.cert) (carry_at s) s.profile in
          let n : 0 < denominator made.cert.na.level = hn (input_of s) made.cert (carry_at s) admitted fair.certificate in
          let b : 1 ≤ denominator made.cert.be.level = (let h = hb (input_of s) made.cert (carry_at s) admitted fair.certificate in omega (arith, h)) in
          let d : 0 < denominator made.cert.na.level * denominator made.cert.be.level = omega (arith, n, mul-le-mul_left (denominator made.cert.na.level) b) in
          let room = less_than_a_word_each (denominator made.cert.na.level * denominator made.cert.be.level) (capacity s.rule s.gap s.roster)
          (sum_by (payload (input_of s) (surplus_rate (input_of s) made.cert) (carry_at s)) s.roster) (length s.roster) d (no_words (payload (input_of s) (surplus_rate (input_of s) made.cert) (carry_at s)) s.rule s.gap s.roster)
          (assigned_words (input_of s) made.cert (carry_at s) admitted fair.certificate assigned) in
          inr (omega (arith, room, words))
    ]
