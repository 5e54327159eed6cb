-- The openings of chapters fit the format of recordings.
use Rattle.std.proofs.Common.{◌≡◌, ℕ, ◌^◌, ◌<◌, ◌≤◌, Bool, true, false, cond, eqb, leb, not, ◌&&◌, List, [], ◌∷◌, map, length, get_or, Option, Some, None, refl, ap, sym, subst, arith}
use Rattle.std.specs.Prelude.{◌==◌, All, IfSome, filter}
use Rattle.std.specs.List.{AllByRecursion, list_any, zip}
use Rattle.std.proofs.lemmas.Bool.{le-leb, ne_eqb}
use Rattle.std.proofs.lemmas.List.{length-map}
use Rattle.std.proofs.lemmas.List.Elements.{All-nil, All-cons, All-head, All-tail, All-filter, All-map, All-weaker, recursion_from_All}
use Rattle.std.proofs.lemmas.List.Sums.{count_by-le-length, length-filter}
use Rattle.std.proofs.lemmas.Slice.Zip.{length-zip}
use Rattle.pon_units.specs.declared.limits.TheConstants.{FRAME_WORDS, MAX_OCCUPANCY}
use Rattle.pon_units.specs.declared.granted.Granted.{Granted}
use Rattle.pon_lists.specs.Distinct.{distinct}
use Rattle.pon_admit.specs.declared.row.Row.{Row}
use Rattle.pon_admit.specs.declared.rule.Rule.{Rule}
use Rattle.pon_admit.specs.declared.rule.Rule.TheVariants as rule
use Rattle.pon_admit.specs.Roster.{IsInRange, max_allocs, max_carry, rule_in_force}
use Rattle.pon_guar.specs.declared.account.Account.{Account}
use Rattle.pon_guar.specs.declared.account.Counted.{Counted}
use Rattle.pon_guar.specs.Book.{account_of, known_report, since_of_account}
use Rattle.pon_guar.specs.Window.{IsLawfulMap, WindowMap, onus_polled}
use Rattle.pon_guar.proofs.Frames.{leads_below}
use Rattle.pon_state.specs.State.{State}
use Rattle.pon_history.specs.Chapters.{IsLawfulOpening}
use Rattle.pon_state.specs.LawfulStates.{AccountIsLawful, CountedIsLawful}
use Rattle.pon_state.specs.Ranges.{AreGrantsInRange, IsGrantInRange, IsStateInRange}
use Rattle.pon_record.specs.declared.version.Version.TheVariants as version
use Rattle.pon_record.specs.Fields.{carry_in, failure, onu_id, report, rule_in}
use Rattle.pon_record.specs.Openings.{grant, opening_in, row_in, window_map_under}
use Rattle.pon_record.proofs.Sizes.{few_allocs}
use Rattle.pon_record.specs.Bodies.{FitsCounts, FitsWindowMap, recorded_opening, recorded_row}
use Rattle.pon_record.proofs.FitEvents.{alloc_fits, between, descriptor_fits, onu_fits, passes}

-- ---- rows

failure_fits : (o : Option ℕ) → IfSome o (λ c. (1 ≤ c) × (c ≤ 9)) → failure.Fits o
failure_fits None h = (omega arith, refl)
failure_fits (Some c) h =
    let other : eqb c 0 ≡ false = ne_eqb c 0 (λ e. absurd (omega (arith, e, h.0))) in
    let within : leb c 9 ≡ true = le-leb c 9 h.1 in
    (omega (arith, h.1), rw (other, within) refl)

-- a counted report fits the format
abbrev FitsCounted : Counted → Type 0
FitsCounted c = (c.frame < 2 ^ 64) × (c.words ≤ MAX_OCCUPANCY)

report_fits : (o : Option Counted) → IfSome o FitsCounted → report.Fits o
report_fits None h = ((omega arith, (omega arith, omega arith)), refl)
report_fits (Some c) h =
    let within : leb c.words MAX_OCCUPANCY ≡ true = le-leb c.words MAX_OCCUPANCY h.1 in
    ((omega arith, (h.0, omega (arith, h.1))), rw within refl)

-- an account fits the format
abbrev FitsAccount : Account → Type 0
FitsAccount a = (a.since < 2 ^ 64) × IfSome a.counted FitsCounted

abbrev FitsKnown : Option Account → Type 0
FitsKnown o = (since_of_account o < 2 ^ 64) × report.Fits (known_report o)

known_fits : (book : List Account) (i : ℕ) → All FitsAccount book → FitsKnown (account_of book i)
known_fits [] i h = (omega arith, report_fits None tt)
known_fits (a ∷ book) i h = elim (a.alloc_id == i) as (λ b. FitsKnown (cond b (Some a) (account_of book i))) [
  | true ↦ (let f = All-head FitsAccount a book h in (f.0, report_fits a.counted f.1))
  | false ↦ known_fits book i (All-tail FitsAccount a book h)
]

counted_fits : (s : State) (a : Account) (o : Option Counted) → s.next < 2 ^ 64 → IfSome o (CountedIsLawful s a) → IfSome o (λ c. c.words ≤ MAX_OCCUPANCY) → IfSome o FitsCounted
counted_fits s a None n l w = tt
counted_fits s a (Some c) n l w = (omega (arith, l.not_late, n), w)

accounts_fit : (s : State) → s.next < 2 ^ 64 → All (AccountIsLawful s) s.book → All (λ a. IfSome a.counted (λ c. c.words ≤ MAX_OCCUPANCY)) s.book → All FitsAccount s.book
accounts_fit s n l w i d lt =
    let a : Account = get_or s.book i d in
    let lawful : AccountIsLawful s a = l i d lt in
    (omega (arith, lawful.since, n), counted_fits s a a.counted n lawful.counted (w i d lt))

small_carries : (r : Rule) → max_carry r ≤ 255
small_carries rule.DropRemainders = omega arith
small_carries rule.CarryRemainders = omega arith

carry_fits : (r : Rule) (n : ℕ) → n ≤ max_carry r → (carry_in version.Two r).Fits n
carry_fits r n le = (omega (arith, le, small_carries r), passes (λ (k : ℕ). leb k (max_carry r)) n (le-leb n (max_carry r) le))

row_fits : (rule : Rule) (book : List Account) (r : Row) (carry : ℕ) → All FitsAccount book → IsInRange r → carry ≤ max_carry rule → (row_in version.Two rule).Fits (recorded_row book (r, carry))
row_fits rule book r carry h k le =
    let known : FitsKnown (account_of book r.alloc_id) = known_fits book r.alloc_id h in
    ((onu_fits r.onu k.onu, (alloc_fits r.alloc_id k.managed k.alloc_id, (descriptor_fits r.descriptor k.descriptor, (known.0, (known.1, carry_fits rule carry le))))), refl)

rows_fit : (rule : Rule) (book : List Account) (rows : List Row) (carries : List ℕ) → All FitsAccount book → All IsInRange rows → All (λ c. c ≤ max_carry rule) carries
    → AllByRecursion (row_in version.Two rule).Fits (map (recorded_row book) (zip rows carries))
rows_fit rule book [] carries h k l = tt
rows_fit rule book (r ∷ rows) [] h k l = tt
rows_fit rule book (r ∷ rows) (c ∷ carries) h k l = (
  row_fits rule book r c h (All-head IsInRange r rows k) (All-head (λ c. c ≤ max_carry rule) c carries l),
  rows_fit rule book rows carries h (All-tail IsInRange r rows k) (All-tail (λ c. c ≤ max_carry rule) c carries l),
)

-- ---- maps of the window

grant_fits : (g : Granted) → IsGrantInRange g → grant.Fits g
grant_fits g k =
    ((onu_fits g.onu k.onu, (alloc_fits g.alloc_id k.managed k.alloc_id, (omega (arith, k.words), passes (λ (n : ℕ). leb n FRAME_WORDS) g.words (le-leb g.words FRAME_WORDS k.words)))), refl)

-- what all numbers have, the distinct ones have
All-distinct : (P : ℕ → Type 0) (ns : List ℕ) → All P ns → All P (distinct ns)
All-distinct P [] h = All-nil P
All-distinct P (n ∷ ns) h = All-cons P n (filter (λ m. not (m == n)) (distinct ns)) (All-head P n ns h)
    (All-filter (λ m. not (m == n)) P (distinct ns) (All-distinct P ns (All-tail P n ns h)))

module _ (m : WindowMap) (g : AreGrantsInRange m.grants) (l : IsLawfulMap m) where
  few_reported : length m.reported ≤ 128
  few_reported =
      let p : ℕ → Bool = λ u. list_any (λ v. v == u) m.reported in
      omega (arith, ap length l.reported, length-filter p (onus_polled m), count_by-le-length p (onus_polled m), g.few_onus)

  reported_fit : AllByRecursion onu_id.Fits m.reported
  reported_fit = recursion_from_All onu_id.Fits m.reported (subst (All onu_id.Fits) (sym l.reported)
      (All-filter (λ u. list_any (λ v. v == u) m.reported) onu_id.Fits (onus_polled m)
      (All-distinct onu_id.Fits (map (λ g. g.onu) m.grants)
      (All-map onu_id.Fits (λ g. g.onu) m.grants (All-weaker IsGrantInRange (λ g. onu_id.Fits g.onu) (λ g k. onu_fits g.onu k.onu) m.grants g.each)))))

  pub counts_fit : FitsWindowMap m
  counts_fit = record { grants = omega (arith, g.few, few_allocs rule_in_force); reported = omega (arith, few_reported) }

  map_fits : (r : Rule) → length m.grants ≤ max_allocs r → m.frame < 2 ^ 64 → (window_map_under r).Fits m
  map_fits r few lt = (
    (
      lt,
      (
        (omega (arith, few, few_allocs r), few, recursion_from_All grant.Fits m.grants (All-weaker IsGrantInRange grant.Fits grant_fits m.grants g.each)),
        (omega (arith, few_reported), omega (arith, few_reported), reported_fit),
      ),
    ),
    refl,
  )

-- ---- openings

module _ (n : ℕ) (s : State) (l : IsLawfulOpening n s) (h : IsStateInRange s) where
  pub opening_counts : FitsCounts s
  opening_counts = record {
    rows = omega (arith, l.state.admitted.few_allocs, few_allocs s.rule);
    carries = l.state.carries.count;
    maps = λ i d lt. counts_fit (get_or s.window i d) (h.maps i d lt) (l.state.maps i d lt);
  }

  maps_fit : All (window_map_under s.rule).Fits s.window
  maps_fit i d lt =
      let m : WindowMap = get_or s.window i d in
      let below : m.frame < s.next = leads_below s.next s.window l.state.frames i d lt in
      let few : length m.grants ≤ max_allocs s.rule = subst (λ r. length m.grants ≤ max_allocs r) (sym h.rule) (h.maps i d lt).few in
      map_fits m (h.maps i d lt) (l.state.maps i d lt) s.rule few (omega (arith, below, l.state.numbers.next))

  pub opening_fits : (opening_in version.Two s.rule).Fits (recorded_opening s)
  opening_fits =
      let pairs = zip s.roster s.carries in
      let many : length (map (recorded_row s.book) pairs) ≡ length s.roster
      = omega (arith, length-map pairs (recorded_row s.book), length-zip s.roster s.carries, l.state.carries.count) in
      let few : length s.roster ≤ max_allocs s.rule = l.state.admitted.few_allocs in (
        (
          (omega (arith, l.state.numbers.longest_gap), passes (λ (n : ℕ). leb 1 n && leb n 256) s.gap (between 1 s.gap 256 l.state.numbers.shortest_gap l.state.numbers.longest_gap)),
          (
            (omega (arith, l.state.numbers.profile), passes (λ (n : ℕ). leb n 3) s.profile (le-leb s.profile 3 l.state.numbers.profile)),
            (
              failure_fits s.cause h.cause,
              (
                l.state.numbers.next,
                (
                  l.state.numbers.taken_before,
                  (
                    (
                      omega (arith, many, few, few_allocs s.rule),
                      omega (arith, many, few),
                      rows_fit s.rule s.book s.roster s.carries (accounts_fit s l.state.numbers.next l.state.accounts h.reports) l.state.admitted.in_range l.state.carries.range,
                    ),
                    (omega (arith, l.state.few_maps), l.state.few_maps, recursion_from_All (window_map_under s.rule).Fits s.window maps_fit),
                  ),
                ),
              ),
            ),
          ),
        ),
        refl,
      )

pub rule_fits : (r : Rule) → (rule_in version.Two).Fits r
rule_fits rule.DropRemainders = (omega arith, refl)
rule_fits rule.CarryRemainders = (omega arith, refl)
