-- A body is that of one chapter.
use Rattle.std.proofs.Common.{◌≡◌, ℕ, ◌<◌, ◌≤◌, ◌||◌, true, false, List, [], ◌∷◌, map, length, get_or, Some, refl, ap, sym, ◌∙◌, subst, arith, inl, inr}
use Rattle.std.specs.Prelude.{◌==◌, All}
use Rattle.std.specs.List.{list_any, zip}
use Rattle.std.proofs.lemmas.Bool.{cases_Bool, cases_lt, eq-eqb, eqb-true, ne_eqb, or_right, or_left}
use Rattle.std.proofs.lemmas.List.Elements.{All-head, All-tail}
use Rattle.pon_admit.specs.declared.row.Row.{Row}
use Rattle.pon_admit.specs.Roster.{has_alloc}
use Rattle.pon_guar.specs.declared.account.Account.{Account}
use Rattle.pon_guar.specs.Book.{AreRising, account_of, alloc_ids, known_report, since_of_account}
use Rattle.pon_guar.proofs.Accounts.{accounts_all, found_each}
use Rattle.pon_state.specs.State.{State}
use Rattle.pon_state.specs.Accounts.{AccountsFor}
use Rattle.pon_history.specs.Chapters.{Chapter, IsLawfulChapter, IsLawfulOpening}
use Rattle.pon_record.specs.declared.row.RawRow.{RawRow}
use Rattle.pon_record.specs.Bodies.{chapter_body, recorded_opening, recorded_row}

-- ---- ascending numbers are known by their members

none_above : (n : ℕ) (ns : List ℕ) → All (λ m. n < m) ns → (i : ℕ) → i ≤ n → list_any (λ j. j == i) ns ≡ false
none_above n [] h i le = refl
none_above n (m ∷ ns) h i le =
    let above : n < m = All-head (λ m. n < m) m ns h in
    ap (λ b. b || list_any (λ j. j == i) ns) (ne_eqb m i (λ e. absurd (omega (arith, e, above, le)))) ∙ none_above n ns (All-tail (λ m. n < m) m ns h) i le

least_in : (n : ℕ) (ns : List ℕ) → list_any (λ j. j == n) (n ∷ ns) ≡ true
least_in n ns = or_left (n == n) (list_any (λ j. j == n) ns) (eq-eqb n n refl)

-- a smaller number than all is not among them
not_least : (m n : ℕ) (ns : List ℕ) → All (λ k. n < k) ns → m < n → list_any (λ j. j == m) (n ∷ ns) ≡ false
not_least m n ns h lt = ap (λ b. b || list_any (λ j. j == m) ns) (ne_eqb n m (λ e. absurd (omega (arith, e, lt)))) ∙ none_above n ns h m (omega (arith, lt))

same_rising : (ms ns : List ℕ) → AreRising ms → AreRising ns → ((i : ℕ) → list_any (λ j. j == i) ms ≡ list_any (λ j. j == i) ns) → ms ≡ ns
same_rising [] [] a b h = refl
same_rising [] (n ∷ ns) a b h = absurd (let t : false ≡ true = h n ∙ least_in n ns in cc)
same_rising (m ∷ ms) [] a b h = absurd (let t : false ≡ true = sym (h m) ∙ least_in m ms in cc)
same_rising (m ∷ ms) (n ∷ ns) a b h =
    let same : m ≡ n = elim (cases_lt m n) [
      | inl lt ↦ absurd (let t : false ≡ true = sym (not_least m n ns b.0 lt) ∙ sym (h m) ∙ least_in m ms in cc)
      | inr ge ↦ elim (cases_lt n m) [
        | inl lt ↦ absurd (let t : false ≡ true = sym (not_least n m ms a.0 lt) ∙ h n ∙ least_in n ns in cc)
        | inr le ↦ omega (arith, ge, le)
      ]
    ] in
    let later : (i : ℕ) → list_any (λ j. j == i) ms ≡ list_any (λ j. j == i) ns = λ i. elim (cases_lt m i) [
      | inl lt ↦ (let skip_m : (m == i) ≡ false = ne_eqb m i (λ e. absurd (omega (arith, e, lt))) in
          let skip_n : (n == i) ≡ false = ne_eqb n i (λ e. absurd (omega (arith, e, lt, same))) in
          sym (ap (λ b. b || list_any (λ j. j == i) ms) skip_m) ∙ h i ∙ ap (λ b. b || list_any (λ j. j == i) ns) skip_n)
      | inr ge ↦ none_above m ms a.0 i (omega (arith, ge)) ∙ sym (none_above n ns b.0 i (omega (arith, ge, same)))
    ] in
    (λ k. same k ∷ same_rising ms ns a.1 b.1 later k)

-- ---- books

-- an account made of what a book has for an Alloc-ID
abbrev pub account_at : List Account → ℕ → Account
account_at book i = record { alloc_id = i; since = since_of_account (account_of book i); counted = known_report (account_of book i) }

rebuilt : (book : List Account) → AreRising (alloc_ids book) → map (account_at book) (alloc_ids book) ≡ book
rebuilt book h = accounts_all (account_at book) book (λ n d l.
    let a : Account = get_or book n d in
    let found : account_of book a.alloc_id ≡ Some a = found_each book h n d l in
    (λ k. record { alloc_id = a.alloc_id; since = since_of_account (found k); counted = known_report (found k) }))

-- books that are recorded alike have the same accounts
agree_at : (rows : List Row) (cs ds : List ℕ) (xs ys : List Account) (i : ℕ) → length cs ≡ length rows → length ds ≡ length rows → map (recorded_row xs) (zip rows cs) ≡ map (recorded_row ys) (zip rows ds) → has_alloc i rows ≡ true → account_at xs i ≡ account_at ys i
agree_at [] cs ds xs ys i m n e h = absurd cc
agree_at (r ∷ rows) [] ds xs ys i m n e h = absurd (omega (arith, m))
agree_at (r ∷ rows) (c ∷ cs) [] xs ys i m n e h = absurd (omega (arith, n))
agree_at (r ∷ rows) (c ∷ cs) (d ∷ ds) xs ys i m n e h =
    let first : recorded_row xs (r, c) ≡ recorded_row ys (r, d) = cc in
    let rest : map (recorded_row xs) (zip rows cs) ≡ map (recorded_row ys) (zip rows ds) = cc in
    elim (cases_Bool (r.alloc_id == i)) [
      | inl t ↦ subst (λ i. account_at xs i ≡ account_at ys i) (eqb-true r.alloc_id i t) (λ k. record { alloc_id = r.alloc_id; since = (first k).since; counted = (first k).counted })
      | inr f ↦ agree_at rows cs ds xs ys i (omega (arith, m)) (omega (arith, n)) rest (sym (ap (λ b. b || has_alloc i rows) f) ∙ h)
    ]

map_members : (f g : ℕ → Account) (ns : List ℕ) → ((i : ℕ) → list_any (λ j. j == i) ns ≡ true → f i ≡ g i) → map f ns ≡ map g ns
map_members f g [] h = refl
map_members f g (n ∷ ns) h = (λ k. h n (least_in n ns) k ∷ map_members f g ns (λ i t. h i (or_right (n == i) (list_any (λ j. j == i) ns) t)) k)

same_book : (rows : List Row) (cs ds : List ℕ) (xs ys : List Account) → length cs ≡ length rows → length ds ≡ length rows → AccountsFor rows xs → AccountsFor rows ys → map (recorded_row xs) (zip rows cs) ≡ map (recorded_row ys) (zip rows ds) → xs ≡ ys
same_book rows cs ds xs ys m n a b e =
    let ids : alloc_ids xs ≡ alloc_ids ys = same_rising (alloc_ids xs) (alloc_ids ys) a.0 b.0 (λ i. a.1 i ∙ sym (b.1 i)) in
    sym (rebuilt xs a.0)
    ∙ map_members (account_at xs) (account_at ys) (alloc_ids xs) (λ i t. agree_at rows cs ds xs ys i m n e (sym (a.1 i) ∙ t))
    ∙ ap (map (account_at ys)) ids
    ∙ rebuilt ys b.0

-- ---- states

abbrev row_again : RawRow → Row
row_again r = record { onu = r.onu; alloc_id = r.alloc_id; descriptor = r.descriptor }

pub rows_back : (book : List Account) (rows : List Row) (carries : List ℕ) → length carries ≡ length rows → map row_again (map (recorded_row book) (zip rows carries)) ≡ rows
rows_back book [] carries e = refl
rows_back book (r ∷ rows) [] e = absurd (omega (arith, e))
rows_back book (r ∷ rows) (c ∷ carries) e = (λ k. r ∷ rows_back book rows carries (omega (arith, e)) k)

pub carries_back : (book : List Account) (rows : List Row) (carries : List ℕ) → length carries ≡ length rows → map (λ (r : RawRow). r.carry) (map (recorded_row book) (zip rows carries)) ≡ carries
carries_back book [] [] e = refl
carries_back book [] (c ∷ carries) e = absurd (omega (arith, e))
carries_back book (r ∷ rows) [] e = absurd (omega (arith, e))
carries_back book (r ∷ rows) (c ∷ carries) e = (λ k. c ∷ carries_back book rows carries (omega (arith, e)) k)

same_states : (n m : ℕ) (s t : State) → IsLawfulOpening n s → IsLawfulOpening m t → recorded_opening s ≡ recorded_opening t → s ≡ t
same_states n m s t l k e =
    let rule : s.rule ≡ t.rule = ap (λ o. o.rule) e in
    let gap : s.gap ≡ t.gap = ap (λ o. o.gap) e in
    let profile : s.profile ≡ t.profile = ap (λ o. o.profile) e in
    let next : s.next ≡ t.next = ap (λ o. o.next) e in
    let cause : s.cause ≡ t.cause = ap (λ o. o.cause) e in
    let taken_before : s.taken_before ≡ t.taken_before = ap (λ o. o.taken_before) e in
    let rows : map (recorded_row s.book) (zip s.roster s.carries) ≡ map (recorded_row t.book) (zip t.roster t.carries) = ap (λ o. o.rows) e in
    let roster : s.roster ≡ t.roster = sym (rows_back s.book s.roster s.carries l.state.carries.count) ∙ ap (map row_again) rows ∙ rows_back t.book t.roster t.carries k.state.carries.count in
    let carries : s.carries ≡ t.carries = sym (carries_back s.book s.roster s.carries l.state.carries.count) ∙ ap (map (λ (r : RawRow). r.carry)) rows ∙ carries_back t.book t.roster t.carries k.state.carries.count in
    let window : s.window ≡ t.window = ap (λ o. o.window) e in
    let book : s.book ≡ t.book = same_book s.roster s.carries t.carries s.book t.book l.state.carries.count (k.state.carries.count ∙ ap length (sym roster))
    l.state.book (subst (λ r. AccountsFor r t.book) (sym roster) k.state.book) (rows ∙ ap (λ r. map (recorded_row t.book) (zip r t.carries)) (sym roster)) in
    (λ i. record {
      rule = rule i;
      gap = gap i;
      profile = profile i;
      next = next i;
      cause = cause i;
      taken_before = taken_before i;
      roster = roster i;
      book = book i;
      carries = carries i;
      window = window i;
    })

pub one_chapter : (p q : ℕ) (c d : Chapter) → IsLawfulChapter c → IsLawfulChapter d → chapter_body p c ≡ chapter_body q d → (p ≡ q) × (c ≡ d)
one_chapter p q c d l k e =
    let number : c.number ≡ d.number = ap (λ b. b.number) e in
    let entries : c.entries ≡ d.entries = ap (λ b. b.entries) e in
    let opening : c.opening ≡ d.opening = same_states c.number d.number c.opening d.opening l.opening k.opening (ap (λ b. b.opening) e) in
    (ap (λ b. b.port) e, (λ i. record { number = number i; opening = opening i; entries = entries i }))
