-- The opening of a recorded chapter: its rows as an admitted set and as accounts, its window, and the state of all these.
use Rattle.std.proofs.Common.{◌≡◌, ℕ, zero, suc, ◌+◌, ◌<◌, ◌≤◌, ◌||◌, ◌&&◌, Bool, true, false, cond, not, List, [], ◌∷◌, ◌++◌, map, length, take, drop, get_or, refl, ap, sym, ◌∙◌, subst, append_assoc, arith, inl, inr}
use Rattle.std.specs.Prelude.{◌==◌, nat_lt, filter, All, Contains, IfSome, Option, Some, None}
use Rattle.std.specs.List.{list_any}
use Rattle.std.specs.Option.{is_some}
use Rattle.std.proofs.lemmas.Bool.{and_from, and_parts, cases_Bool, eq-eqb, eqb-true, or_cases, or_left, or_parts, or_right}
use Rattle.std.proofs.lemmas.List.{append-nil, get_or-map, length-map, map-append, take-append-drop, take_more}
use Rattle.std.proofs.lemmas.List.Elements.{All-nil, All-cons, All-append, All-filter, All-head, All-map, All-tail, All-weaker}
use Rattle.pon_units.specs.declared.granted.Granted.{Granted}
use Rattle.pon_descr.specs.declared.refusal.Refusal.{Refusal}
use Rattle.pon_lists.proofs.Lists.{All-front, All-middle, All-unmap, list_any-map}
use Rattle.pon_lists.specs.Order.{IsInOrder}
use Rattle.pon_lists.proofs.Order.{in_order-sides, in_order-front, in_order-unmap}
use Rattle.pon_admit.specs.declared.row.Row.{Row}
use Rattle.pon_admit.specs.declared.rule.Rule.{Rule}
use Rattle.pon_admit.specs.Roster.{IsAdmitted, IsDistinct, IsInMapOrder, IsInRange, comes_before, has_alloc, max_carry, refuses_admit, with_row, without}
use Rattle.pon_admit.proofs.AdmittedSets.{admit_keeps, before_from, precedes, remove_keeps}
use Rattle.pon_admit.proofs.RefusedSets.{refused_admission}
use Rattle.pon_guar.specs.declared.account.Account.{Account}
use Rattle.pon_guar.specs.declared.account.Counted.{Counted}
use Rattle.pon_guar.specs.Book.{account_of, alloc_ids, known_since}
use Rattle.pon_guar.specs.Parts.{AreApart, AreParts, book_from}
use Rattle.pon_guar.proofs.Accounts.{account_is, found_each}
use Rattle.pon_guar.proofs.RestoredParts.{account_any, book_ids, book_rises}
use Rattle.pon_guar.specs.Window.{WindowMap}
use Rattle.pon_guar.proofs.Frames.{leads_after}
use Rattle.pon_state.specs.State.{State}
use Rattle.pon_state.specs.Accounts.{AccountsFor}
use Rattle.pon_history.specs.Chapters.{IsJustOpened, IsLawfulOpening, OpensFirst}
use Rattle.pon_state.specs.LawfulStates.{AccountIsLawful, CountedIsLawful, HasNumbersInRange, IsSilent, Owns}
use Rattle.pon_record.specs.declared.row.RawRow.{RawRow}
use Rattle.pon_record.specs.Openings.{Opening}
use Rattle.pon_audit.specs.Openings.{AreQuiet, Fits, GrantIsOwned, IsBare, MapIsOwned, ReportIsLawful, RowIsLawful, accounts_of, admitted_row, has_row, roster_of, row_account, state_of}

-- The front of an admitted set is an admitted set.

apart_from_last : (rows : List Row) (r : Row) → IsDistinct (rows ++ r ∷ []) → without r.alloc_id (rows ++ r ∷ []) ≡ rows
apart_from_last [] r h = ap (λ b. cond (not b) (r ∷ []) []) (eq-eqb r.alloc_id r.alloc_id refl)
apart_from_last (q ∷ rows) r h =
    let other : (q.alloc_id == r.alloc_id) ≡ false = not_there q rows h.0 in
    ap (λ b. cond (not b) (q ∷ without r.alloc_id (rows ++ r ∷ [])) (without r.alloc_id (rows ++ r ∷ []))) other ∙ ap (λ t. q ∷ t) (apart_from_last rows r h.1)
  where
    not_there : (q : Row) (rows : List Row) → has_alloc q.alloc_id (rows ++ r ∷ []) ≡ false → (q.alloc_id == r.alloc_id) ≡ false
    not_there q [] h = elim (cases_Bool (q.alloc_id == r.alloc_id)) [
      | inl e ↦ absurd (let t : true ≡ false = sym (eq-eqb r.alloc_id q.alloc_id (sym (eqb-true q.alloc_id r.alloc_id e))) ∙ (or_parts (r.alloc_id == q.alloc_id) false h).0 in cc)
      | inr e ↦ e
    ]
    not_there q (p ∷ rows) h = not_there q rows (or_parts (p.alloc_id == q.alloc_id) (has_alloc q.alloc_id (rows ++ r ∷ [])) h).1

admitted_front : (rule : Rule) (gap : ℕ) (xs ys : List Row) → IsAdmitted rule gap (xs ++ ys) → IsAdmitted rule gap xs
admitted_front rule gap xs [] k = subst (IsAdmitted rule gap) (append-nil xs) k
admitted_front rule gap xs (y ∷ ys) k =
    let more : IsAdmitted rule gap (xs ++ y ∷ []) = admitted_front rule gap (xs ++ y ∷ []) ys (subst (IsAdmitted rule gap) (sym (append_assoc xs (y ∷ []) ys)) k) in
    subst (IsAdmitted rule gap) (apart_from_last xs y more.apart) (remove_keeps rule gap (xs ++ y ∷ []) y.alloc_id more)

-- a row that comes after all others is inserted at the end
inserted_last : (rows : List Row) (r : Row) → All (λ s. comes_before s r ≡ true) rows → with_row r rows ≡ rows ++ r ∷ []
inserted_last rows r h = (λ j. passing rows h j ++ r ∷ failing rows h j)
  where
    passing : (rows : List Row) → All (λ s. comes_before s r ≡ true) rows → filter (λ s. comes_before s r) rows ≡ rows
    passing [] h = refl
    passing (q ∷ rows) h = ap (λ b. cond b (q ∷ filter (λ s. comes_before s r) rows) (filter (λ s. comes_before s r) rows)) (All-head (λ s. comes_before s r ≡ true) q rows h)
        ∙ ap (λ t. q ∷ t) (passing rows (All-tail (λ s. comes_before s r ≡ true) q rows h))

    failing : (rows : List Row) → All (λ s. comes_before s r ≡ true) rows → filter (λ s. not (comes_before s r)) rows ≡ []
    failing [] h = refl
    failing (q ∷ rows) h = ap (λ b. cond (not b) (q ∷ filter (λ s. not (comes_before s r)) rows) (filter (λ s. not (comes_before s r)) rows)) (All-head (λ s. comes_before s r ≡ true) q rows h)
        ∙ failing rows (All-tail (λ s. comes_before s r ≡ true) q rows h)

-- the refusal that a check returned, if it did
pub some_told : (q : Option Refusal) → is_some q ≡ true → (why : Refusal) × (q ≡ Some why)
some_told None e = absurd cc
some_told (Some why) e = (why, refl)

pub none_told : (q : Option Refusal) → is_some q ≡ false → q ≡ None
none_told None e = refl
none_told (Some why) e = absurd cc

-- rows in map order, and their rows of the roster
abbrev pub RowsInOrder : List RawRow → Type 0
RowsInOrder rows = IsInOrder (λ r s. comes_before (admitted_row r) (admitted_row s) ≡ true) rows

pub order_trans : (r s t : RawRow) → comes_before (admitted_row r) (admitted_row s) ≡ true → comes_before (admitted_row s) (admitted_row t) ≡ true → comes_before (admitted_row r) (admitted_row t) ≡ true
order_trans r s t h k = before_from (admitted_row r) (admitted_row t) (elim (precedes (admitted_row r) (admitted_row s) h) [
  | inl a ↦ elim (precedes (admitted_row s) (admitted_row t) k) [ inl b ↦ inl (omega (arith, a, b)) | inr b ↦ inl (omega (arith, a, b.0)) ]
  | inr a ↦ elim (precedes (admitted_row s) (admitted_row t) k) [ inl b ↦ inl (omega (arith, a.0, b)) | inr b ↦ inr (omega (arith, a.0, b.0), omega (arith, a.1, b.1)) ]
])

pub roster_in_order : (rows : List RawRow) → RowsInOrder rows → IsInMapOrder (map admitted_row rows)
roster_in_order [] h = tt
roster_in_order (r ∷ rows) h = (All-map (λ s. comes_before (admitted_row r) s ≡ true) admitted_row rows h.0, roster_in_order rows h.1)

pub rows_in_order : (rows : List RawRow) → IsInMapOrder (map admitted_row rows) → RowsInOrder rows
rows_in_order rows h = in_order-unmap (λ r s. comes_before r s ≡ true) admitted_row rows h

-- Rows admitted one after another.
module _ (rule : Rule) (gap : ℕ) (all : List RawRow) (i : ℕ) (raw : RawRow) (lt : i < length all) (is : raw ≡ get_or all i raw) (order : IsInMapOrder (map admitted_row all)) where
  abbrev before : List Row
  before = map admitted_row (take i all)

  more : map admitted_row (take (i + 1) all) ≡ before ++ admitted_row raw ∷ []
  more = ap (map admitted_row) (take_more all i raw lt ∙ ap (λ r. take i all ++ r ∷ []) (sym is)) ∙ map-append admitted_row (take i all) (raw ∷ [])

  whole : map admitted_row all ≡ (before ++ admitted_row raw ∷ []) ++ map admitted_row (drop (i + 1) all)
  whole = ap (map admitted_row) (sym (take-append-drop (i + 1) all)) ∙ map-append admitted_row (take (i + 1) all) (drop (i + 1) all) ∙ ap (λ t. t ++ map admitted_row (drop (i + 1) all)) more

  in_front : All (λ s. comes_before s (admitted_row raw) ≡ true) before
  in_front = (in_order-sides (λ r s. comes_before r s ≡ true) (admitted_row raw) before []
      (in_order-front (λ r s. comes_before r s ≡ true) (before ++ admitted_row raw ∷ []) (map admitted_row (drop (i + 1) all)) (subst IsInMapOrder whole order))).0

  pub row_last : with_row (admitted_row raw) before ≡ map admitted_row (take (i + 1) all)
  row_last = inserted_last before (admitted_row raw) in_front ∙ sym more

  pub one_more_admitted : IsInRange (admitted_row raw) → refuses_admit rule gap before (admitted_row raw) ≡ None → IsAdmitted rule gap before → IsAdmitted rule gap (map admitted_row (take (i + 1) all))
  one_more_admitted range none k = subst (IsAdmitted rule gap) row_last (admit_keeps rule gap before (admitted_row raw) none range k)

  pub not_admitted : (why : Refusal) → refuses_admit rule gap before (admitted_row raw) ≡ Some why → IsAdmitted rule gap (map admitted_row all) → ⊥
  not_admitted why refused k =
      let one : IsAdmitted rule gap (before ++ admitted_row raw ∷ []) = admitted_front rule gap (before ++ admitted_row raw ∷ []) (map admitted_row (drop (i + 1) all)) (subst (IsAdmitted rule gap) whole k) in
      refused_admission rule gap before (admitted_row raw) why (admitted_front rule gap before (admitted_row raw ∷ []) one) refused
      (subst (IsAdmitted rule gap) (sym (inserted_last before (admitted_row raw) in_front)) one)

-- The accounts of the rows.

-- what all accounts have, the book has, and the other way round
pub book_all : (P : Account → Type 0) (accounts : List Account) → All P accounts → All P (book_from accounts)
book_all P [] h = h
book_all P (a ∷ accounts) h =
    let rest : All P (book_from accounts) = book_all P accounts (All-tail P a accounts h) in
    All-append P (filter (λ b. nat_lt b.alloc_id a.alloc_id) (book_from accounts)) (a ∷ filter (λ b. not (nat_lt b.alloc_id a.alloc_id)) (book_from accounts))
    (All-filter (λ b. nat_lt b.alloc_id a.alloc_id) P (book_from accounts) rest)
    (All-cons P a (filter (λ b. not (nat_lt b.alloc_id a.alloc_id)) (book_from accounts)) (All-head P a accounts h) (All-filter (λ b. not (nat_lt b.alloc_id a.alloc_id)) P (book_from accounts) rest))

pub accounts_all : (P : Account → Type 0) (accounts : List Account) → All P (book_from accounts) → All P accounts
accounts_all P [] h = h
accounts_all P (a ∷ accounts) h =
    let p : Account → Bool = λ b. nat_lt b.alloc_id a.alloc_id in
    let xs : List Account = filter p (book_from accounts) in
    let ys : List Account = filter (λ b. not (p b)) (book_from accounts) in
    All-cons P a accounts (All-middle P xs ys a h)
    (accounts_all P accounts (both_parts p (book_from accounts) (All-front P xs (a ∷ ys) h) (All-tail P a ys (back xs (a ∷ ys) h))))
  where
    back : (xs ys : List Account) → All P (xs ++ ys) → All P ys
    back [] ys h = h
    back (x ∷ xs) ys h = back xs ys (All-tail P x (xs ++ ys) h)

    both_parts : (p : Account → Bool) (xs : List Account) → All P (filter p xs) → All P (filter (λ b. not (p b)) xs) → All P xs
    both_parts p [] h k = h
    both_parts p (x ∷ xs) h k = elim (cases_Bool (p x)) [
      | inl e ↦
          let one : All P (x ∷ filter p xs) = subst (λ b. All P (cond b (x ∷ filter p xs) (filter p xs))) e h in
          let two : All P (filter (λ b. not (p b)) xs) = subst (λ b. All P (cond (not b) (x ∷ filter (λ b. not (p b)) xs) (filter (λ b. not (p b)) xs))) e k in
          All-cons P x xs (All-head P x (filter p xs) one) (both_parts p xs (All-tail P x (filter p xs) one) two)
      | inr e ↦
          let one : All P (filter p xs) = subst (λ b. All P (cond b (x ∷ filter p xs) (filter p xs))) e h in
          let two : All P (x ∷ filter (λ b. not (p b)) xs) = subst (λ b. All P (cond (not b) (x ∷ filter (λ b. not (p b)) xs) (filter (λ b. not (p b)) xs))) e k in
          All-cons P x xs (All-head P x (filter (λ b. not (p b)) xs) two) (both_parts p xs one (All-tail P x (filter (λ b. not (p b)) xs) two))
    ]

-- the Alloc-IDs of the accounts are those of the rows
accounts_any : (i : ℕ) (rows : List RawRow) → list_any (λ a. a.alloc_id == i) (map row_account rows) ≡ has_alloc i (map admitted_row rows)
accounts_any i [] = refl
accounts_any i (r ∷ rows) = ap (λ b. (r.alloc_id == i) || b) (accounts_any i rows)

pub accounts_apart : (rows : List RawRow) → IsDistinct (map admitted_row rows) → AreApart (map row_account rows)
accounts_apart [] h = tt
accounts_apart (r ∷ rows) h = (accounts_any r.alloc_id rows ∙ h.0, accounts_apart rows h.1)

pub book_of_rows : (rows : List RawRow) → AreApart (map row_account rows) → AccountsFor (map admitted_row rows) (book_from (map row_account rows))
book_of_rows rows apart = (book_rises (map row_account rows) apart, λ i. book_ids i (map row_account rows) ∙ accounts_any i rows)

-- The rows of a roster, by Alloc-ID.

not_among : (i : ℕ) (rows : List Row) → has_alloc i rows ≡ false → All (λ r. r.alloc_id ≡ i → ⊥) rows
not_among i [] h = All-nil (λ r. r.alloc_id ≡ i → ⊥)
not_among i (r ∷ rows) h =
    let two : ((r.alloc_id == i) ≡ false) × (has_alloc i rows ≡ false) = or_parts (r.alloc_id == i) (has_alloc i rows) h in
    All-cons (λ r. r.alloc_id ≡ i → ⊥) r rows (λ e. let t : true ≡ false = sym (eq-eqb r.alloc_id i e) ∙ two.0 in absurd cc) (not_among i rows two.1)

-- what the row at an index has, each row of its Alloc-ID has
same_alloc : (P : ℕ → Type 0) (rows : List Row) → IsDistinct rows → (k : ℕ) (d : Row) → k < length rows → P (get_or rows k d).onu → All (λ q. q.alloc_id ≡ (get_or rows k d).alloc_id → P q.onu) rows
same_alloc P [] apart k d l h = absurd (omega (arith, l))
same_alloc P (r ∷ rows) apart zero d l h = All-cons (λ q. q.alloc_id ≡ r.alloc_id → P q.onu) r rows (λ _. h)
    (All-weaker (λ q. q.alloc_id ≡ r.alloc_id → ⊥) (λ q. q.alloc_id ≡ r.alloc_id → P q.onu) (λ q n e. absurd (n e)) rows (not_among r.alloc_id rows apart.0))
same_alloc P (r ∷ rows) apart (suc k) d l h =
    let q : Row = get_or rows k d in
    All-cons (λ p. p.alloc_id ≡ q.alloc_id → P p.onu) r rows
    (λ e. absurd (not_among r.alloc_id rows apart.0 k d (omega (arith, l)) (sym e)))
    (same_alloc P rows apart.1 k d (omega (arith, l)) h)

-- the owner of an admitted Alloc-ID has the row
owner_has_row : (u i : ℕ) (rows : List Row) → has_alloc i rows ≡ true → Owns rows i u → has_row u i rows ≡ true
owner_has_row u i [] h o = absurd cc
owner_has_row u i (r ∷ rows) h o = elim (cases_Bool (r.alloc_id == i)) [
  | inl e ↦ or_left (r.onu == u && r.alloc_id == i) (has_row u i rows) (and_from (r.onu == u) (r.alloc_id == i) (eq-eqb r.onu u (All-head (λ r. r.alloc_id ≡ i → r.onu ≡ u) r rows o (eqb-true r.alloc_id i e))) e)
  | inr e ↦ or_right (r.onu == u && r.alloc_id == i) (has_row u i rows) (owner_has_row u i rows (sym (ap (λ b. b || has_alloc i rows) e) ∙ h) (All-tail (λ r. r.alloc_id ≡ i → r.onu ≡ u) r rows o))
]

-- an ONU with the row of an Alloc-ID owns it
row_is_owned : (u i : ℕ) (rows : List Row) → IsDistinct rows → has_row u i rows ≡ true → Owns rows i u
row_is_owned u i [] apart h = absurd cc
row_is_owned u i (r ∷ rows) apart h = elim (cases_Bool (r.onu == u && r.alloc_id == i)) [
  | inl e ↦
      let two : ((r.onu == u) ≡ true) × ((r.alloc_id == i) ≡ true) = and_parts (r.onu == u) (r.alloc_id == i) e in
      let of_it : r.alloc_id ≡ i = eqb-true r.alloc_id i two.1 in
      All-cons (λ q. q.alloc_id ≡ i → q.onu ≡ u) r rows (λ _. eqb-true r.onu u two.0)
      (All-weaker (λ q. q.alloc_id ≡ r.alloc_id → ⊥) (λ q. q.alloc_id ≡ i → q.onu ≡ u) (λ q n e. absurd (n (e ∙ sym of_it))) rows (not_among r.alloc_id rows apart.0))
  | inr e ↦
      let later : has_row u i rows ≡ true = sym (ap (λ b. b || has_row u i rows) e) ∙ h in
      All-cons (λ q. q.alloc_id ≡ i → q.onu ≡ u) r rows
      (λ of_it. absurd (let t : true ≡ false = sym (row_has_alloc u i rows later) ∙ ap (λ j. has_alloc j rows) (sym of_it) ∙ apart.0 in cc))
      (row_is_owned u i rows apart.1 later)
]
  where
    row_has_alloc : (u i : ℕ) (rows : List Row) → has_row u i rows ≡ true → has_alloc i rows ≡ true
    row_has_alloc u i [] h = h
    row_has_alloc u i (r ∷ rows) h = elim (or_cases (r.onu == u && r.alloc_id == i) (has_row u i rows) h) [
      | inl e ↦ or_left (r.alloc_id == i) (has_alloc i rows) (and_parts (r.onu == u) (r.alloc_id == i) e).1
      | inr e ↦ or_right (r.alloc_id == i) (has_alloc i rows) (row_has_alloc u i rows e)
    ]

-- an account that is found has what all have
pick : (P : Account → Type 0) (book : List Account) (i : ℕ) (a : Account) → account_of book i ≡ Some a → All P book → P a
pick P [] i a e h = absurd cc
pick P (b ∷ book) i a e h = elim (cases_Bool (b.alloc_id == i)) [
  | inl t ↦ (let same : b ≡ a = (let q : Some b ≡ Some a = sym (ap (λ c. cond c (Some b) (account_of book i)) t) ∙ e in cc) in subst P same (All-head P b book h))
  | inr f ↦ pick P book i a (sym (ap (λ c. cond c (Some b) (account_of book i)) f) ∙ e) (All-tail P b book h)
]

found_any : (i : ℕ) (book : List Account) (a : Account) → account_of book i ≡ Some a → list_any (λ j. j == i) (alloc_ids book) ≡ true
found_any i book a e = list_any-map (λ j. j == i) (λ b. b.alloc_id) book ∙ account_any i book (Some a) e

-- What the tests of an opening find.

pub record PassesTests (number : ℕ) (o : Opening) : Type 0 where
  pub first : OpensFirst number (state_of o)
  pub silent : IfSome o.cause (λ c. IsSilent (state_of o))
  pub admitted : IsAdmitted o.rule o.gap (roster_of o)
  pub parts : AreParts (accounts_of o) o.window
  pub fits : Fits o (roster_of o) (book_from (accounts_of o))

module _ (o : Opening) where
  abbrev s : State
  s = state_of o

  --   a row and its account
  module _ (apart : IsDistinct (roster_of o)) (k : ℕ) (d : RawRow) (l : k < length o.rows) where
    abbrev r : RawRow
    r = get_or o.rows k d

    row_at : get_or (roster_of o) k (admitted_row d) ≡ admitted_row r
    row_at = get_or-map admitted_row o.rows k d (admitted_row d) l

    there : k < length (roster_of o)
    there = omega (arith, l, length-map o.rows admitted_row)

    counted_from_report : (c : Counted) → ReportIsLawful o.next o.window r c → CountedIsLawful s (row_account r) c
    counted_from_report c h = record {
      not_early = h.not_early;
      not_late = h.not_late;
      reported = All-weaker (λ m. m.frame ≡ c.frame → Contains m.reported r.onu) (λ m. m.frame ≡ c.frame → All (λ q. q.alloc_id ≡ r.alloc_id → Contains m.reported q.onu) s.roster)
          (λ m t e. subst (λ i. All (λ q. q.alloc_id ≡ i → Contains m.reported q.onu) s.roster) (ap (λ q. q.alloc_id) row_at)
          (same_alloc (Contains m.reported) s.roster apart k (admitted_row d) there (subst (Contains m.reported) (ap (λ q. q.onu) (sym row_at)) (t e)))) o.window h.reported;
    }

    report_from_counted : (c : Counted) → CountedIsLawful s (row_account r) c → ReportIsLawful o.next o.window r c
    report_from_counted c h = record {
      not_early = h.not_early;
      not_late = h.not_late;
      reported = All-weaker (λ m. m.frame ≡ c.frame → All (λ q. q.alloc_id ≡ r.alloc_id → Contains m.reported q.onu) s.roster) (λ m. m.frame ≡ c.frame → Contains m.reported r.onu)
          (λ m t e. subst (Contains m.reported) (ap (λ q. q.onu) row_at) (t e k (admitted_row d) there (ap (λ q. q.alloc_id) row_at))) o.window h.reported;
    }

    if_counted : (q : Option Counted) → IfSome q (ReportIsLawful o.next o.window r) → IfSome q (CountedIsLawful s (row_account r))
    if_counted None h = h
    if_counted (Some c) h = counted_from_report c h

    if_report : (q : Option Counted) → IfSome q (CountedIsLawful s (row_account r)) → IfSome q (ReportIsLawful o.next o.window r)
    if_report None h = h
    if_report (Some c) h = report_from_counted c h

  --   an account of the book
  abbrev AccountFits : Account → Type 0
  AccountFits a = (a.since ≤ o.next) × IfSome a.counted (CountedIsLawful s a)

  module _ (apart : IsDistinct (roster_of o)) where
    book_fits : All (RowIsLawful o.next o.window) o.rows → All AccountFits (accounts_of o)
    book_fits h = All-map AccountFits row_account o.rows (λ k d l. let fits : RowIsLawful o.next o.window (get_or o.rows k d) = h k d l in
        (fits.since, if_counted apart k d l (get_or o.rows k d).counted fits.counted))

    rows_lawful : All (AccountIsLawful s) (accounts_of o) → All (RowIsLawful o.next o.window) o.rows
    rows_lawful h = λ k d l. let a : AccountIsLawful s (row_account (get_or o.rows k d)) = All-unmap (AccountIsLawful s) row_account o.rows h k d l in
        record { since = a.since; counted = if_report apart k d l (get_or o.rows k d).counted a.counted }

    --   the grants of an account's Alloc-ID in the window
    owner_from : (a : Account) → account_of s.book a.alloc_id ≡ Some a → All (MapIsOwned s.roster s.book) o.window →
        All (λ m. a.since ≤ m.frame → All (λ g. g.alloc_id ≡ a.alloc_id → Owns s.roster g.alloc_id g.onu) m.grants) o.window
    owner_from a found h = All-weaker (MapIsOwned s.roster s.book) (λ m. a.since ≤ m.frame → All (λ g. g.alloc_id ≡ a.alloc_id → Owns s.roster g.alloc_id g.onu) m.grants)
        (λ m t since. All-weaker (GrantIsOwned s.roster s.book m.frame) (λ g. g.alloc_id ≡ a.alloc_id → Owns s.roster g.alloc_id g.onu)
        (λ g owned e.
        let known : known_since (account_of s.book g.alloc_id) ≡ Some a.since = ap known_since (ap (account_of s.book) e ∙ found) in
        let held : a.since ≤ m.frame → has_row g.onu g.alloc_id s.roster ≡ true = subst (λ q. IfSome q (λ since. since ≤ m.frame → has_row g.onu g.alloc_id s.roster ≡ true)) known owned in
        row_is_owned g.onu g.alloc_id s.roster apart (held since)) m.grants t) o.window h

    owned_from : AccountsFor s.roster s.book → All (AccountIsLawful s) s.book → All (MapIsOwned s.roster s.book) o.window
    owned_from book h = λ j m l n g w.
        let at : WindowMap = get_or o.window j m in
        let here : Granted = get_or at.grants n g in
        grant at here (account_of s.book here.alloc_id) refl
        (λ a found since. let lawful : AccountIsLawful s a = pick (AccountIsLawful s) s.book here.alloc_id a found h in lawful.owner j m l since n g w)
      where
        grant : (m : WindowMap) (g : Granted) (q : Option Account) → account_of s.book g.alloc_id ≡ q →
            ((a : Account) → account_of s.book g.alloc_id ≡ Some a → a.since ≤ m.frame → g.alloc_id ≡ a.alloc_id → Owns s.roster g.alloc_id g.onu) →
            IfSome (known_since q) (λ since. since ≤ m.frame → has_row g.onu g.alloc_id s.roster ≡ true)
        grant m g None e own = tt
        grant m g (Some a) e own = λ since.
            owner_has_row g.onu g.alloc_id s.roster (sym (book.1 g.alloc_id) ∙ found_any g.alloc_id s.book a e) (own a e since (sym (account_is s.book g.alloc_id a e)))

-- an opening that passes the tests is lawful
pub lawful_if_passes : (number : ℕ) (o : Opening) → HasNumbersInRange (state_of o) → All (λ r. r.carry ≤ max_carry o.rule) o.rows → PassesTests number o → IsLawfulOpening number (state_of o)
lawful_if_passes number o numbers range p =
    let apart : IsDistinct (roster_of o) = p.admitted.apart in
    let s : State = state_of o in
    let book : AccountsFor (roster_of o) s.book = book_of_rows o.rows p.parts.apart in
    let fits : All (AccountFits o) s.book = book_all (AccountFits o) (accounts_of o) (book_fits o apart p.fits.reports) in
    record {
      first = p.first;
      state = record {
        numbers = numbers;
        admitted = p.admitted;
        book = book;
        carries = record {
          count = length-map o.rows (λ r. r.carry) ∙ sym (length-map o.rows admitted_row);
          range = All-map (λ c. c ≤ max_carry o.rule) (λ r. r.carry) o.rows range;
        };
        accounts = λ k d l.
            let a : Account = get_or s.book k d in
            record { since = (fits k d l).0; counted = (fits k d l).1; owner = owner_from o apart a (found_each s.book book.0 k d l) p.fits.owned };
        few_maps = p.parts.maps.few_maps;
        frames = p.fits.frames;
        maps = p.parts.maps.maps;
        failed = p.silent;
      };
    }

-- a lawful opening passes the tests
pub passes_if_lawful : (number : ℕ) (o : Opening) → IsLawfulOpening number (state_of o) → PassesTests number o
passes_if_lawful number o l =
    let apart : IsDistinct (roster_of o) = l.state.admitted.apart in
    let accounts : AreApart (accounts_of o) = accounts_apart o.rows apart in
    record {
      first = l.first;
      silent = l.state.failed;
      admitted = l.state.admitted;
      parts = record { apart = accounts; maps = record { few_maps = l.state.few_maps; frames = leads_after o.next o.window l.state.frames; maps = l.state.maps } };
      fits = record {
        frames = l.state.frames;
        reports = rows_lawful o apart (accounts_all (AccountIsLawful (state_of o)) (accounts_of o) l.state.accounts);
        owned = owned_from o apart l.state.book l.state.accounts;
      };
    }

-- Chapter 0 opens with a port just opened.

pub opened_if_bare : (o : Opening) → IsBare o → IsJustOpened (state_of o)
opened_if_bare o b = (
  o.rule,
  o.gap,
  o.profile,
  o.next,
  (λ i. record {
    rule = o.rule;
    gap = o.gap;
    profile = o.profile;
    next = o.next;
    cause = b.up i;
    taken_before = b.none_before i;
    roster = map admitted_row (b.no_rows i);
    book = book_from (map row_account (b.no_rows i));
    carries = map (λ r. r.carry) (b.no_rows i);
    window = b.no_window i;
  }),
)

no_elements : {X Y : Type 0} (f : X → Y) (xs : List X) → map f xs ≡ [] → xs ≡ []
no_elements f [] h = refl
no_elements f (x ∷ xs) h = absurd cc

pub bare_if_opened : (o : Opening) → IsJustOpened (state_of o) → IsBare o
bare_if_opened o (rule, gap, profile, first, e) = record {
  no_rows = no_elements admitted_row o.rows (ap (λ s. s.roster) e);
  no_window = ap (λ s. s.window) e;
  up = ap (λ s. s.cause) e;
  none_before = ap (λ s. s.taken_before) e;
}

-- A failed port.

quiet_book : (o : Opening) → All (λ r. r.counted ≡ None) o.rows → All (λ a. a.counted ≡ None) (book_from (accounts_of o))
quiet_book o h = book_all (λ a. a.counted ≡ None) (accounts_of o) (All-map (λ a. a.counted ≡ None) row_account o.rows h)

quiet_rows : (o : Opening) → All (λ a. a.counted ≡ None) (book_from (accounts_of o)) → All (λ r. r.counted ≡ None) o.rows
quiet_rows o h = All-unmap (λ a. a.counted ≡ None) row_account o.rows (accounts_all (λ a. a.counted ≡ None) (accounts_of o) h)

pub silent_if_quiet : (o : Opening) → AreQuiet o.rows o.window → IsSilent (state_of o)
silent_if_quiet o q = (q.no_window, quiet_book o q.no_reports)

pub quiet_if_silent : (o : Opening) → IsSilent (state_of o) → AreQuiet o.rows o.window
quiet_if_silent o h = record { no_window = h.0; no_reports = quiet_rows o h.1 }
