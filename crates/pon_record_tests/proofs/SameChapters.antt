-- The body of a lawful chapter gives the chapter back.
use Rattle.std.proofs.Common.{◌≡◌, ℕ, true, List, [], ◌∷◌, map, get_or, Option, Some, None, refl, sym, ◌∙◌, subst}
use Rattle.std.specs.Prelude.{◌==◌, All}
use Rattle.std.specs.List.{list_any, zip}
use Rattle.std.proofs.lemmas.Bool.{eq-eqb}
use Rattle.std.proofs.lemmas.List.Elements.{All-nil, All-cons, All-head, All-tail}
use Rattle.std.proofs.lemmas.List.Folds.{list_any_at}
use Rattle.pon_lists.proofs.Lists.{list_any-map}
use Rattle.pon_admit.specs.declared.row.Row.{Row}
use Rattle.pon_guar.specs.declared.account.Account.{Account}
use Rattle.pon_guar.specs.Book.{account_of, alloc_ids, known_report, since_of_account}
use Rattle.pon_guar.specs.Parts.{book_from}
use Rattle.pon_guar.proofs.Accounts.{account_is}
use Rattle.pon_guar.proofs.RestoredParts.{account_any}
use Rattle.pon_state.specs.State.{State}
use Rattle.pon_state.specs.Accounts.{AccountsFor}
use Rattle.pon_history.specs.Chapters.{Chapter, IsLawfulChapter, IsLawfulOpening}
use Rattle.pon_record.specs.Openings.{Opening}
use Rattle.pon_record.specs.Bodies.{chapter_body, recorded_opening, recorded_row}
use Rattle.pon_record.proofs.OneBody.{account_at, carries_back, rows_back}
use Rattle.pon_audit.specs.Openings.{accounts_of, chapter_of, roster_of, row_carries, state_of}
use Rattle.pon_audit.specs.Chains.{HasAccount}
use Rattle.pon_audit.proofs.OpenedStates.{accounts_apart, book_of_rows}
use Rattle.pon_audit.proofs.SameStates.{same_book}

-- an Alloc-ID of a book has its account
found : (book : List Account) (i : ℕ) → list_any (λ j. j == i) (alloc_ids book) ≡ true → account_of book i ≡ Some (account_at book i)
found book i h = go (account_of book i) refl
  where
    go : (q : Option Account) → account_of book i ≡ q → account_of book i ≡ Some (account_at book i)
    go None e = absurd (let t = sym (account_any i book None e) ∙ sym (list_any-map (λ j. j == i) (λ a. a.alloc_id) book) ∙ h in cc)
    go (Some a) e =
        let id : a.alloc_id ≡ i = account_is book i a e in
        e ∙ (λ k. Some (record { alloc_id = id k; since = since_of_account (sym e k); counted = known_report (sym e k) }))

-- the Alloc-IDs of the rows are in the book
abbrev AreIn : List Account → List Row → Type 0
AreIn book rows = All (λ r. list_any (λ j. j == r.alloc_id) (alloc_ids book) ≡ true) rows

all_in : (rows : List Row) (book : List Account) → AccountsFor rows book → AreIn book rows
all_in rows book h = λ k d l.
    let i : ℕ = (get_or rows k d).alloc_id in
    h.1 i ∙ list_any_at (λ r. r.alloc_id == i) rows k d l (eq-eqb i i refl)

have_accounts : (book : List Account) (rows : List Row) (carries : List ℕ) → AreIn book rows → All (HasAccount book) (map (recorded_row book) (zip rows carries))
have_accounts book [] carries h = All-nil (HasAccount book)
have_accounts book (r ∷ rows) [] h = All-nil (HasAccount book)
have_accounts book (r ∷ rows) (c ∷ carries) h =
    All-cons (HasAccount book) (recorded_row book (r, c)) (map (recorded_row book) (zip rows carries))
    (found book r.alloc_id (All-head (λ r. list_any (λ j. j == r.alloc_id) (alloc_ids book) ≡ true) r rows h))
    (have_accounts book rows carries (All-tail (λ r. list_any (λ j. j == r.alloc_id) (alloc_ids book) ≡ true) r rows h))

same_state : (n : ℕ) (s : State) → IsLawfulOpening n s → state_of (recorded_opening s) ≡ s
same_state n s l =
    let o : Opening = recorded_opening s in
    let roster : roster_of o ≡ s.roster = rows_back s.book s.roster s.carries l.state.carries.count in
    let carries : row_carries o ≡ s.carries = carries_back s.book s.roster s.carries l.state.carries.count in
    let made : AccountsFor (roster_of o) (book_from (accounts_of o)) = book_of_rows o.rows (accounts_apart o.rows (rw roster l.state.admitted.apart)) in
    let book : book_from (accounts_of o) ≡ s.book = same_book o s.book made (subst (λ r. AccountsFor r s.book) (sym roster) l.state.book) (have_accounts s.book s.roster s.carries (all_in s.roster s.book l.state.book)) in
    (λ i. record {
      rule = s.rule;
      gap = s.gap;
      profile = s.profile;
      next = s.next;
      cause = s.cause;
      taken_before = s.taken_before;
      roster = roster i;
      book = book i;
      carries = carries i;
      window = s.window;
    })

pub same_chapter : (port : ℕ) (c : Chapter) → IsLawfulChapter c → chapter_of (chapter_body port c) ≡ c
same_chapter port c l = λ i. record { number = c.number; opening = same_state c.number c.opening l.opening i; entries = c.entries }
