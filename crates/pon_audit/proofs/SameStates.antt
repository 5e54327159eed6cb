-- An opening with the parts of a state is that state.
use Rattle.std.proofs.Common.{◌≡◌, ℕ, ◌+◌, ◌<◌, List, [], ◌∷◌, ◌++◌, map, length, take, get_or, Option, Some, None, refl, ap, sym, ◌∙◌, subst}
use Rattle.std.specs.Prelude.{◌↔◌, All}
use Rattle.std.proofs.lemmas.List.{get_or-map, take_more}
use Rattle.std.proofs.lemmas.List.Elements.{All-map, All-weaker}
use Rattle.pon_lists.proofs.Lists.{All-unmap}
use Rattle.pon_guar.specs.declared.account.Account.{Account}
use Rattle.pon_guar.specs.Book.{account_of, alloc_ids, known_report, known_since, since_of_account}
use Rattle.pon_guar.specs.Parts.{book_from}
use Rattle.pon_guar.proofs.Accounts.{account_is, found_each}
use Rattle.pon_guar.proofs.Accounts.{accounts_all as accounts_from_ids}
use Rattle.pon_guar.proofs.RestoredParts.{same_rising}
use Rattle.pon_state.specs.State.{State}
use Rattle.pon_state.specs.Accounts.{AccountsFor}
use Rattle.pon_history.specs.Chapters.{IsLawfulOpening}
use Rattle.pon_history.specs.Taking.{IsKept}
use Rattle.pon_record.specs.declared.row.RawRow.{RawRow}
use Rattle.pon_record.specs.Openings.{Opening}
use Rattle.pon_record.specs.Chapters.{Body}
use Rattle.pon_audit.specs.Openings.{accounts_of, chapter_of, roster_of, row_account, state_of}
use Rattle.pon_audit.specs.Chains.{HasAccount, HasParts}
use Rattle.pon_audit.proofs.OpenedStates.{accounts_all, book_all}

-- Lists that are compared element by element.

module _ {X Y : Type 0} (f : X → Y) where
  -- one more element
  pub one_more_same : (xs : List X) (ys : List Y) (i : ℕ) (x : X) (y : Y) → i < length xs → i < length ys → x ≡ get_or xs i x → y ≡ get_or ys i y → f x ≡ y → map f (take i xs) ≡ take i ys → map f (take (i + 1) xs) ≡ take (i + 1) ys
  one_more_same xs ys i x y lx ly hx hy same so_far =
      ap (map f) (take_more xs i x lx) ∙ map-push (take i xs) (get_or xs i x) ∙ (λ j. so_far j ++ (ap f (sym hx) ∙ same ∙ hy) j ∷ []) ∙ sym (take_more ys i y ly)
    where
      map-push : (xs : List X) (x : X) → map f (xs ++ x ∷ []) ≡ map f xs ++ f x ∷ []
      map-push [] x = refl
      map-push (z ∷ xs) x = ap (λ t. f z ∷ t) (map-push xs x)

  pub not_the_same : (xs : List X) (ys : List Y) (i : ℕ) (x : X) (y : Y) → i < length xs → x ≡ get_or xs i x → y ≡ get_or ys i y → (f x ≡ y → ⊥) → map f xs ≡ ys → ⊥
  not_the_same xs ys i x y lx hx hy other e = other (ap f hx ∙ sym (get_or-map f xs i x y lx) ∙ ap (λ l. get_or l i y) e ∙ sym hy)

pub map_self : {X : Type 0} (xs : List X) → map (λ x. x) xs ≡ xs
map_self [] = refl
map_self (x ∷ xs) = ap (λ t. x ∷ t) (map_self xs)

-- The account of a row.

pub has_account : (book : List Account) (r : RawRow) → (known_since (account_of book r.alloc_id) ≡ Some r.since) × (known_report (account_of book r.alloc_id) ≡ r.counted) → HasAccount book r
has_account book r h = go (account_of book r.alloc_id) refl h.0 h.1
  where
    go : (q : Option Account) → account_of book r.alloc_id ≡ q → known_since q ≡ Some r.since → known_report q ≡ r.counted → account_of book r.alloc_id ≡ Some (row_account r)
    go None e since counted = absurd cc
    go (Some a) e since counted =
        let id : a.alloc_id ≡ r.alloc_id = account_is book r.alloc_id a e in
        let from : a.since ≡ r.since = cc in
        e ∙ (λ i. Some (record { alloc_id = id i; since = from i; counted = counted i }))

-- The report book.

-- an account made of what a book has for an Alloc-ID
abbrev account_at : List Account → ℕ → Account
account_at book i = record { alloc_id = i; since = since_of_account (account_of book i); counted = known_report (account_of book i) }

abbrev IsFound : List Account → Account → Type 0
IsFound book a = account_of book a.alloc_id ≡ Some a

rebuilt : (book : List Account) (a : Account) → IsFound book a → account_at book a.alloc_id ≡ a
rebuilt book a found = λ k. record { alloc_id = a.alloc_id; since = since_of_account (found k); counted = known_report (found k) }

pub same_book : (o : Opening) (book : List Account) → AccountsFor (roster_of o) (book_from (accounts_of o)) → AccountsFor (roster_of o) book → All (HasAccount book) o.rows → book_from (accounts_of o) ≡ book
same_book o book a b h =
    let made : List Account = book_from (accounts_of o) in
    let each : All (IsFound book) made = book_all (IsFound book) (accounts_of o) (All-map (IsFound book) row_account o.rows h) in
    let ids : alloc_ids made ≡ alloc_ids book = same_rising (alloc_ids made) (alloc_ids book) a.0 b.0 (λ i. a.1 i ∙ sym (b.1 i)) in
    sym (accounts_from_ids (account_at book) made (All-weaker (IsFound book) (λ a. account_at book a.alloc_id ≡ a) (rebuilt book) made each))
    ∙ ap (map (account_at book)) ids
    ∙ accounts_from_ids (account_at book) book (All-weaker (IsFound book) (λ a. account_at book a.alloc_id ≡ a) (rebuilt book) book (found_each book b.0))

has_its_accounts : (o : Opening) (book : List Account) → AccountsFor (roster_of o) (book_from (accounts_of o)) → book_from (accounts_of o) ≡ book → All (HasAccount book) o.rows
has_its_accounts o book a e =
    All-unmap (IsFound book) row_account o.rows
    (accounts_all (IsFound book) (accounts_of o) (subst (λ b. All (IsFound b) (book_from (accounts_of o))) e (found_each (book_from (accounts_of o)) a.0)))

-- The state.

module _ (number : ℕ) (o : Opening) (b : Body) (s : State) (l : IsLawfulOpening number (state_of o)) (kept : IsKept (chapter_of b) s) where
  pub is_state : HasParts o s → state_of o ≡ s
  is_state p =
      let book : book_from (accounts_of o) ≡ s.book = same_book o s.book l.state.book (subst (λ r. AccountsFor r s.book) (sym p.rows) kept.book) p.accounts in
      (λ i. record {
        rule = p.numbers.rule i;
        gap = p.numbers.gap i;
        profile = p.numbers.profile i;
        next = p.numbers.next i;
        cause = p.numbers.cause i;
        taken_before = p.numbers.taken_before i;
        roster = p.rows i;
        book = book i;
        carries = p.carries i;
        window = p.window i;
      })

  pub has_its_parts : state_of o ≡ s → HasParts o s
  has_its_parts e = record {
    numbers = record {
      rule = ap (λ t. t.rule) e;
      gap = ap (λ t. t.gap) e;
      profile = ap (λ t. t.profile) e;
      next = ap (λ t. t.next) e;
      cause = ap (λ t. t.cause) e;
      taken_before = ap (λ t. t.taken_before) e;
    };
    rows = ap (λ t. t.roster) e;
    carries = ap (λ t. t.carries) e;
    accounts = has_its_accounts o s.book l.state.book (ap (λ t. t.book) e);
    window = ap (λ t. t.window) e;
  }

pub tells_state : (number : ℕ) (o : Opening) (s : State) → IsLawfulOpening number (state_of o) → ((b : Body) × IsKept (chapter_of b) s) → HasParts o s ↔ (state_of o ≡ s)
tells_state number o s l (b, kept) = (is_state number o b s l kept, has_its_parts number o b s l kept)
