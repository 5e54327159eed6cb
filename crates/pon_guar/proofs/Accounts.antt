-- Accounts of a report book, found by their Alloc-IDs.
use Rattle.std.proofs.Common.{◌≡◌, ℕ, zero, suc, ◌<◌, ◌≤◌, inl, inr, Bool, true, false, cond, not, List, [], ◌∷◌, map, refl, ap, sym, ◌∙◌, subst, arith, get_or, length, drop, set}
use Rattle.std.specs.List.Sorted.{IsPartitionedBy}
use Rattle.std.specs.Prelude.{◌==◌, ◌≢◌, nat_lt, if◌then◌else◌, filter, All, Option, Some, None, option_to_list}
use Rattle.std.proofs.lemmas.Bool.{cases_lt, eq-eqb, le-ltb, lt-ltb, ltb-true, ne_eqb, or_parts}
use Rattle.std.proofs.lemmas.Bool.Decides.{eqb_tells}
use Rattle.std.proofs.lemmas.List.Elements.{All-nil, All-cons, All-head, All-tail, All-weaker}
use Rattle.std.proofs.lemmas.Option.{same_Some, slice_get-get_or}
use Rattle.std.proofs.lemmas.List.{drop_all}
use Rattle.pon_lists.proofs.Lists.{All-unmap}
use Rattle.pon_lists.proofs.Order.{in_order_at, in_order-unmap}
use Rattle.pon_guar.specs.Book.{Account, AreRising, StandsAt, account_of, alloc_ids, counted_of_account, known_report}
use Rattle.std.specs.List.{list_any}

pub found_each : (book : List Account) → AreRising (alloc_ids book) → All (λ a. account_of book a.alloc_id ≡ Some a) book
found_each [] h = All-nil (λ a. account_of [] a.alloc_id ≡ Some a)
found_each (x ∷ book) h = All-cons (λ a. account_of (x ∷ book) a.alloc_id ≡ Some a) x book
    (ap (λ b. cond b (Some x) (account_of book x.alloc_id)) (eq-eqb x.alloc_id x.alloc_id refl))
    (λ n d l. past (get_or book n d) (All-unmap (λ j. x.alloc_id < j) (λ a. a.alloc_id) book h.0 n d l) (found_each book h.1 n d l))
  where
    past : (a : Account) → x.alloc_id < a.alloc_id → account_of book a.alloc_id ≡ Some a → account_of (x ∷ book) a.alloc_id ≡ Some a
    past a l e = ap (λ b. cond b (Some x) (account_of book a.alloc_id)) (ne_eqb x.alloc_id a.alloc_id (λ q. omega (arith, q, l))) ∙ e

-- a function from each Alloc-ID to its account maps the Alloc-IDs that pass a test to their accounts
pub accounts_kept : (g : ℕ → Account) (p : ℕ → Bool) (book : List Account) → All (λ a. g a.alloc_id ≡ a) book → map g (filter p (alloc_ids book)) ≡ filter (λ a. p a.alloc_id) book
accounts_kept g p [] h = refl
accounts_kept g p (x ∷ book) h =
    let rest : map g (filter p (alloc_ids book)) ≡ filter (λ a. p a.alloc_id) book = accounts_kept g p book (All-tail (λ a. g a.alloc_id ≡ a) x book h) in
    elim (p x.alloc_id) as (λ b. map g (cond b (x.alloc_id ∷ filter p (alloc_ids book)) (filter p (alloc_ids book))) ≡ cond b (x ∷ filter (λ a. p a.alloc_id) book) (filter (λ a. p a.alloc_id) book)) [
      | true ↦ (λ i. All-head (λ a. g a.alloc_id ≡ a) x book h i ∷ rest i)
      | false ↦ rest
    ]

-- a function from each Alloc-ID to its account maps all Alloc-IDs to the book
pub accounts_all : (g : ℕ → Account) (book : List Account) → All (λ a. g a.alloc_id ≡ a) book → map g (alloc_ids book) ≡ book
accounts_all g [] h = refl
accounts_all g (x ∷ book) h = (λ i. All-head (λ a. g a.alloc_id ≡ a) x book h i ∷ accounts_all g book (All-tail (λ a. g a.alloc_id ≡ a) x book h) i)

-- A book split at an Alloc-ID.

-- no account of a smaller Alloc-ID comes after one of no smaller Alloc-ID
pub rising_parted : (i : ℕ) (book : List Account) → AreRising (alloc_ids book) → IsPartitionedBy (λ a. nat_lt a.alloc_id i) book
rising_parted i book h m n d l k t = elim (cases_lt m n) [
  | inl less ↦ lt-ltb (get_or book m d).alloc_id i (omega (arith, rising m n d less k, ltb-true (get_or book n d).alloc_id i t))
  | inr not_less ↦ subst (λ j. nat_lt (get_or book j d).alloc_id i ≡ true) (let e : n ≡ m = omega (arith, l, not_less) in e) t
]
  where
    rising : (m n : ℕ) (d : Account) → m < n → n < length book → (get_or book m d).alloc_id < (get_or book n d).alloc_id
    rising = in_order_at (λ a b. a.alloc_id < b.alloc_id) book (in_order-unmap (λ i j. i < j) (λ a. a.alloc_id) book h)

-- the first of some accounts, if it is of an Alloc-ID
abbrev pub first_if : ℕ → List Account → Option Account
first_if i [] = None
first_if i (a ∷ more) = if a.alloc_id == i then Some a else None

none_above : (i : ℕ) (book : List Account) → All (λ j. i < j) (alloc_ids book) → account_of book i ≡ None
none_above i [] h = refl
none_above i (x ∷ book) h =
    ap (λ b. cond b (Some x) (account_of book i)) (ne_eqb x.alloc_id i (λ e. omega (arith, e, All-head (λ j. i < j) x.alloc_id (alloc_ids book) h)))
    ∙ none_above i book (All-tail (λ j. i < j) x.alloc_id (alloc_ids book) h)

-- the account of an Alloc-ID is the first among those of no smaller Alloc-ID
pub account_first : (i : ℕ) (book : List Account) → AreRising (alloc_ids book) → account_of book i ≡ first_if i (filter (λ a. not (nat_lt a.alloc_id i)) book)
account_first i [] h = refl
account_first i (x ∷ book) h = elim (cases_lt x.alloc_id i) [
  | inl less ↦
      ap (λ b. cond b (Some x) (account_of book i)) (ne_eqb x.alloc_id i (λ e. omega (arith, e, less)))
      ∙ account_first i book h.1
      ∙ (λ t. first_if i (cond (not (sym (lt-ltb x.alloc_id i less) t)) (x ∷ filter (λ a. not (nat_lt a.alloc_id i)) book) (filter (λ a. not (nat_lt a.alloc_id i)) book)))
  | inr not_less ↦
      later (x.alloc_id == i) refl (omega (arith, not_less))
      ∙ (λ t. first_if i (cond (not (sym (le-ltb x.alloc_id i (omega (arith, not_less))) t)) (x ∷ filter (λ a. not (nat_lt a.alloc_id i)) book) (filter (λ a. not (nat_lt a.alloc_id i)) book)))
]
  where
    later : (b : Bool) → (x.alloc_id == i) ≡ b → i ≤ x.alloc_id → cond b (Some x) (account_of book i) ≡ cond b (Some x) None
    later true e l = refl
    later false e l = none_above i book (All-weaker (λ j. x.alloc_id < j) (λ j. i < j) (λ j k. omega (arith, k, l)) (alloc_ids book) h.0)

-- One account replaces that of its Alloc-ID.

abbrev pub put : Account → List Account → List Account
put a book = map (λ b. if b.alloc_id == a.alloc_id then a else b) book

pub put_absent : (a : Account) (book : List Account) → account_of book a.alloc_id ≡ None → put a book ≡ book
put_absent a [] h = refl
put_absent a (x ∷ book) h = (elim (x.alloc_id == a.alloc_id) as (λ b. cond b (Some x) (account_of book a.alloc_id) ≡ None → (if b then a else x) ∷ put a book ≡ x ∷ book) [
  | true ↦ λ h. absurd cc
  | false ↦ λ h. ap (λ t. x ∷ t) (put_absent a book h)
]) h

pub put_at : (a : Account) (book : List Account) → AreRising (alloc_ids book) → (k : ℕ) (d : Account) → k < length book → (get_or book k d).alloc_id ≡ a.alloc_id → set book k a ≡ put a book
put_at a [] h k d l e = absurd (omega (arith, l))
put_at a (x ∷ book) h zero d l e =
    ap (λ t. a ∷ t) (sym (put_absent a book (none_above a.alloc_id book (subst (λ i. All (λ j. i < j) (alloc_ids book)) e h.0))))
    ∙ ap (λ b. (if b then a else x) ∷ put a book) (sym (eq-eqb x.alloc_id a.alloc_id e))
put_at a (x ∷ book) h (suc k) d l e =
    let below : x.alloc_id < a.alloc_id = subst (λ i. x.alloc_id < i) e (All-unmap (λ j. x.alloc_id < j) (λ a. a.alloc_id) book h.0 k d (omega (arith, l))) in
    ap (λ t. x ∷ t) (put_at a book h.1 k d (omega (arith, l)) e)
    ∙ ap (λ b. (if b then a else x) ∷ put a book) (sym (ne_eqb x.alloc_id a.alloc_id (λ q. omega (arith, q, below))))

-- An account that is changed at its index.

pub account_is : (book : List Account) (i : ℕ) (a : Account) → account_of book i ≡ Some a → a.alloc_id ≡ i
account_is [] i a h = absurd cc
account_is (x ∷ book) i a h = elim (eqb_tells x.alloc_id i) [
  | inl e ↦ (let is : x ≡ a = same_Some x a (sym (ap (λ b. cond b (Some x) (account_of book i)) e.0) ∙ h) in sym (ap (λ b. b.alloc_id) is) ∙ e.1)
  | inr e ↦ account_is book i a (sym (ap (λ b. cond b (Some x) (account_of book i)) e.0) ∙ h)
]

-- the accounts with that of an Alloc-ID changed
abbrev pub changing : (Account → Account) → ℕ → List Account → List Account
changing f i book = map (λ x. if x.alloc_id == i then f x else x) book

pub change_absent : (f : Account → Account) (i : ℕ) (book : List Account) → account_of book i ≡ None → changing f i book ≡ book
change_absent f i [] h = refl
change_absent f i (x ∷ book) h = (elim (x.alloc_id == i) as (λ b. cond b (Some x) (account_of book i) ≡ None → (if b then f x else x) ∷ changing f i book ≡ x ∷ book) [
  | true ↦ λ h. absurd cc
  | false ↦ λ h. ap (λ t. x ∷ t) (change_absent f i book h)
]) h

module _ (f : Account → Account) (keeps : (a : Account) → (f a).alloc_id ≡ a.alloc_id) (i : ℕ) (now : List Account) (a : Account) (found : account_of now i ≡ Some a) where
  of_it : (f a).alloc_id ≡ i
  of_it = keeps a ∙ account_is now i a found

  put_each : (book : List Account) → All (λ x. account_of now x.alloc_id ≡ Some x) book → put (f a) book ≡ changing f i book
  put_each [] h = refl
  put_each (x ∷ book) h = (λ j. one x (All-head (λ x. account_of now x.alloc_id ≡ Some x) x book h) j ∷ put_each book (All-tail (λ x. account_of now x.alloc_id ≡ Some x) x book h) j)
    where
      one : (x : Account) → account_of now x.alloc_id ≡ Some x → (if x.alloc_id == (f a).alloc_id then f a else x) ≡ (if x.alloc_id == i then f x else x)
      one x there = elim (eqb_tells x.alloc_id i) [
        | inl e ↦
            let is : a ≡ x = same_Some a x (sym found ∙ ap (account_of now) (sym e.1) ∙ there) in
            ap (λ b. if b then f a else x) (eq-eqb x.alloc_id (f a).alloc_id (e.1 ∙ sym of_it)) ∙ ap f is ∙ ap (λ b. if b then f x else x) (sym e.0)
        | inr e ↦ ap (λ k. if x.alloc_id == k then f a else x) of_it ∙ ap (λ b. if b then f a else x) e.0 ∙ ap (λ b. if b then f x else x) (sym e.0)
      ]

pub change_found : (f : Account → Account) → ((a : Account) → (f a).alloc_id ≡ a.alloc_id) → (i : ℕ) (book : List Account) (a : Account) → AreRising (alloc_ids book) → account_of book i ≡ Some a → put (f a) book ≡ changing f i book
change_found f keeps i book a h found = put_each f keeps i book a found book (found_each book h)

-- an Alloc-ID has no account if the account at its index is of another one, or the index is past the end
module _ (i : ℕ) (book : List Account) (rising : AreRising (alloc_ids book)) (k : ℕ) where
  pub absent_here : (d : Account) → k < length book → drop k book ≡ filter (λ a. not (nat_lt a.alloc_id i)) book → (get_or book k d).alloc_id ≢ i → account_of book i ≡ None
  absent_here d l is other = account_first i book rising ∙ ap (first_if i) (sym is) ∙ go book k l other
    where
      go : (xs : List Account) (n : ℕ) → n < length xs → (get_or xs n d).alloc_id ≢ i → first_if i (drop n xs) ≡ None
      go [] n l other = absurd (omega (arith, l))
      go (x ∷ xs) zero l other = ap (λ b. if b then Some x else None) (ne_eqb x.alloc_id i other)
      go (x ∷ xs) (suc n) l other = go xs n (omega (arith, l)) other

  pub absent_past : length book ≤ k → drop k book ≡ filter (λ a. not (nat_lt a.alloc_id i)) book → account_of book i ≡ None
  absent_past l is = account_first i book rising ∙ ap (first_if i) (sym is ∙ drop_all k book l)

-- An account at its index.

pub stands_here : (i : ℕ) (book : List Account) → AreRising (alloc_ids book) → (k : ℕ) (d : Account) → k < length book → (get_or book k d).alloc_id ≡ i → StandsAt book i k
stands_here i book h k d l e = record {
  within = l;
  is = slice_get-get_or book k d l ∙ sym (subst (λ j. account_of book j ≡ Some (get_or book k d)) e (found_each book h k d l));
}

account_at : (i : ℕ) (book : List Account) (k : ℕ) (d : Account) → StandsAt book i k → account_of book i ≡ Some (get_or book k d)
account_at i book k d s = sym s.is ∙ slice_get-get_or book k d s.within

pub change_at : (f : Account → Account) → ((a : Account) → (f a).alloc_id ≡ a.alloc_id) → (i : ℕ) (book : List Account) (k : ℕ) (d : Account) → AreRising (alloc_ids book) → StandsAt book i k
    → set book k (f (get_or book k d)) ≡ changing f i book
change_at f keeps i book k d h s =
    let found = account_at i book k d s in
    put_at (f (get_or book k d)) book h k d s.within (sym (keeps (get_or book k d))) ∙ change_found f keeps i book (get_or book k d) h found

pub no_account : (book : List Account) (i : ℕ) → list_any (λ j. j == i) (alloc_ids book) ≡ false → account_of book i ≡ None
no_account [] i h = refl
no_account (a ∷ book) i h =
    let two : ((a.alloc_id == i) ≡ false) × (list_any (λ j. j == i) (alloc_ids book) ≡ false) = or_parts (a.alloc_id == i) (list_any (λ j. j == i) (alloc_ids book)) h in
    rw two.0 (no_account book i two.1)

pub listed : (a : Option Account) → option_to_list (known_report a) ≡ counted_of_account a
listed None = refl
listed (Some a) = refl
