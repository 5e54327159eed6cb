-- Reports, account by account.
use Rattle.std.proofs.Common.{◌≡◌, ℕ, suc, ◌-◌, ◌<◌, ◌≤◌, ◌^◌, List, [], ◌∷◌, ◌++◌, map, refl, ap, sym, ◌∙◌, append_assoc, arith, inl, inr}
use Rattle.std.specs.Prelude.{All, IfSome, Option, Some, None, ◌==◌, nat_le, if◌then◌else◌, option_to_list}
use Rattle.std.proofs.lemmas.Bool.{eq-eqb, ne_eqb}
use Rattle.std.proofs.lemmas.Bool.Decides.{eqb_tells, leb_tells}
use Rattle.std.proofs.lemmas.List.{map-id}
use Rattle.std.proofs.lemmas.List.Elements.{All-append, All-cons, All-head, All-map, All-nil, All-tail, All-weaker}
use Rattle.pon_lists.proofs.Lists.{map-map, map_same}
use Rattle.pon_units.specs.declared.granted.Granted.{Granted}
use Rattle.pon_guar.specs.AccountReports.{account_reported, reports_of}
use Rattle.pon_guar.specs.Book.{Account, Counted}
use Rattle.pon_guar.specs.Reports.{after_occupancies, counting, latest, occupancies, taking}
use Rattle.pon_guar.proofs.LatestReports.{latest-append, latest_all, latest_lone}

module _ (granted : ℕ → ℕ) (frame : ℕ) where
  none_told : (a : Account) → (if nat_le a.since frame then record { alloc_id = a.alloc_id; since = a.since; counted = latest (option_to_list a.counted ++ []) } else a) ≡ a
  none_told a = elim (leb_tells a.since frame) [ inl e ↦ rw e.0 (λ j. record { alloc_id = a.alloc_id; since = a.since; counted = latest_lone a.counted j }) | inr e ↦ rw e.0 refl ]

  -- one occupancy, then the others
  one_told : (g : Granted) (gs : List Granted) (n : ℕ) (ns : List (Option ℕ)) (a : Account) →
      account_reported granted frame gs ns (if a.alloc_id == g.alloc_id then taking (record { frame = frame; words = n - granted g.alloc_id }) a else a) ≡ account_reported granted frame (g ∷ gs) (Some n ∷ ns) a
  one_told g gs n ns a =
      let c : Counted = record { frame = frame; words = n - granted a.alloc_id } in
      let rest : List Counted = reports_of granted frame gs ns a.alloc_id in
      let both : latest (option_to_list (latest (option_to_list a.counted ++ c ∷ [])) ++ rest) ≡ latest (option_to_list a.counted ++ c ∷ rest)
      = sym (latest-append (option_to_list a.counted ++ c ∷ []) rest) ∙ ap latest (append_assoc (option_to_list a.counted) (c ∷ []) rest) in
      elim (eqb_tells g.alloc_id a.alloc_id) [
        | inl e ↦ rw (eq-eqb a.alloc_id g.alloc_id (sym e.1), e.0, e.1) (elim (leb_tells a.since frame) [
          | inl t ↦ rw (t.0, t.0) (λ j. record { alloc_id = a.alloc_id; since = a.since; counted = both j })
          | inr t ↦ rw (t.0, t.0) refl
        ])
        | inr e ↦ rw (ne_eqb a.alloc_id g.alloc_id (λ q. e.1 (sym q)), e.0) refl
      ]

  pub account_by_account : (gs : List Granted) (ns : List (Option ℕ)) (book : List Account) → after_occupancies granted frame gs ns book ≡ map (account_reported granted frame gs ns) book
  account_by_account [] ns book = sym (map_same _ (λ a. a) none_told book ∙ map-id book)
  account_by_account (g ∷ gs) [] book = sym (map_same _ (λ a. a) none_told book ∙ map-id book)
  account_by_account (g ∷ gs) (None ∷ ns) book = account_by_account gs ns book
  account_by_account (g ∷ gs) (Some n ∷ ns) book =
      account_by_account gs ns (counting g.alloc_id (record { frame = frame; words = n - granted g.alloc_id }) book)
      ∙ map-map (account_reported granted frame gs ns) (λ a. if a.alloc_id == g.alloc_id then taking (record { frame = frame; words = n - granted g.alloc_id }) a else a) book
      ∙ map_same _ _ (one_told g gs n ns) book

-- an occupancy of 24 bits, or a garbled one
abbrev pub IsOccupancy : Option ℕ → Type 0
IsOccupancy n = IfSome n (λ words. words < 2 ^ 24)

-- what holds of the occupancies that each grant of an Alloc-ID may have
pub occupancies_all : (P : ℕ → Type 0) (i : ℕ) (gs : List Granted) (ns : List (Option ℕ)) → All (λ g. g.alloc_id ≡ i → (n : ℕ) → n < 2 ^ 24 → P n) gs → All IsOccupancy ns → All P (occupancies i gs ns)
occupancies_all P i [] ns k h = All-nil P
occupancies_all P i (g ∷ gs) [] k h = All-nil P
occupancies_all P i (g ∷ gs) (None ∷ ns) k h = occupancies_all P i gs ns (λ n d l. k (suc n) d (omega (arith, l))) (All-tail IsOccupancy None ns h)
occupancies_all P i (g ∷ gs) (Some n ∷ ns) k h =
    let rest : All P (occupancies i gs ns) = occupancies_all P i gs ns (λ n d l. k (suc n) d (omega (arith, l))) (All-tail IsOccupancy (Some n) ns h) in
    elim (eqb_tells g.alloc_id i) [
      | inl e ↦ rw e.0 (All-cons P n (occupancies i gs ns) (k 0 g (omega arith) e.1 n (All-head IsOccupancy (Some n) ns h)) rest)
      | inr e ↦ rw e.0 rest
    ]

-- what holds of the report that counts and of new ones of a frame holds of the one that counts then
pub counted_all : (P : Counted → Type 0) (granted : ℕ → ℕ) (f : ℕ) (gs : List Granted) (ns : List (Option ℕ)) (a : Account) → IfSome a.counted P →
    All (λ g. g.alloc_id ≡ a.alloc_id → (n : ℕ) → n < 2 ^ 24 → P (record { frame = f; words = n })) gs → All IsOccupancy ns → IfSome (latest (option_to_list a.counted ++ reports_of granted f gs ns a.alloc_id)) P
counted_all P granted f gs ns a known new range =
    let told : ℕ → Counted = λ n. record { frame = f; words = n - granted a.alloc_id } in
    latest_all P (option_to_list a.counted ++ reports_of granted f gs ns a.alloc_id) (All-append P (option_to_list a.counted) (reports_of granted f gs ns a.alloc_id)
    ((elim a.counted as (λ c. IfSome c P → All P (option_to_list c)) [ None ↦ λ _. All-nil P | Some c ↦ λ k. All-cons P c [] k (All-nil P) ]) known)
    (All-map P told (occupancies a.alloc_id gs ns) (occupancies_all (λ n. P (told n)) a.alloc_id gs ns (λ k d l is n small. new k d l is (n - granted a.alloc_id) (omega (arith, small))) range)))

-- what holds of each account, also with its reports of a frame that may count, holds after these reports
pub book_all : (Q : Account → Type 0) (granted : ℕ → ℕ) (f : ℕ) (gs : List Granted) (ns : List (Option ℕ)) (book : List Account) →
    ((a : Account) → a.since ≤ f → Q a → Q (record a { counted = latest (option_to_list a.counted ++ reports_of granted f gs ns a.alloc_id) })) → All Q book → All Q (after_occupancies granted f gs ns book)
book_all Q granted f gs ns book stays h = rw (account_by_account granted f gs ns book) (All-map Q (account_reported granted f gs ns) book
    (All-weaker Q (λ a. Q (account_reported granted f gs ns a)) (λ a q. elim (leb_tells a.since f) [ inl e ↦ rw e.0 (stays a e.1 q) | inr e ↦ rw e.0 q ]) book h))
