-- Reports counted in accounts.
use Rattle.std.proofs.Common.{◌≡◌, ℕ, ◌-◌, ◌⊎◌, inl, inr, true, false, List, [], ◌∷◌, length, refl, ap, sym, subst, ◌∙◌}
use Rattle.std.specs.Prelude.{◌==◌, nat_le, if◌then◌else◌, Option, Some, None}
use Rattle.std.proofs.lemmas.List.{nil_from_length}
use Rattle.pon_lists.proofs.Lists.{map-map, map_same}
use Rattle.pon_guar.specs.Book.{Account, AreRising, Counted, alloc_ids}
use Rattle.pon_units.specs.declared.granted.Granted.{Granted}
use Rattle.pon_guar.specs.Reports.{after_occupancies, counting, taking, with_latest}

pub taking_keeps : (c : Counted) (a : Account) → (taking c a).alloc_id ≡ a.alloc_id
taking_keeps c a = elim (nat_le a.since c.frame) as (λ b. (if b then with_latest c a else a).alloc_id ≡ a.alloc_id) [ true ↦ refl | false ↦ refl ]

pub counting_ids : (i : ℕ) (c : Counted) (book : List Account) → alloc_ids (counting i c book) ≡ alloc_ids book
counting_ids i c book = map-map (λ a. a.alloc_id) (λ a. if a.alloc_id == i then taking c a else a) book ∙ map_same _ (λ a. a.alloc_id) one book
  where
    one : (a : Account) → (if a.alloc_id == i then taking c a else a).alloc_id ≡ a.alloc_id
    one a = elim (a.alloc_id == i) as (λ b. (if b then taking c a else a).alloc_id ≡ a.alloc_id) [ true ↦ taking_keeps c a | false ↦ refl ]

pub counting_rising : (i : ℕ) (c : Counted) (book : List Account) → AreRising (alloc_ids book) → AreRising (alloc_ids (counting i c book))
counting_rising i c book h = subst AreRising (sym (counting_ids i c book)) h

-- One more occupancy, and the end.
module _ (granted : ℕ → ℕ) (frame : ℕ) where
  pub took_one : (gs more : List Granted) (g : Granted) (ns others : List (Option ℕ)) (n left words : ℕ) (book new all : List Account) → gs ≡ g ∷ more → ns ≡ Some n ∷ others →
      new ≡ counting g.alloc_id (record { frame = frame; words = left }) book → left ≡ n - words → words ≡ granted g.alloc_id →
      after_occupancies granted frame gs ns book ≡ all → after_occupancies granted frame more others new ≡ all
  took_one gs more g ns others n left words book new all e q counted rest so_many h =
      ap (after_occupancies granted frame more others) (counted ∙ (λ j. counting g.alloc_id (record { frame = frame; words = (rest ∙ ap (λ w. n - w) so_many) j }) book))
      ∙ (λ j. after_occupancies granted frame (sym e j) (sym q j) book)
      ∙ h

  -- a garbled occupancy is skipped
  pub took_none : (gs more : List Granted) (g : Granted) (ns others : List (Option ℕ)) (book all : List Account) → gs ≡ g ∷ more → ns ≡ None ∷ others →
      after_occupancies granted frame gs ns book ≡ all → after_occupancies granted frame more others book ≡ all
  took_none gs more g ns others book all e q h = (λ j. after_occupancies granted frame (sym e j) (sym q j) book) ∙ h

  no_more : (gs : List Granted) (book : List Account) → after_occupancies granted frame gs [] book ≡ book
  no_more [] book = refl
  no_more (g ∷ gs) book = refl

  pub none_left : (gs : List Granted) (ns : List (Option ℕ)) (book all : List Account) → (length gs ≡ 0) ⊎ (length ns ≡ 0) → after_occupancies granted frame gs ns book ≡ all → book ≡ all
  none_left gs ns book all (inl e) h = ap (λ t. after_occupancies granted frame t ns book) (sym (nil_from_length gs e)) ∙ h
  none_left gs ns book all (inr e) h = sym (no_more gs book) ∙ ap (λ t. after_occupancies granted frame gs t book) (sym (nil_from_length ns e)) ∙ h
