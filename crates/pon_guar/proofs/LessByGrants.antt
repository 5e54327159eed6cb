-- Accounts reduced grant by grant.
use Rattle.std.proofs.Common.{◌≡◌, ℕ, ◌+◌, ◌-◌, List, [], ◌∷◌, ◌++◌, map, refl, ap, sym, ◌∙◌, subst, arith, inl, inr}
use Rattle.std.specs.Prelude.{◌==◌, if◌then◌else◌, Option, Some, None, option_map, IfSome}
use Rattle.std.proofs.lemmas.Bool.{eq-eqb, ne_eqb}
use Rattle.std.proofs.lemmas.Bool.Decides.{eqb_tells}
use Rattle.std.proofs.lemmas.List.Sums.{sum_by-append, sum_by-cons}
use Rattle.pon_lists.proofs.Lists.{map-map}
use Rattle.pon_guar.specs.Book.{Account, AreRising, Counted, alloc_ids}
use Rattle.pon_units.specs.declared.granted.Granted.{Granted}
use Rattle.pon_guar.specs.Window.{words_among}
use Rattle.pon_guar.specs.Loads.{less, less_by, lessened}
use Rattle.pon_guar.proofs.Accounts.{changing}

pub less_none : (c : Option Counted) → option_map (less 0) c ≡ c
less_none None = refl
less_none (Some c) = (λ j. Some (record { frame = c.frame; words = minus_zero c.words j }))
  where
    minus_zero : (n : ℕ) → n - 0 ≡ n
    minus_zero n = omega arith

less_less : (v w : ℕ) (c : Option Counted) → option_map (less w) (option_map (less v) c) ≡ option_map (less (v + w)) c
less_less v w None = refl
less_less v w (Some c) = (λ j. Some (record { frame = c.frame; words = sub_sub c.words j }))
  where
    sub_sub : (n : ℕ) → (n - v) - w ≡ n - (v + w)
    sub_sub n = omega arith

-- no grants leave the accounts unchanged
pub lessened_none : (book : List Account) → map (lessened []) book ≡ book
lessened_none [] = refl
lessened_none (a ∷ book) = (λ j. record { alloc_id = a.alloc_id; since = a.since; counted = less_none a.counted j } ∷ lessened_none book j)

pub lessened_ids : (gs : List Granted) (book : List Account) → alloc_ids (map (lessened gs) book) ≡ alloc_ids book
lessened_ids gs book = map-map (λ a. a.alloc_id) (lessened gs) book

words_more : (i : ℕ) (gs : List Granted) (g : Granted) → words_among i (gs ++ g ∷ []) ≡ words_among i gs + (if g.alloc_id == i then g.words else 0)
words_more i gs g =
    let last : words_among i (g ∷ []) ≡ (if g.alloc_id == i then g.words else 0) + 0 = sum_by-cons (λ g. if g.alloc_id == i then g.words else 0) g [] in
    let both : words_among i (gs ++ g ∷ []) ≡ words_among i gs + words_among i (g ∷ []) = sum_by-append (λ g. if g.alloc_id == i then g.words else 0) gs (g ∷ []) in
    omega (arith, last, both)

-- One more grant.
module _ (gs : List Granted) (g : Granted) where
  more_for : (a : Account) → (if a.alloc_id == g.alloc_id then less_by g.words (lessened gs a) else lessened gs a) ≡ lessened (gs ++ g ∷ []) a
  more_for a = elim (eqb_tells a.alloc_id g.alloc_id) [
    | inl e ↦
        let more : words_among a.alloc_id (gs ++ g ∷ []) ≡ words_among a.alloc_id gs + g.words
        = words_more a.alloc_id gs g ∙ ap (λ b. words_among a.alloc_id gs + (if b then g.words else 0)) (eq-eqb g.alloc_id a.alloc_id (sym e.1)) in
        ap (λ b. if b then less_by g.words (lessened gs a) else lessened gs a) e.0
        ∙ (λ j. record { alloc_id = a.alloc_id; since = a.since; counted = less_less (words_among a.alloc_id gs) g.words a.counted j })
        ∙ ap (λ w. less_by w a) (sym more)
    | inr e ↦
        let same : words_among a.alloc_id (gs ++ g ∷ []) ≡ words_among a.alloc_id gs + 0
        = words_more a.alloc_id gs g ∙ ap (λ b. words_among a.alloc_id gs + (if b then g.words else 0)) (ne_eqb g.alloc_id a.alloc_id (λ q. e.1 (sym q))) in
        ap (λ b. if b then less_by g.words (lessened gs a) else lessened gs a) e.0
        ∙ ap (λ w. less_by w a) (let n : words_among a.alloc_id gs ≡ words_among a.alloc_id (gs ++ g ∷ []) = omega (arith, same) in n)
  ]

  pub less_more : (book : List Account) → changing (less_by g.words) g.alloc_id (map (lessened gs) book) ≡ map (lessened (gs ++ g ∷ [])) book
  less_more [] = refl
  less_more (a ∷ book) = (λ j. more_for a j ∷ less_more book j)

pub lessened_rising : (gs : List Granted) (book : List Account) → AreRising (alloc_ids book) → AreRising (alloc_ids (map (lessened gs) book))
lessened_rising gs book h = subst AreRising (sym (lessened_ids gs book)) h

-- reports are lessened by more words
pub less_twice : {X : Type 0} (f : X → Counted) (v w : ℕ) (xs : List X) → map (λ x. less (v + w) (f x)) xs ≡ map (less w) (map (λ x. less v (f x)) xs)
less_twice f v w [] = refl
less_twice f v w (x ∷ xs) = (let both : (f x).words - (v + w) ≡ ((f x).words - v) - w = omega arith in (λ j. record { frame = (f x).frame; words = both j } ∷ less_twice f v w xs j))

-- what holds of a report with fewer words, if there is one
pub if_less : (P Q : Counted → Type 0) (w : ℕ) (c : Option Counted) → ((c : Counted) → P c → Q (less w c)) → IfSome c P → IfSome (option_map (less w) c) Q
if_less P Q w None stays h = tt
if_less P Q w (Some c) stays h = stays c h
