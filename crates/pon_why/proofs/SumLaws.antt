-- Sums of Alloc-IDs, added up.
use Rattle.std.proofs.Common.{◌≡◌, ℕ, zero, suc, ◌+◌, ◌<◌, ◌≤◌, Bool, true, false, List, [], ◌∷◌, ◌++◌, length, drop, get_or, refl, ap, sym, ◌∙◌, add_assoc, add-zero, arith}
use Rattle.std.specs.Prelude.{◌==◌, if◌then◌else◌, slice_set}
use Rattle.std.proofs.lemmas.List.{drop_all, drop_more}
use Rattle.pon_bwmap.specs.Alloc.{Alloc}
use Rattle.pon_why.specs.Sums.{amounts_in, amounts_of, no_sums, plus, sums_if, sums_in}
use Rattle.pon_why.specs.declared.alloc_tallies.AllocTally.{AllocTally}
use Rattle.pon_why.specs.declared.rates.RowRates.{RowRates}
use Rattle.pon_why.specs.declared.sums.Sums.{Sums}

pub plus_none : (a : Sums) → plus a no_sums ≡ a
plus_none a = (λ j. record {
  maps = add-zero a.maps j;
  load = add-zero a.load j;
  guaranteed = add-zero a.guaranteed j;
  surplus = add-zero a.surplus j;
  granted = add-zero a.granted j;
  below = add-zero a.below j;
})

pub plus_assoc : (a b c : Sums) → plus (plus a b) c ≡ plus a (plus b c)
plus_assoc a b c = (λ j. record {
  maps = add_assoc a.maps b.maps c.maps j;
  load = add_assoc a.load b.load c.load j;
  guaranteed = add_assoc a.guaranteed b.guaranteed c.guaranteed j;
  surplus = add_assoc a.surplus b.surplus c.surplus j;
  granted = add_assoc a.granted b.granted c.granted j;
  below = add_assoc a.below b.below c.below j;
})

turned : (a b : ℕ) → a + b ≡ b + a
turned a b = omega arith

plus_comm : (a b : Sums) → plus a b ≡ plus b a
plus_comm a b = (λ j. record {
  maps = turned a.maps b.maps j;
  load = turned a.load b.load j;
  guaranteed = turned a.guaranteed b.guaranteed j;
  surplus = turned a.surplus b.surplus j;
  granted = turned a.granted b.granted j;
  below = turned a.below b.below j;
})

pub plus_swap : (a b c : Sums) → plus (plus a b) c ≡ plus (plus a c) b
plus_swap a b c = plus_assoc a b c ∙ ap (plus a) (plus_comm b c) ∙ sym (plus_assoc a c b)

pub none_plus : (a : Sums) → plus no_sums a ≡ a
none_plus a = plus_comm no_sums a ∙ plus_none a

-- what a row and its structure add for an Alloc-ID
abbrev pub row_amounts : ℕ → RowRates → Alloc → Sums
row_amounts i x a = if x.alloc_id == i then amounts_of x a else no_sums

-- Tallies.

-- one more tally
pub sums_pushed : (i : ℕ) (ts : List AllocTally) (t : AllocTally) → sums_in i (ts ++ t ∷ []) ≡ plus (sums_in i ts) (sums_if i t)
sums_pushed i [] t = plus_none (sums_if i t) ∙ sym (none_plus (sums_if i t))
sums_pushed i (u ∷ ts) t = ap (plus (sums_if i u)) (sums_pushed i ts t) ∙ sym (plus_assoc (sums_if i u) (sums_in i ts) (sums_if i t))

if_plus : (b : Bool) (x y : Sums) → (if b then plus x y else no_sums) ≡ plus (if b then x else no_sums) (if b then y else no_sums)
if_plus true x y = refl
if_plus false x y = sym (plus_none no_sums)

-- a tally grows by another one of the same Alloc-ID
sums_if_more : (i : ℕ) (old new more : AllocTally) → new.alloc_id ≡ old.alloc_id → more.alloc_id ≡ old.alloc_id → new.sums ≡ plus old.sums more.sums →
    sums_if i new ≡ plus (sums_if i old) (sums_if i more)
sums_if_more i old new more e f h =
    (λ j. if e j == i then h j else no_sums) ∙ if_plus (old.alloc_id == i) old.sums more.sums ∙ (λ j. plus (sums_if i old) (if sym f j == i then more.sums else no_sums))

sums_set : (i : ℕ) (ts : List AllocTally) (k : ℕ) (old new : AllocTally) (more : Sums) → k < length ts → sums_if i new ≡ plus (sums_if i (get_or ts k old)) more →
    sums_in i (slice_set ts k new) ≡ plus (sums_in i ts) more
sums_set i [] k old new more lt e = absurd (omega (arith, lt))
sums_set i (t ∷ ts) zero old new more lt e = ap (λ s. plus s (sums_in i ts)) e ∙ plus_swap (sums_if i t) more (sums_in i ts)
sums_set i (t ∷ ts) (suc k) old new more lt e = ap (plus (sums_if i t)) (sums_set i ts k old new more (omega (arith, lt)) e) ∙ sym (plus_assoc (sums_if i t) (sums_in i ts) more)

-- the tally at a place grows by another one of its Alloc-ID
pub sums_grown : (i : ℕ) (ts : List AllocTally) (k : ℕ) (old new more : AllocTally) → k < length ts → old ≡ get_or ts k old → new.alloc_id ≡ old.alloc_id → more.alloc_id ≡ old.alloc_id →
    new.sums ≡ plus old.sums more.sums → sums_in i (slice_set ts k new) ≡ plus (sums_in i ts) (sums_if i more)
sums_grown i ts k old new more lt here e f h =
    sums_set i ts k old new (sums_if i more) lt (sums_if_more i old new more e f h ∙ ap (λ t. plus (sums_if i t) (sums_if i more)) here)

-- a tally at a place is the one there
pub same_at : (ts : List AllocTally) (k : ℕ) (a b : AllocTally) → k < length ts → a ≡ get_or ts k a → b ≡ get_or ts k b → a ≡ b
same_at [] k a b lt e f = absurd (omega (arith, lt))
same_at (t ∷ ts) zero a b lt e f = e ∙ sym f
same_at (t ∷ ts) (suc k) a b lt e f = same_at ts k a b (omega (arith, lt)) e f

-- the tally at a place grows by a row of its Alloc-ID and its structure
pub row_added : (i : ℕ) (ts : List AllocTally) (k : ℕ) (old new : AllocTally) (x : RowRates) (a : Alloc) → k < length ts → old ≡ get_or ts k old → new.alloc_id ≡ old.alloc_id → x.alloc_id ≡ old.alloc_id →
    new.sums ≡ plus old.sums (amounts_of x a) → sums_in i (slice_set ts k new) ≡ plus (sums_in i ts) (row_amounts i x a)
row_added i ts k old new x a lt here e f h =
    sums_grown i ts k old new (record { alloc_id = x.alloc_id; sums = amounts_of x a; idle = old.idle }) lt here e f h

-- the tallies from an index on are the tally there and those after it
pub one_more_tally : (i k : ℕ) (ts : List AllocTally) (t : AllocTally) (a b : Sums) → k < length ts → t ≡ get_or ts k t → b ≡ plus a (sums_if i t) →
    plus b (sums_in i (drop (k + 1) ts)) ≡ plus a (sums_in i (drop k ts))
one_more_tally i k ts t a b lt here e =
    let rest : Sums = sums_in i (drop (k + 1) ts) in
    let from : drop k ts ≡ t ∷ drop (k + 1) ts = drop_more ts k t lt ∙ ap (λ y. y ∷ drop (k + 1) ts) (sym here) in
    ap (λ s. plus s rest) e ∙ plus_assoc a (sums_if i t) rest ∙ ap (λ l. plus a (sums_in i l)) (sym from)

-- no tally is left
pub no_more_tallies : (i k : ℕ) (ts : List AllocTally) (a : Sums) → length ts ≤ k → plus a (sums_in i (drop k ts)) ≡ a
no_more_tallies i k ts a end = ap (λ l. plus a (sums_in i l)) (drop_all k ts end) ∙ plus_none a

-- Rows.

-- the rows from an index on are the row there and those after it
pub amounts_from : (i k : ℕ) (xs : List RowRates) (more : List Alloc) (x : RowRates) (a : Alloc) → k < length xs → k < length more → x ≡ get_or xs k x → a ≡ get_or more k a →
    amounts_in i (drop k xs) (drop k more) ≡ plus (row_amounts i x a) (amounts_in i (drop (k + 1) xs) (drop (k + 1) more))
amounts_from i k xs more x a lx la hx ha =
    let rows : drop k xs ≡ x ∷ drop (k + 1) xs = drop_more xs k x lx ∙ ap (λ y. y ∷ drop (k + 1) xs) (sym hx) in
    let structures : drop k more ≡ a ∷ drop (k + 1) more = drop_more more k a la ∙ ap (λ y. y ∷ drop (k + 1) more) (sym ha) in
    (λ j. amounts_in i (rows j) (structures j))

-- one more row
pub one_more_row : (i k : ℕ) (xs : List RowRates) (more : List Alloc) (x : RowRates) (a : Alloc) (t u : Sums) → k < length xs → k < length more → x ≡ get_or xs k x → a ≡ get_or more k a →
    u ≡ plus t (row_amounts i x a) → plus u (amounts_in i (drop (k + 1) xs) (drop (k + 1) more)) ≡ plus t (amounts_in i (drop k xs) (drop k more))
one_more_row i k xs more x a t u lx la hx ha e =
    let rest : Sums = amounts_in i (drop (k + 1) xs) (drop (k + 1) more) in
    ap (λ v. plus v rest) e ∙ plus_assoc t (row_amounts i x a) rest ∙ ap (plus t) (sym (amounts_from i k xs more x a lx la hx ha))

-- no row is left
pub no_more_rows : (i k : ℕ) (xs : List RowRates) (more : List Alloc) (t : Sums) → length xs ≤ k → plus t (amounts_in i (drop k xs) (drop k more)) ≡ t
no_more_rows i k xs more t end = ap (λ ys. plus t (amounts_in i ys (drop k more))) (drop_all k xs end) ∙ plus_none t
