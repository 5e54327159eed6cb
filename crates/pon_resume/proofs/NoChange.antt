-- There is no change exactly if a port has the rows of its settings.
use Rattle.std.proofs.Common.{◌≡◌, ◌↔◌, ℕ, zero, suc, ◌<◌, Bool, true, false, not, ◌&&◌, List, [], ◌∷◌, ◌++◌, get_or, length, if◌then◌else◌, refl, ap, sym, ◌∙◌, arith, inl, inr, Option, Some, None, Result, Ok, Err, IfOk}
use Rattle.std.specs.Prelude.{All, Any, ◌==◌, filter_map}
use Rattle.std.specs.List.{cons_option, list_any}
use Rattle.std.proofs.lemmas.Bool.{and_from, and_parts, cases_Bool, eq-eqb, eqb-true, or_parts}
use Rattle.std.proofs.lemmas.List.Elements.{All-cons, All-head, All-nil, All-tail}
use Rattle.std.proofs.lemmas.List.Folds.{Any-from_list_any, list_any-from_Any, list_any_none}
use Rattle.pon_descr.specs.Descriptor.{Descriptor}
use Rattle.pon_descr.specs.declared.class.Class.{Class}
use Rattle.pon_descr.specs.declared.class.Class.TheVariants.{Plain, NonAssured, BestEffort}
use Rattle.pon_admit.specs.Roster.{IsDistinct, has_alloc}
use Rattle.pon_admit.specs.declared.row.Row.{Row}
use Rattle.pon_settings.specs.declared.row.SettingsRow.{SettingsRow}
use Rattle.pon_resume.specs.declared.changes.Change.{Change}
use Rattle.pon_resume.specs.declared.changes.Change.TheVariants as change
use Rattle.pon_resume.specs.Changes.{HasRows, admission_for, changes_between, descriptor_for, differs, is_at, is_same, is_same_class, removal_for}

-- Lists.

both_none : {Y : Type 0} (o : Option Y) (ys : List Y) → cons_option o ys ≡ [] → (o ≡ None) × (ys ≡ [])
both_none None ys e = (refl, e)
both_none (Some y) ys e = absurd cc

module _ {X Y : Type 0} (h : X → Option Y) where
  none_each : (xs : List X) → filter_map h xs ≡ [] → All (λ x. h x ≡ None) xs
  none_each [] e = All-nil (λ x. h x ≡ None)
  none_each (x ∷ xs) e = let two = both_none (h x) (filter_map h xs) e in All-cons (λ x. h x ≡ None) x xs two.0 (none_each xs two.1)

  none_of_each : (xs : List X) → All (λ x. h x ≡ None) xs → filter_map h xs ≡ []
  none_of_each [] a = refl
  none_of_each (x ∷ xs) a = ap (λ (o : Option Y). cons_option o (filter_map h xs)) (All-head (λ x. h x ≡ None) x xs a) ∙ none_of_each xs (All-tail (λ x. h x ≡ None) x xs a)

both_empty : {X : Type 0} (xs ys : List X) → xs ++ ys ≡ [] → (xs ≡ []) × (ys ≡ [])
both_empty [] ys e = (refl, e)
both_empty (x ∷ xs) ys e = absurd cc

each_fails : {X : Type 0} (p : X → Bool) (xs : List X) → list_any p xs ≡ false → All (λ x. p x ≡ false) xs
each_fails p [] e = All-nil (λ x. p x ≡ false)
each_fails p (x ∷ xs) e = let two = or_parts (p x) (list_any p xs) e in All-cons (λ x. p x ≡ false) x xs two.0 (each_fails p xs two.1)

if_none : {Y : Type 0} (b : Bool) (y : Y) → (if b then None else Some y) ≡ None → b ≡ true
if_none true y e = refl
if_none false y e = absurd cc

if_some : {Y : Type 0} (b : Bool) (y : Y) → (if b then Some y else None) ≡ None → b ≡ false
if_some true y e = absurd cc
if_some false y e = refl

pub ok_then : {X E : Type 0} (r : Result X E) {P Q : X → Type 0} → ((x : X) → P x → Q x) → IfOk r P → IfOk r Q
ok_then (Ok x) f h = f x h
ok_then (Err e) f h = tt

-- Rows.

same_class : (c d : Class) → is_same_class c d ≡ true → c ≡ d
same_class Plain Plain e = refl
same_class Plain NonAssured e = absurd cc
same_class Plain BestEffort e = absurd cc
same_class NonAssured Plain e = absurd cc
same_class NonAssured NonAssured e = refl
same_class NonAssured BestEffort e = absurd cc
same_class BestEffort Plain e = absurd cc
same_class BestEffort NonAssured e = absurd cc
same_class BestEffort BestEffort e = refl

class_itself : (c : Class) → is_same_class c c ≡ true
class_itself Plain = refl
class_itself NonAssured = refl
class_itself BestEffort = refl

same_descriptor : (d e : Descriptor) → is_same d e ≡ true → d ≡ e
same_descriptor d e h =
    let one = and_parts (d.fixed == e.fixed) (d.assured == e.assured && (d.max == e.max && is_same_class d.class e.class)) h in
    let two = and_parts (d.assured == e.assured) (d.max == e.max && is_same_class d.class e.class) one.1 in
    let three = and_parts (d.max == e.max) (is_same_class d.class e.class) two.1 in
    let fixed = eqb-true d.fixed e.fixed one.0 in
    let assured = eqb-true d.assured e.assured two.0 in
    let max = eqb-true d.max e.max three.0 in
    let class = same_class d.class e.class three.1 in
    λ j. record { fixed = fixed j; assured = assured j; max = max j; class = class j }

descriptor_itself : (d : Descriptor) → is_same d d ≡ true
descriptor_itself d = and_from (d.fixed == d.fixed) (d.assured == d.assured && (d.max == d.max && is_same_class d.class d.class)) (eq-eqb d.fixed d.fixed refl)
    (and_from (d.assured == d.assured) (d.max == d.max && is_same_class d.class d.class) (eq-eqb d.assured d.assured refl)
    (and_from (d.max == d.max) (is_same_class d.class d.class) (eq-eqb d.max d.max refl) (class_itself d.class)))

at_parts : (r s : Row) → is_at r s ≡ true → (r.alloc_id ≡ s.alloc_id) × (r.onu ≡ s.onu)
at_parts r s h =
    let two = and_parts (r.alloc_id == s.alloc_id) (r.onu == s.onu) h in
    (eqb-true r.alloc_id s.alloc_id two.0, eqb-true r.onu s.onu two.1)

at_from : (r s : Row) → r.alloc_id ≡ s.alloc_id → r.onu ≡ s.onu → is_at r s ≡ true
at_from r s i u = and_from (r.alloc_id == s.alloc_id) (r.onu == s.onu) (eq-eqb r.alloc_id s.alloc_id i) (eq-eqb r.onu s.onu u)

not_not : (b : Bool) → not b ≡ false → b ≡ true
not_not true e = refl
not_not false e = absurd cc

-- rows at the same place with no other descriptor are equal
same_row : (r s : Row) → is_at r s ≡ true → differs r s ≡ false → r ≡ s
same_row r s at same =
    let two = at_parts r s at in
    let descriptor = same_descriptor r.descriptor s.descriptor (not_not (is_same r.descriptor s.descriptor) (ap (λ (b : Bool). b && not (is_same r.descriptor s.descriptor)) (sym at) ∙ same)) in
    λ j. record { onu = two.1 j; alloc_id = two.0 j; descriptor = descriptor j }

and_no : (b : Bool) → (b && false) ≡ false
and_no true = refl
and_no false = refl

never_differs : (r s : Row) → r ≡ s → differs r s ≡ false
never_differs r s e = ap (λ (q : Row). differs q s) e ∙ ap (λ (b : Bool). is_at s s && not b) (descriptor_itself s.descriptor) ∙ and_no (is_at s s)

not_among : (i : ℕ) (rows : List Row) → has_alloc i rows ≡ false → All (λ r. r.alloc_id ≡ i → ⊥) rows
not_among i [] h = All-nil (λ r. r.alloc_id ≡ i → ⊥)
not_among i (r ∷ rows) h =
    let two : ((r.alloc_id == i) ≡ false) × (has_alloc i rows ≡ false) = or_parts (r.alloc_id == i) (has_alloc i rows) h in
    All-cons (λ r. r.alloc_id ≡ i → ⊥) r rows (λ e. let t : true ≡ false = sym (eq-eqb r.alloc_id i e) ∙ two.0 in absurd cc) (not_among i rows two.1)

-- a roster has one row of an Alloc-ID
one_row : (rows : List Row) → IsDistinct rows → (i j : ℕ) (d e : Row) → i < length rows → j < length rows → (get_or rows i d).alloc_id ≡ (get_or rows j e).alloc_id → get_or rows i d ≡ get_or rows j e
one_row [] apart i j d e l m same = absurd (omega (arith, l))
one_row (r ∷ rows) apart zero zero d e l m same = refl
one_row (r ∷ rows) apart zero (suc j) d e l m same = absurd (not_among r.alloc_id rows apart.0 j e (omega (arith, m)) (sym same))
one_row (r ∷ rows) apart (suc i) zero d e l m same = absurd (not_among r.alloc_id rows apart.0 i d (omega (arith, l)) same)
one_row (r ∷ rows) apart (suc i) (suc j) d e l m same = one_row rows apart.1 i j d e (omega (arith, l)) (omega (arith, m)) same

-- Both ways.

module _ (wanted : List SettingsRow) (rows : List Row) where
  has_rows : changes_between wanted rows ≡ [] → HasRows wanted rows
  has_rows e =
      let one = both_empty (filter_map (removal_for wanted) rows) (filter_map (descriptor_for rows) wanted ++ filter_map (admission_for rows) wanted) e in
      let two = both_empty (filter_map (descriptor_for rows) wanted) (filter_map (admission_for rows) wanted) one.1 in
      let removed : All (λ r. removal_for wanted r ≡ None) rows = none_each (removal_for wanted) rows one.0 in
      let changed : All (λ w. descriptor_for rows w ≡ None) wanted = none_each (descriptor_for rows) wanted two.0 in
      let admitted : All (λ w. admission_for rows w ≡ None) wanted = none_each (admission_for rows) wanted two.1 in
      record {
        no_others = λ k d lt.
            let r : Row = get_or rows k d in
            let found : Any (λ w. is_at w.row r ≡ true) wanted = Any-from_list_any (λ (w : SettingsRow). is_at w.row r) wanted (if_none _ (change.Remove r.alloc_id) (removed k d lt)) in
            let w : SettingsRow = found.1 in
            let v : SettingsRow = get_or wanted found.0 w in
            let place = at_parts w.row r found.4 in
            let same : differs r w.row ≡ false = ap (λ (u : SettingsRow). differs r u.row) (sym found.3)
            ∙ each_fails (λ (q : Row). differs q v.row) rows (if_some _ (change.Descriptor v.row.alloc_id v.row.descriptor) (changed found.0 w found.2)) k d lt in
            (found.0, w, found.2, found.3, sym (same_row r w.row (at_from r w.row (sym place.0) (sym place.1)) same));
        each = λ k d lt.
            let w : SettingsRow = get_or wanted k d in
            let found : Any (λ r. is_at r w.row ≡ true) rows = Any-from_list_any (λ (r : Row). is_at r w.row) rows (if_none _ (change.Admit w.row) (admitted k d lt)) in
            let same : differs found.1 w.row ≡ false = ap (λ (q : Row). differs q w.row) (sym found.3)
            ∙ each_fails (λ (q : Row). differs q w.row) rows (if_some _ (change.Descriptor w.row.alloc_id w.row.descriptor) (changed k d lt)) found.0 found.1 found.2 in
            (found.0, found.1, found.2, found.3, same_row found.1 w.row found.4 same);
      }

  changes_none : IsDistinct rows → HasRows wanted rows → changes_between wanted rows ≡ []
  changes_none apart h =
      let removed : All (λ r. removal_for wanted r ≡ None) rows = λ k d lt.
      let r : Row = get_or rows k d in
      let m = h.no_others k d lt in
      let place : is_at m.1.row r ≡ true = at_from m.1.row r (ap (λ (q : Row). q.alloc_id) m.4) (ap (λ (q : Row). q.onu) m.4) in
      ap (λ (b : Bool). if b then None else Some (change.Remove r.alloc_id)) (list_any-from_Any (λ (w : SettingsRow). is_at w.row r) wanted (m.0, m.1, m.2, m.3, place)) in
      let admitted : All (λ w. admission_for rows w ≡ None) wanted = λ k d lt.
      let w : SettingsRow = get_or wanted k d in
      let m = h.each k d lt in
      let place : is_at m.1 w.row ≡ true = at_from m.1 w.row (ap (λ (q : Row). q.alloc_id) m.4) (ap (λ (q : Row). q.onu) m.4) in
      ap (λ (b : Bool). if b then None else Some (change.Admit w.row)) (list_any-from_Any (λ (r : Row). is_at r w.row) rows (m.0, m.1, m.2, m.3, place)) in
      let changed : All (λ w. descriptor_for rows w ≡ None) wanted = λ k d lt.
      let w : SettingsRow = get_or wanted k d in
      let m = h.each k d lt in
      ap (λ (b : Bool). if b then Some (change.Descriptor w.row.alloc_id w.row.descriptor) else None) (list_any_none (λ (r : Row). differs r w.row) rows (λ n e within.
      let r : Row = get_or rows n e in
      elim (cases_Bool (is_at r w.row)) [
        | inl at ↦ never_differs r w.row (one_row rows apart n m.0 e m.1 within m.2 ((at_parts r w.row at).0 ∙ ap (λ (q : Row). q.alloc_id) (sym (m.3 ∙ m.4))) ∙ m.3 ∙ m.4)
        | inr off ↦ ap (λ (b : Bool). b && not (is_same r.descriptor w.row.descriptor)) off
      ])) in
      ap (λ (l : List Change). l ++ (filter_map (descriptor_for rows) wanted ++ filter_map (admission_for rows) wanted)) (none_of_each (removal_for wanted) rows removed)
      ∙ ap (λ (l : List Change). l ++ filter_map (admission_for rows) wanted) (none_of_each (descriptor_for rows) wanted changed)
      ∙ none_of_each (admission_for rows) wanted admitted

  pub no_change : IsDistinct rows → (changes_between wanted rows ≡ []) ↔ HasRows wanted rows
  no_change apart = (has_rows, changes_none apart)
