-- The first line that does not fit, and those before it.
use Rattle.std.proofs.Common.{◌≡◌, ◌⊎◌, ℕ, zero, suc, ◌+◌, ◌<◌, ◌≤◌, Bool, true, false, List, [], ◌∷◌, ◌++◌, length, map, drop, take, replicate, refl, ap, sym, ◌∙◌, arith, subst, inl, inr, append_assoc, Option, Some, None, Result, Ok, Err}
use Rattle.std.specs.Prelude.{◌↔◌, codes, if◌then◌else◌, get_or}
use Rattle.std.specs.Str.{bytes_eq}
use Rattle.std.proofs.lemmas.Slice.Eq.{bytes_eq-Decides}
use Rattle.pon_cert.specs.declared.problem.TheConstants.{MAX_ITEMS}
use Rattle.pon_text.specs.Cuts.{follows}
use Rattle.pon_lists.specs.ResultSteps.{◌>>=◌}
use Rattle.pon_cert.specs.declared.problem.Item.{Item}
use Rattle.pon_cert.specs.declared.cert.Level.{Level}
use Rattle.pon_check_file.specs.CheckLines.{surplus_of, item_on_line, level_on_line, flags_of}
use Rattle.pon_check_file.specs.CheckFiles.{Filed, and_others, are_empty, file_of, file_with, first_spells, items_in_row, items_of, on_line}
use Rattle.pon_check_file.specs.Unfit.{AreProblem, HasMore, IsFirstUnfit, LacksLevel, LacksSet, LacksSurplus}

-- ---- the items in a row, up to a number of them, and the lines after them
pub record Row (most : ℕ) (ls : List (List ℕ)) (items : List Item) : Type 0 where
  pub lines : List (List ℕ)
  pub rest : List (List ℕ)
  pub all : ls ≡ lines ++ rest
  pub are_items : map item_on_line lines ≡ map Some items
  pub count : length items ≤ most
  pub left : drop (length items) ls ≡ rest
  pub ends : length items < most → first_spells item_on_line rest ≡ None

row_step : (most : ℕ) (l : List ℕ) (ls : List (List ℕ)) (o : Option Item) → item_on_line l ≡ o → Row most ls (take most (items_in_row ls)) → Row (suc most) (l ∷ ls) (take (suc most) (and_others o (items_in_row ls)))
row_step most l ls None is more = record { lines = []; rest = l ∷ ls; all = refl; are_items = refl; count = omega arith; left = refl; ends = λ m. is }
row_step most l ls (Some i) is more = record {
  lines = l ∷ more.lines;
  rest = more.rest;
  all = ap (λ ls. l ∷ ls) more.all;
  are_items = λ j. is j ∷ more.are_items j;
  count = omega (arith, more.count);
  left = more.left;
  ends = λ m. more.ends (omega (arith, m));
}

pub row : (most : ℕ) (ls : List (List ℕ)) → Row most ls (take most (items_in_row ls))
row zero ls = record { lines = []; rest = ls; all = refl; are_items = refl; count = omega arith; left = refl; ends = λ l. absurd (omega (arith, l)) }
row (suc most) [] = record { lines = []; rest = []; all = refl; are_items = refl; count = omega arith; left = refl; ends = λ l. refl }
row (suc most) (l ∷ ls) = row_step most l ls (item_on_line l) refl (row most ls)

-- ---- a line that is returned does not fit
row_length : (lines : List (List ℕ)) (items : List Item) → map item_on_line lines ≡ map Some items → length lines ≡ length items
row_length [] [] e = refl
row_length [] (i ∷ is) e = absurd (cc)
row_length (l ∷ ls) [] e = absurd (cc)
row_length (l ∷ ls) (i ∷ is) e = let more : map item_on_line ls ≡ map Some is = cc in ap suc (row_length ls is more)

record Filled (n : ℕ) (ls : List (List ℕ)) (at : ℕ) : Type 0 where
  pub empty : ℕ
  pub byte : ℕ
  pub bytes : List ℕ
  pub others : List (List ℕ)
  pub all : ls ≡ replicate empty [] ++ (byte ∷ bytes) ∷ others
  pub place : at ≡ n + empty

filled : (n at : ℕ) (ls : List (List ℕ)) → are_empty n ls ≡ Err at → Filled n ls at
filled n at [] e = absurd (cc)
filled n at ([] ∷ ls) e =
    let more = filled (suc n) at ls e in
    record { empty = suc more.empty; byte = more.byte; bytes = more.bytes; others = more.others; all = ap (λ ls. [] ∷ ls) more.all; place = omega (arith, more.place) }
filled n at ((b ∷ l) ∷ ls) e = let same : n ≡ at = cc in record { empty = 0; byte = b; bytes = l; others = ls; all = refl; place = omega (arith, same) }

length_to : (a b : List (List ℕ)) → length (a ++ b) ≡ length a + length b
length_to [] b = omega arith
length_to (x ∷ a) b = omega (arith, length_to a b)

length_empty : (n : ℕ) → length (replicate {A = List ℕ} n []) ≡ n
length_empty zero = refl
length_empty (suc n) = ap suc (length_empty n)

-- the content of a file, from the result of its last lines
abbrev pub with_end : ℕ → List Item → Level → List Bool → Result (Unit {0}) ℕ → Result Filed ℕ
with_end s items level flags r = r >>= λ end. Ok (record { surplus = s; items = items; cert = record { level = level; saturated = flags } })

abbrev pub with_set : ℕ → List Item → Level → List (List ℕ) → Option (List Bool) → Result Filed ℕ
with_set s items level ls o = on_line (length items + 3) o >>= λ flags. with_end s items level flags (are_empty (length items + 4) (drop 1 ls))

abbrev pub with_level : ℕ → List Item → List (List ℕ) → Option Level → Result Filed ℕ
with_level s items ls o = on_line (length items + 2) o >>= λ level. on_line (length items + 3) (first_spells (flags_of (length items)) (drop 1 ls)) >>= λ flags. with_end s items level flags (are_empty (length items + 4) (drop 2 ls))

-- a line that does not fit after the problem
unfit_after : (s : ℕ) (items : List Item) (lines rest : List (List ℕ)) (n : ℕ) → AreProblem lines items → length lines ≡ length items + 1 →
    (length items < MAX_ITEMS → first_spells item_on_line rest ≡ None) → file_with s items rest ≡ Err n → IsFirstUnfit (lines ++ rest) n
unfolding file_with
unfit_after s items lines rest n p size ends e = at_level (first_spells level_on_line rest) refl e
  where
    at_set : (ll : List ℕ) (ls : List (List ℕ)) (level : Level) → rest ≡ ll ∷ ls → level_on_line ll ≡ Some level → (o : Option (List Bool)) → first_spells (flags_of (length items)) ls ≡ o →
        with_set s items level ls o ≡ Err n → IsFirstUnfit (lines ++ rest) n
    at_set ll ls level cut is None none e = record {
      before = lines ++ ll ∷ [];
      rest = ls;
      all = ap (λ r. lines ++ r) cut ∙ sym (append_assoc lines (ll ∷ []) ls);
      place = let same : length items + 3 ≡ n = cc in omega (arith, same, size, length_to lines (ll ∷ []));
      unfit = inr (inr (inl (record { lines = lines; items = items; problem = p; level_line = ll; level = level; is_level = is; all_before = refl; no_set = none })));
    }
    at_set ll [] level cut is (Some flags) some e = absurd (cc)
    at_set ll (f ∷ ls) level cut is (Some flags) some e = at_end (are_empty (length items + 4) ls) refl e
      where
        at_end : (r : Result (Unit {0}) ℕ) → are_empty (length items + 4) ls ≡ r → with_end s items level flags r ≡ Err n → IsFirstUnfit (lines ++ rest) n
        at_end (Ok t) k e = absurd (cc)
        at_end (Err m) k e =
            let same : m ≡ n = cc in
            let more = filled (length items + 4) m ls k in
            record {
              before = lines ++ ll ∷ f ∷ replicate more.empty [];
              rest = (more.byte ∷ more.bytes) ∷ more.others;
              all = ap (λ r. lines ++ r) (cut ∙ ap (λ ls. ll ∷ f ∷ ls) more.all) ∙ sym (append_assoc lines (ll ∷ f ∷ replicate more.empty []) ((more.byte ∷ more.bytes) ∷ more.others));
              place = omega (arith, same, more.place, size, length_to lines (ll ∷ f ∷ replicate more.empty []), length_empty more.empty);
              unfit = inr (inr (inr (record {
                lines = lines;
                items = items;
                problem = p;
                level_line = ll;
                level = level;
                is_level = is;
                set_line = f;
                flags = flags;
                is_set = some;
                empty = more.empty;
                all_before = refl;
                byte = more.byte;
                bytes = more.bytes;
                others = more.others;
                not_empty = refl;
              })));
            }

    cut_level : (ls : List (List ℕ)) (level : Level) → rest ≡ ls → first_spells level_on_line ls ≡ Some level →
        with_level s items ls (Some level) ≡ Err n → IsFirstUnfit (lines ++ rest) n
    cut_level [] level cut is e = absurd (cc)
    cut_level (ll ∷ ls) level cut is e = at_set ll ls level cut is (first_spells (flags_of (length items)) ls) refl e

    at_level : (o : Option Level) → first_spells level_on_line rest ≡ o →
        with_level s items rest o ≡ Err n → IsFirstUnfit (lines ++ rest) n
    at_level None none e = record {
      before = lines;
      rest = rest;
      all = refl;
      place = let same : length items + 2 ≡ n = cc in omega (arith, same, size);
      unfit = inr (inl (record { items = items; problem = p; no_level = none; no_item = ends }));
    }
    at_level (Some level) is e = cut_level rest level refl is e

told : (ls : List (List ℕ)) (n : ℕ) → file_of ls ≡ Err n → IsFirstUnfit ls n
unfolding file_of
told [] n e = let same : 1 ≡ n = cc in record { before = []; rest = []; all = refl; place = sym same; unfit = inl (record { first = refl; no_surplus = refl }) }
told (l ∷ ls) n e = at_surplus (surplus_of l) refl e
  where
    at_surplus : (o : Option ℕ) → surplus_of l ≡ o → (on_line 1 o >>= λ s. file_with s (items_of ls) (drop (length (items_of ls)) ls)) ≡ Err n → IsFirstUnfit (l ∷ ls) n
    at_surplus None is e = let same : 1 ≡ n = cc in record { before = []; rest = l ∷ ls; all = refl; place = sym same; unfit = inl (record { first = refl; no_surplus = is }) }
    at_surplus (Some s) is e =
        let r = row MAX_ITEMS ls in
        let after = unfit_after s (items_of ls) (l ∷ r.lines) r.rest n
        (record { surplus = s; is_surplus = is; are_items = r.are_items; count = r.count })
        (omega (arith, row_length r.lines (items_of ls) r.are_items)) r.ends (ap (file_with s (items_of ls)) (sym r.left) ∙ e) in
        subst (λ ls. IsFirstUnfit (l ∷ ls) n) (sym r.all) after

-- ---- a line that does not fit is returned
row_back : (most : ℕ) (lines rest : List (List ℕ)) (items : List Item) → map item_on_line lines ≡ map Some items → length items ≤ most →
    (length items < most → first_spells item_on_line rest ≡ None) → take most (items_in_row (lines ++ rest)) ≡ items
row_back most (l ∷ ls) rest [] e c ends = absurd (cc)
row_back most [] rest (i ∷ is) e c ends = absurd (cc)
row_back zero [] rest [] e c ends = refl
row_back (suc most) [] [] [] e c ends = refl
row_back (suc most) [] (l ∷ ls) [] e c ends = ap (λ o. take (suc most) (and_others o (items_in_row ls))) (ends (omega arith))
row_back zero (l ∷ ls) rest (i ∷ is) e c ends = absurd (omega (arith, c))
row_back (suc most) (l ∷ ls) rest (i ∷ is) e c ends =
    let first : item_on_line l ≡ Some i = cc in
    let more : map item_on_line ls ≡ map Some is = cc in
    ap (λ o. take (suc most) (and_others o (items_in_row (ls ++ rest)))) first
    ∙ ap (λ is. i ∷ is) (row_back most ls rest is more (omega (arith, c)) (λ m. ends (omega (arith, m))))

drop_lines : (n : ℕ) (a b : List (List ℕ)) → length a ≡ n → drop n (a ++ b) ≡ b
drop_lines n [] b e = rw (sym e) refl
drop_lines zero (x ∷ a) b e = absurd (omega (arith, e))
drop_lines (suc n) (x ∷ a) b e = drop_lines n a b (omega (arith, e))

-- the content of a file with these lines after a problem
pub after_problem : (lines rest : List (List ℕ)) (items : List Item) (p : AreProblem lines items) → (length items < MAX_ITEMS → first_spells item_on_line rest ≡ None) →
    (file_of (lines ++ rest) ≡ file_with p.surplus items rest) × (length lines ≡ length items + 1)
unfolding file_of
after_problem [] rest items p ends = let none : None ≡ Some p.surplus = p.is_surplus in absurd (cc)
after_problem (l ∷ ls) rest items p ends =
    let row : items_of (ls ++ rest) ≡ items = row_back MAX_ITEMS ls rest items p.are_items p.count ends in
    let size = row_length ls items p.are_items in
    let first : surplus_of l ≡ Some p.surplus = p.is_surplus in (
      ap (λ o. on_line 1 o >>= λ s. file_with s (items_of (ls ++ rest)) (drop (length (items_of (ls ++ rest))) (ls ++ rest))) first
          ∙ ap (λ is. file_with p.surplus is (drop (length is) (ls ++ rest))) row
          ∙ ap (file_with p.surplus items) (drop_lines (length items) ls rest size),
      omega (arith, size),
    )

are_not_empty : (n k b : ℕ) (l : List ℕ) (ls : List (List ℕ)) → are_empty n (replicate k [] ++ (b ∷ l) ∷ ls) ≡ Err (n + k)
are_not_empty n zero b l ls = ap Err (omega arith)
are_not_empty n (suc k) b l ls = are_not_empty (suc n) k b l ls ∙ ap Err (omega arith)

-- a level is not an item
starts_with : (first l : List ℕ) (x : List ℕ) → follows first l ≡ Some x → take (length first) l ≡ first
starts_with first l x e = go (bytes_eq (take (length first) l) first) refl e
  where
    go : (b : Bool) → bytes_eq (take (length first) l) first ≡ b → (if b then Some (drop (length first) l) else None) ≡ Some x → take (length first) l ≡ first
    go true is e = (bytes_eq-Decides (take (length first) l) first).0 is
    go false is e = absurd (cc)

no_keyword : (l : List ℕ) → take 6 l ≡ codes "level " → (o : Option (List ℕ)) → follows (codes "item ") l ≡ o → o ≡ None
no_keyword l starts None is = refl
no_keyword [] starts (Some x) is = absurd (cc)
no_keyword (b ∷ l) starts (Some x) is =
    let item : take 5 (b ∷ l) ≡ codes "item " = starts_with (codes "item ") (b ∷ l) x is in
    let one : b ≡ 108 = ap (λ l. get_or l 0 0) starts in
    let two : b ≡ 105 = ap (λ l. get_or l 0 0) item in
    absurd (omega (arith, one, two))

level_keyword : (l : List ℕ) (level : Level) → level_on_line l ≡ Some level → (o : Option (List ℕ)) → follows (codes "level ") l ≡ o → take 6 l ≡ codes "level "
unfolding level_on_line
level_keyword l level e None is =
    let none : level_on_line l ≡ None = rw is refl in
    absurd (cc)
level_keyword l level e (Some x) is = starts_with (codes "level ") l x is

pub level_no_item : (l : List ℕ) (level : Level) → level_on_line l ≡ Some level → item_on_line l ≡ None
unfolding item_on_line
level_no_item l level e =
    let none = no_keyword l (level_keyword l level e (follows (codes "level ") l) refl) (follows (codes "item ") l) refl in
    rw none refl

not_fitting : (before rest : List (List ℕ)) → LacksSurplus before rest ⊎ LacksLevel before rest ⊎ LacksSet before rest ⊎ HasMore before rest → file_of (before ++ rest) ≡ Err (length before + 1)
unfolding file_of file_with
not_fitting before rest (inl x) =
    let told : file_of rest ≡ Err 1 = ap (λ o. on_line 1 o >>= λ s. file_with s (items_of (drop 1 rest)) (drop (length (items_of (drop 1 rest))) (drop 1 rest))) x.no_surplus in
    subst (λ b. file_of (b ++ rest) ≡ Err (length b + 1)) (sym x.first) told
not_fitting before rest (inr (inl x)) =
    let after = after_problem before rest x.items x.problem x.no_item in
    after.0 ∙ ap (with_level x.problem.surplus x.items rest) x.no_level ∙ ap Err (omega (arith, after.1))
not_fitting before rest (inr (inr (inl x))) =
    let after = after_problem x.lines (x.level_line ∷ rest) x.items x.problem (λ l. level_no_item x.level_line x.level x.is_level) in
    let at : file_of ((x.lines ++ x.level_line ∷ []) ++ rest) ≡ Err (length x.items + 3)
    = ap file_of (append_assoc x.lines (x.level_line ∷ []) rest) ∙ after.0 ∙ ap (with_level x.problem.surplus x.items (x.level_line ∷ rest)) x.is_level
    ∙ ap (with_set x.problem.surplus x.items x.level rest) x.no_set in
    let place : length x.items + 3 ≡ length (x.lines ++ x.level_line ∷ []) + 1 = omega (arith, after.1, length_to x.lines (x.level_line ∷ [])) in
    subst (λ b. file_of (b ++ rest) ≡ Err (length b + 1)) (sym x.all_before) (at ∙ ap Err place)
not_fitting before rest (inr (inr (inr x))) =
    let empties : List (List ℕ) = replicate x.empty [] in
    let more : List (List ℕ) = (x.byte ∷ x.bytes) ∷ x.others in
    let after = after_problem x.lines (x.level_line ∷ x.set_line ∷ empties ++ more) x.items x.problem (λ l. level_no_item x.level_line x.level x.is_level) in
    let at : file_of ((x.lines ++ x.level_line ∷ x.set_line ∷ empties) ++ more) ≡ Err (length x.items + 4 + x.empty)
    = ap file_of (append_assoc x.lines (x.level_line ∷ x.set_line ∷ empties) more) ∙ after.0
    ∙ ap (with_level x.problem.surplus x.items (x.level_line ∷ x.set_line ∷ empties ++ more)) x.is_level
    ∙ ap (with_set x.problem.surplus x.items x.level (x.set_line ∷ empties ++ more)) x.is_set
    ∙ ap (with_end x.problem.surplus x.items x.level x.flags) (are_not_empty (length x.items + 4) x.empty x.byte x.bytes x.others) in
    let place : length x.items + 4 + x.empty ≡ length (x.lines ++ x.level_line ∷ x.set_line ∷ empties) + 1
    = omega (arith, after.1, length_to x.lines (x.level_line ∷ x.set_line ∷ empties), length_empty x.empty) in
    let told : file_of ((x.lines ++ x.level_line ∷ x.set_line ∷ empties) ++ more) ≡ Err (length (x.lines ++ x.level_line ∷ x.set_line ∷ empties) + 1) = at ∙ ap Err place in
    let whole : file_of (before ++ more) ≡ Err (length before + 1) = subst (λ b. file_of (b ++ more) ≡ Err (length b + 1)) (sym x.all_before) told in
    subst (λ r. file_of (before ++ r) ≡ Err (length before + 1)) (sym x.not_empty) whole

fits_to : (ls : List (List ℕ)) (n : ℕ) → IsFirstUnfit ls n → file_of ls ≡ Err n
fits_to ls n u = ap file_of u.all ∙ not_fitting u.before u.rest u.unfit ∙ ap Err (sym u.place)

pub first_unfit : (ls : List (List ℕ)) (n : ℕ) → (file_of ls ≡ Err n) ↔ IsFirstUnfit ls n
first_unfit ls n = (told ls n, fits_to ls n)
