-- How a line changes each stage of a check file.
use Rattle.std.proofs.Common.{◌≡◌, ℕ, zero, suc, ◌+◌, ◌-◌, ◌<◌, Bool, List, [], ◌∷◌, ◌++◌, length, take, drop, refl, ap, sym, ◌∙◌, arith, append_assoc, Option, Some, None, Result, Ok, Err}
use Rattle.std.proofs.lemmas.List.{append-nil, length_push}
use Rattle.pon_cert.specs.declared.problem.TheConstants.{MAX_ITEMS}
use Rattle.pon_lists.specs.ResultSteps.{◌>>=◌}
use Rattle.pon_cert.specs.declared.problem.Item.{Item}
use Rattle.pon_cert.specs.declared.cert.Level.{Level}
use Rattle.pon_check_file.specs.CheckLines.{surplus_of, item_on_line, level_on_line, flags_of}
use Rattle.pon_check_file.specs.CheckFiles.{Filed, and_others, are_empty, file_of, file_with, items_in_row, items_of, on_line}
use Rattle.pon_check_file.specs.Stages.{after_file, after_items, after_level}
use Rattle.pon_check_file.proofs.UnfitLines.{with_end, with_level, with_set}

-- ---- the surplus
with_surplus : List (List ℕ) → Option ℕ → Result Filed ℕ
with_surplus ls o = on_line 1 o >>= λ s. file_with s (items_of ls) (drop (length (items_of ls)) ls)

pub no_surplus : (l : List ℕ) (ls : List (List ℕ)) → surplus_of l ≡ None → file_of (l ∷ ls) ≡ Err 1
unfolding file_of with_surplus
no_surplus l ls e = ap (with_surplus ls) e

pub one_surplus : (l : List ℕ) (s : ℕ) (ls : List (List ℕ)) → surplus_of l ≡ Some s → file_of (l ∷ ls) ≡ after_items s [] ls
unfolding file_of with_surplus after_items
one_surplus l s ls e = ap (with_surplus ls) e

-- ---- an item
pub one_item : (s : ℕ) (is : List Item) (l : List ℕ) (i : Item) (ls : List (List ℕ)) → length is < MAX_ITEMS → item_on_line l ≡ Some i → after_items s is (l ∷ ls) ≡ after_items s (is ++ i ∷ []) ls
unfolding after_items
one_item s is l i ls few e =
    let k : ℕ = MAX_ITEMS - length (is ++ i ∷ []) in
    let row : List Item = items_in_row ls in
    let count : MAX_ITEMS - length is ≡ suc k = omega (arith, few, length_push is i) in
    ap (λ o. file_with s (is ++ take (MAX_ITEMS - length is) (and_others o row)) (drop (length (take (MAX_ITEMS - length is) (and_others o row))) (l ∷ ls))) e
    ∙ ap (λ n. file_with s (is ++ take n (i ∷ row)) (drop (length (take n (i ∷ row))) (l ∷ ls))) count
    ∙ ap (λ xs. file_with s xs (drop (length (take k row)) ls)) (sym (append_assoc is (i ∷ []) (take k row)))

-- ---- the level
nothing : (k : ℕ) (o : Option Item) (is : List Item) → (0 < k → o ≡ None) → take k (and_others o is) ≡ []
nothing zero o is none = refl
nothing (suc k) o is none = ap (λ o. take (suc k) (and_others o is)) (none (omega arith))

at_level : (s : ℕ) (is : List Item) (l : List ℕ) (ls : List (List ℕ)) → (length is < MAX_ITEMS → item_on_line l ≡ None) → after_items s is (l ∷ ls) ≡ file_with s is (l ∷ ls)
unfolding after_items
at_level s is l ls none =
    ap (λ t. file_with s (is ++ t) (drop (length t) (l ∷ ls))) (nothing (MAX_ITEMS - length is) (item_on_line l) (items_in_row ls) (λ m. none (omega (arith, m))))
    ∙ ap (λ xs. file_with s xs (l ∷ ls)) (append-nil is)

pub no_level : (s : ℕ) (is : List Item) (l : List ℕ) (ls : List (List ℕ)) → (length is < MAX_ITEMS → item_on_line l ≡ None) → level_on_line l ≡ None → after_items s is (l ∷ ls) ≡ Err (length is + 1 + 1)
unfolding file_with
no_level s is l ls none e = at_level s is l ls none ∙ ap (with_level s is (l ∷ ls)) e ∙ ap Err (let n : length is + 2 ≡ length is + 1 + 1 = omega arith in n)

pub one_level : (s : ℕ) (is : List Item) (l : List ℕ) (level : Level) (ls : List (List ℕ)) → (length is < MAX_ITEMS → item_on_line l ≡ None) → level_on_line l ≡ Some level → after_items s is (l ∷ ls) ≡ after_level s is level ls
unfolding file_with after_level
one_level s is l level ls none e = at_level s is l ls none ∙ ap (with_level s is (l ∷ ls)) e

-- ---- the set
pub no_set : (s : ℕ) (is : List Item) (level : Level) (l : List ℕ) (ls : List (List ℕ)) → flags_of (length is) l ≡ None → after_level s is level (l ∷ ls) ≡ Err (length is + 2 + 1)
unfolding after_level
no_set s is level l ls e = ap (with_set s is level (l ∷ ls)) e ∙ ap Err (let n : length is + 3 ≡ length is + 2 + 1 = omega arith in n)

pub one_set : (s : ℕ) (is : List Item) (level : Level) (l : List ℕ) (flags : List Bool) (ls : List (List ℕ)) → flags_of (length is) l ≡ Some flags →
    after_level s is level (l ∷ ls) ≡ after_file (record { surplus = s; items = is; cert = record { level = level; saturated = flags } }) (length is + 3) ls
unfolding after_level after_file
one_set s is level l flags ls e =
    ap (with_set s is level (l ∷ ls)) e
    ∙ ap (λ n. with_end s is level flags (are_empty n ls)) (let n : length is + 4 ≡ length is + 3 + 1 = omega arith in n)

-- ---- empty lines
pub no_empty : (f : Filed) (n : ℕ) (l : List ℕ) (ls : List (List ℕ)) → 0 < length l → after_file f n (l ∷ ls) ≡ Err (n + 1)
unfolding after_file
no_empty f n [] ls some = absurd (omega (arith, some))
no_empty f n (b ∷ l) ls some = refl

pub one_empty : (f : Filed) (n : ℕ) (l : List ℕ) (ls : List (List ℕ)) → length l ≡ 0 → after_file f n (l ∷ ls) ≡ after_file f (n + 1) ls
unfolding after_file
one_empty f n [] ls none = ap (λ n. are_empty n ls >>= λ end. Ok f) (let e : suc (n + 1) ≡ n + 1 + 1 = omega arith in e)
one_empty f n (b ∷ l) ls none = absurd (omega (arith, none))

-- ---- the end of the file
pub ends_at_items : (s : ℕ) (is : List Item) → after_items s is [] ≡ Err (length is + 2)
unfolding after_items file_with
ends_at_items s is = go (MAX_ITEMS - length is)
  where
    go : (k : ℕ) → file_with s (is ++ take k []) (drop (length (take {A = Item} k [])) []) ≡ Err (length is + 2)
    go zero = ap (λ xs. file_with s xs []) (append-nil is)
    go (suc k) = ap (λ xs. file_with s xs []) (append-nil is)

pub ends_at_level : (s : ℕ) (is : List Item) (level : Level) → after_level s is level [] ≡ Err (length is + 3)
unfolding after_level
ends_at_level s is level = refl

pub ends_whole : (f : Filed) (n : ℕ) → after_file f n [] ≡ Ok f
unfolding after_file
ends_whole f n = refl

pub ends_at_first : file_of [] ≡ Err 1
unfolding file_of
ends_at_first = refl
