-- A line that fits is short.
use Rattle.std.proofs.Common.{◌≡◌, ℕ, suc, ◌+◌, ◌*◌, ◌^◌, ◌<◌, ◌≤◌, Bool, true, false, cond, List, [], ◌∷◌, length, take, drop, map, refl, ap, arith, Option, Some, None, Err}
use Rattle.std.specs.Prelude.{codes, if◌then◌else◌, ◌&&◌, ◌==◌, not, nat_lt, nat_le, option_map}
use Rattle.std.specs.Char.{is_ascii_digit}
use Rattle.std.specs.List.{list_all, onto_first, position_or_len, slice_split}
use Rattle.std.specs.Str.{bytes_eq}
use Rattle.std.specs.Str.Parse.{digits_value}
use Rattle.std.proofs.lemmas.Bool.{and_parts, leb-true, ltb-true}
use Rattle.std.proofs.lemmas.List.{length-drop, length-take-le}
use Rattle.std.proofs.lemmas.Slice.Eq.{bytes_eq-Decides}
use Rattle.pon_cert.specs.declared.problem.TheConstants.{MAX_ITEMS}
use Rattle.pon_units.specs.declared.limits.TheConstants.{LINE_RATE}
use Rattle.pon_lists.specs.OptionSteps.{◌>>=◌}
use Rattle.pon_text.specs.Cuts.{cut_at, follows}
use Rattle.pon_text.specs.Lines.{is_numeral, number_of}
use Rattle.pon_cert.specs.declared.problem.Item.{Item}
use Rattle.pon_cert.specs.declared.cert.Level.{Level}
use Rattle.pon_cert.specs.declared.cert.Level.TheVariants as level
use Rattle.pon_check_file.specs.Parts.{parts_of}
use Rattle.pon_check_file.specs.CheckLines.{surplus_of, item_on_line, level_on_line, fraction_of, flags_of, flags_from, indexes_from, number_within}
use Rattle.pon_check_file.specs.Stages.{IsFew, goes_on, filed, lines_before}
use Rattle.pon_check_file.specs.declared.stage.Stage.{Stage}
use Rattle.pon_check_file.specs.declared.stage.Stage.TheVariants as stage
use Rattle.pon_check_file.proofs.NamedItems.{sets_name_items}
use Rattle.pon_check_file.proofs.StageLines.{no_surplus, no_level, no_set, no_empty}

-- ---- parts of a line
number_short : (w : List ℕ) (n : ℕ) → number_of w ≡ Some n → length w ≤ 20
number_short w n e = go (is_numeral w && nat_lt (digits_value 10 w) (2 ^ 64)) refl e
  where
    go : (b : Bool) → (is_numeral w && nat_lt (digits_value 10 w) (2 ^ 64)) ≡ b → (if b then Some (digits_value 10 w) else None) ≡ Some n → length w ≤ 20
    go true is e =
        let numeral : is_numeral w ≡ true = (and_parts (is_numeral w) (nat_lt (digits_value 10 w) (2 ^ 64)) is).0 in
        let digits = (and_parts (not (length w == 0)) (nat_le (length w) 20 && list_all is_ascii_digit w) numeral).1 in
        leb-true (length w) 20 (and_parts (nat_le (length w) 20) (list_all is_ascii_digit w) digits).0
    go false is e = absurd (cc)

within_short : (least most : ℕ) (w : List ℕ) (n : ℕ) → number_within least most w ≡ Some n → length w ≤ 20
unfolding number_within
within_short least most w n e = go (number_of w) refl e
  where
    go : (o : Option ℕ) → number_of w ≡ o → (o >>= λ n. if nat_le least n && nat_le n most then Some n else None) ≡ Some n → length w ≤ 20
    go None is e = absurd (cc)
    go (Some m) is e = number_short w m is

follows_short : (first l w : List ℕ) → follows first l ≡ Some w → length l ≤ length first + length w
follows_short first l w e = go (bytes_eq (take (length first) l) first) e
  where
    go : (b : Bool) → (if b then Some (drop (length first) l) else None) ≡ Some w → length l ≤ length first + length w
    go true e = let same : drop (length first) l ≡ w = cc in omega (arith, length-drop (length first) l, ap length same)
    go false e = absurd (cc)

cut_short : (c : ℕ) (t : List ℕ) (p : List ℕ × List ℕ) → cut_at c t ≡ Some p → length t ≤ length p.0 + length p.1 + 1
cut_short c t p e = go (nat_lt (position_or_len (λ b. b == c) t) (length t)) refl e
  where
    go : (v : Bool) → nat_lt (position_or_len (λ b. b == c) t) (length t) ≡ v → option_map {U = List ℕ × List ℕ} (λ i. (take i t, drop (i + 1) t)) (cond v (Some (position_or_len (λ b. b == c) t)) None) ≡ Some p → length t ≤ length p.0 + length p.1 + 1
    go true k e =
        let i : ℕ = position_or_len (λ b. b == c) t in
        let small : i < length t = ltb-true i (length t) k in
        let same : ◌≡◌ {A = List ℕ × List ℕ} (take i t, drop (i + 1) t) p = cc in
        omega (arith, small, length-take-le i t (omega (arith, small)), length-drop (i + 1) t, ap (λ p. length p.0) same, ap (λ p. length p.1) same)
    go false k e = absurd (cc)

-- ---- the lines
surplus_short : (l : List ℕ) (s : ℕ) → surplus_of l ≡ Some s → length l ≤ 28
unfolding surplus_of
surplus_short l s e = go (follows (codes "surplus ") l) refl e
  where
    go : (o : Option (List ℕ)) → follows (codes "surplus ") l ≡ o → (o >>= number_within 0 LINE_RATE) ≡ Some s → length l ≤ 28
    go None is e = absurd (cc)
    go (Some w) is e = omega (arith, follows_short (codes "surplus ") l w is, within_short 0 LINE_RATE w s e)

item_short : (l : List ℕ) (i : Item) → item_on_line l ≡ Some i → length l ≤ 46
unfolding item_on_line
item_short l i e = go (follows (codes "item ") l) refl e
  where
    two : (v w : List ℕ) (o q : Option ℕ) → number_within 1 LINE_RATE v ≡ o → number_within 0 LINE_RATE w ≡ q →
        (o >>= λ weight. q >>= λ cap. Some (record { weight = weight; cap = cap })) ≡ Some i → length v + length w ≤ 40
    two v w None q a b e = absurd (cc)
    two v w (Some m) None a b e = absurd (cc)
    two v w (Some m) (Some n) a b e = omega (arith, within_short 1 LINE_RATE v m a, within_short 0 LINE_RATE w n b)

    parts : (w : List ℕ) (o : Option (List ℕ × List ℕ)) → cut_at 32 w ≡ o →
        (o >>= λ parts. number_within 1 LINE_RATE parts.0 >>= λ weight. number_within 0 LINE_RATE parts.1 >>= λ cap. Some (record { weight = weight; cap = cap })) ≡ Some i → length w ≤ 41
    parts w None is e = absurd (cc)
    parts w (Some p) is e = omega (arith, cut_short 32 w p is, two p.0 p.1 (number_within 1 LINE_RATE p.0) (number_within 0 LINE_RATE p.1) refl refl e)

    go : (o : Option (List ℕ)) → follows (codes "item ") l ≡ o →
        (o >>= λ numbers. cut_at 32 numbers >>= λ parts. number_within 1 LINE_RATE parts.0 >>= λ weight. number_within 0 LINE_RATE parts.1 >>= λ cap. Some (record { weight = weight; cap = cap })) ≡ Some i → length l ≤ 46
    go None is e = absurd (cc)
    go (Some w) is e = omega (arith, follows_short (codes "item ") l w is, parts w (cut_at 32 w) refl e)

fraction_short : (w : List ℕ) (v : Level) → fraction_of w ≡ Some v → length w ≤ 41
unfolding fraction_of
fraction_short w v e = parts (cut_at 47 w) refl e
  where
    two : (a w : List ℕ) (o q : Option ℕ) → number_of a ≡ o → number_of w ≡ q →
        (o >>= λ num. q >>= λ den. if nat_lt 0 den then Some (level.At (record { num = num; den = den })) else None) ≡ Some v → length a + length w ≤ 40
    two a w None q x y e = absurd (cc)
    two a w (Some m) None x y e = absurd (cc)
    two a w (Some m) (Some n) x y e = omega (arith, number_short a m x, number_short w n y)

    parts : (o : Option (List ℕ × List ℕ)) → cut_at 47 w ≡ o →
        (o >>= λ parts. number_of parts.0 >>= λ num. number_of parts.1 >>= λ den. if nat_lt 0 den then Some (level.At (record { num = num; den = den })) else None) ≡ Some v → length w ≤ 41
    parts None is e = absurd (cc)
    parts (Some p) is e = omega (arith, cut_short 47 w p is, two p.0 p.1 (number_of p.0) (number_of p.1) refl refl e)

level_short : (l : List ℕ) (v : Level) → level_on_line l ≡ Some v → length l ≤ 47
unfolding level_on_line
level_short l v e = go (follows (codes "level ") l) refl e
  where
    word : (w : List ℕ) (b : Bool) → bytes_eq w (codes "all") ≡ b → (if b then Some level.All else fraction_of w) ≡ Some v → length w ≤ 41
    word w true is e = omega (arith, ap length ((bytes_eq-Decides w (codes "all")).0 is))
    word w false is e = fraction_short w v e

    go : (o : Option (List ℕ)) → follows (codes "level ") l ≡ o → (o >>= λ w. if bytes_eq w (codes "all") then Some level.All else fraction_of w) ≡ Some v → length l ≤ 47
    go None is e = absurd (cc)
    go (Some w) is e = omega (arith, follows_short (codes "level ") l w is, word w (bytes_eq w (codes "all")) refl e)

-- ---- the set
total : List (List ℕ) → ℕ
total [] = 0
total (p ∷ ps) = length p + 1 + total ps

onto_total : (b : ℕ) (ps : List (List ℕ)) → total ps + 1 ≤ total (onto_first b ps)
unfolding total
onto_total b [] = omega arith
onto_total b (p ∷ ps) = omega arith

parts_total : (t : List ℕ) → length t + 1 ≤ total (slice_split (λ b. b == 44) t)
unfolding total
parts_total [] = omega arith
parts_total (b ∷ bs) = go (parts_total bs) (b == 44)
  where
    go : length bs + 1 ≤ total (slice_split (λ b. b == 44) bs) → (v : Bool) → length (b ∷ bs) + 1 ≤ total (cond v ([] ∷ slice_split (λ b. b == 44) bs) (onto_first b (slice_split (λ b. b == 44) bs)))
    go more true = omega (arith, more)
    go more false = omega (arith, more, onto_total b (slice_split (λ b. b == 44) bs))

numbers_total : (ps : List (List ℕ)) (is : List ℕ) → map number_of ps ≡ map Some is → total ps ≤ 21 * length is
unfolding total
numbers_total [] is e = omega arith
numbers_total (p ∷ ps) [] e = absurd (cc)
numbers_total (p ∷ ps) (i ∷ is) e =
    let first : number_of p ≡ Some i = cc in
    let more : map number_of ps ≡ map Some is = cc in
    omega (arith, number_short p i first, numbers_total ps is more)

few_indexes : (k : ℕ) (fs : List Bool) → length (indexes_from k fs) ≤ length fs
few_indexes k [] = omega arith
few_indexes k (true ∷ fs) = omega (arith, few_indexes (suc k) fs)
few_indexes k (false ∷ fs) = omega (arith, few_indexes (suc k) fs)

set_short : (n : ℕ) (set : List ℕ) (fs : List Bool) → n ≤ MAX_ITEMS → flags_from 0 n (parts_of set) ≡ Some fs → length set ≤ 10751
set_short n set fs few e = go (bytes_eq set (codes "-")) refl e
  where
    go : (b : Bool) → bytes_eq set (codes "-") ≡ b → flags_from 0 n (if b then [] else slice_split (λ b. b == 44) set) ≡ Some fs → length set ≤ 10751
    go true is e = omega (arith, ap length ((bytes_eq-Decides set (codes "-")).0 is))
    go false is e =
        let written = (sets_name_items n (slice_split (λ b. b == 44) set) fs).0 e in
        omega (arith, few, written.0, parts_total set, numbers_total (slice_split (λ b. b == 44) set) (indexes_from 0 fs) written.1, few_indexes 0 fs)

flags_short : (n : ℕ) (l : List ℕ) (fs : List Bool) → n ≤ MAX_ITEMS → flags_of n l ≡ Some fs → length l ≤ 10761
unfolding flags_of
flags_short n l fs few e = go (follows (codes "saturated ") l) refl e
  where
    go : (o : Option (List ℕ)) → follows (codes "saturated ") l ≡ o → (o >>= λ set. flags_from 0 n (parts_of set)) ≡ Some fs → length l ≤ 10761
    go None is e = absurd (cc)
    go (Some w) is e = omega (arith, follows_short (codes "saturated ") l w is, set_short n w fs few e)

-- ---- a long line does not fit
spells_none : {T : Type 0} (most : ℕ) (l : List ℕ) (o : Option T) → ((x : T) → o ≡ Some x → length l ≤ most) → most < length l → o ≡ None
spells_none most l None short long = refl
spells_none most l (Some x) short long = absurd (omega (arith, long, short x refl))

pub long_unfit : (s : Stage) (l : List ℕ) (ls : List (List ℕ)) → IsFew s → 10761 < length l → goes_on s (l ∷ ls) ≡ Err (lines_before s + 1)
long_unfit stage.First l ls few long = no_surplus l ls (spells_none 28 l (surplus_of l) (surplus_short l) (omega (arith, long)))
long_unfit (stage.Items s) l ls few long =
    no_level s.surplus s.items.items l ls (λ m. spells_none 46 l (item_on_line l) (item_short l) (omega (arith, long))) (spells_none 47 l (level_on_line l) (level_short l) (omega (arith, long)))
long_unfit (stage.Level v) l ls few long =
    no_set v.shared.surplus v.shared.items.items v.level l ls (spells_none 10761 l (flags_of (length v.shared.items.items) l) (λ fs. flags_short (length v.shared.items.items) l fs few) long)
long_unfit (stage.Whole w) l ls few long = no_empty (filed w.file) w.lines l ls (omega (arith, long))
