-- The text of a set of names, name by name.
use Rattle.std.proofs.Common.{◌≡◌, ℕ, zero, suc, ◌+◌, ◌<◌, Bool, true, false, cond, List, [], ◌∷◌, ◌++◌, length, take, get_or, refl, sym, ap, ◌∙◌, arith, append_assoc, add-one}
use Rattle.std.specs.Prelude.{map, decimal}
use Rattle.std.specs.List.{join_with_byte}
use Rattle.std.proofs.lemmas.List.{append-nil}
use Rattle.pon_cert.specs.Spelling.{saturated_names, names_text}

abbrev pub joined : List ℕ → List ℕ
joined names = join_with_byte 44 (map decimal names)

-- one more item
names_more : (i d : ℕ) (names : List ℕ) (flags : List Bool) → i < length names → i < length flags →
    saturated_names (take (suc i) names) (take (suc i) flags) ≡ saturated_names (take i names) (take i flags) ++ cond (get_or flags i false) (get_or names i d ∷ []) []
names_more i d [] flags l m = absurd (omega arith)
names_more i d (n ∷ ns) [] l m = absurd (omega arith)
names_more zero d (n ∷ ns) (true ∷ fs) l m = refl
names_more zero d (n ∷ ns) (false ∷ fs) l m = refl
names_more (suc i) d (n ∷ ns) (true ∷ fs) l m = ap (λ (t : List ℕ). n ∷ t) (names_more i d ns fs (omega arith) (omega arith))
names_more (suc i) d (n ∷ ns) (false ∷ fs) l m = names_more i d ns fs (omega arith) (omega arith)

pub one_saturated : (i d : ℕ) (names : List ℕ) (flags : List Bool) → i < length names → length flags ≡ length names → get_or flags i false ≡ true →
    saturated_names (take (i + 1) names) (take (i + 1) flags) ≡ saturated_names (take i names) (take i flags) ++ get_or names i d ∷ []
one_saturated i d names flags l same here = rw add-one (names_more i d names flags l (omega arith) ∙ ap (λ (b : Bool). saturated_names (take i names) (take i flags) ++ cond b (get_or names i d ∷ []) []) here)

pub one_unsaturated : (i d : ℕ) (names : List ℕ) (flags : List Bool) → i < length names → length flags ≡ length names → get_or flags i false ≡ false →
    saturated_names (take (i + 1) names) (take (i + 1) flags) ≡ saturated_names (take i names) (take i flags)
one_unsaturated i d names flags l same here =
    rw add-one (names_more i d names flags l (omega arith) ∙ ap (λ (b : Bool). saturated_names (take i names) (take i flags) ++ cond b (get_or names i d ∷ []) []) here ∙ append-nil (saturated_names (take i names) (take i flags)))

pub joined_more : (n : ℕ) (ns : List ℕ) (x : ℕ) → joined ((n ∷ ns) ++ x ∷ []) ≡ joined (n ∷ ns) ++ 44 ∷ decimal x
joined_more n [] x = refl
joined_more n (m ∷ ns) x = ap (λ (t : List ℕ). decimal n ++ 44 ∷ t) (joined_more m ns x) ∙ sym (append_assoc (decimal n) (44 ∷ joined (m ∷ ns)) (44 ∷ decimal x))

pub set_text_of : (t : List ℕ) (ns : List ℕ) → t ≡ joined ns → 0 < length t → t ≡ names_text ns
set_text_of t [] e l = absurd (omega (arith, ap length e))
set_text_of t (n ∷ ns) e l = e

-- a name appended to the others
add_name : (ns : List ℕ) (x : ℕ) (old new : List ℕ) → old ≡ joined ns → (old ≡ [] → ns ≡ []) → (old ≡ [] → new ≡ decimal x) → (0 < length old → new ≡ old ++ 44 ∷ decimal x) → new ≡ joined (ns ++ x ∷ [])
add_name [] x old new e none first later = first e
add_name (n ∷ ns) x [] new e none first later = let bad : (n ∷ ns) ≡ [] = none refl in cc
add_name (n ∷ ns) x (o ∷ os) new e none first later = later (omega arith) ∙ ap (λ (t : List ℕ). t ++ 44 ∷ decimal x) e ∙ sym (joined_more n ns x)

pub add_saturated : (i x : ℕ) (names : List ℕ) (flags : List Bool) (old new : List ℕ) → i < length names → length flags ≡ length names → get_or flags i false ≡ true → x ≡ get_or names i x →
    old ≡ joined (saturated_names (take i names) (take i flags)) → (old ≡ [] → saturated_names (take i names) (take i flags) ≡ []) → (old ≡ [] → new ≡ decimal x) → (0 < length old → new ≡ old ++ 44 ∷ decimal x) →
    new ≡ joined (saturated_names (take (i + 1) names) (take (i + 1) flags))
add_saturated i x names flags old new l same here is e none first later =
    add_name (saturated_names (take i names) (take i flags)) x old new e none first later
    ∙ ap (λ (y : ℕ). joined (saturated_names (take i names) (take i flags) ++ y ∷ [])) is
    ∙ ap joined (sym (one_saturated i x names flags l same here))
