-- A set writes the indexes of the saturated items.
use Rattle.std.proofs.Common.{◌≡◌, ℕ, zero, suc, ◌<◌, ◌≤◌, Bool, true, false, List, [], ◌∷◌, length, map, refl, ap, sym, ◌∙◌, arith, Option, Some, None}
use Rattle.std.specs.Prelude.{◌↔◌}
use Rattle.std.proofs.lemmas.Bool.{eq-eqb, eqb-true, ne_eqb}
use Rattle.pon_check_file.specs.Parts.{left_after, with_first}
use Rattle.pon_text.specs.Lines.{number_of}
use Rattle.pon_check_file.specs.CheckLines.{WritesFlags, flags_from, indexes_from, is_index, is_next}

-- a flag put before others
named_then : (k : ℕ) (b : Bool) (ps : List (List ℕ)) (gs : List Bool) → is_next k ps ≡ b → map number_of (left_after b ps) ≡ map Some (indexes_from (suc k) gs) → map number_of ps ≡ map Some (indexes_from k (b ∷ gs))
named_then k true [] gs e m = absurd (cc)
named_then k true (p ∷ ps) gs e m = this (number_of p) refl e
  where
    this : (o : Option ℕ) → number_of p ≡ o → is_index k o ≡ true → map number_of (p ∷ ps) ≡ Some k ∷ map Some (indexes_from (suc k) gs)
    this None is e = absurd (cc)
    this (Some i) is e = (λ j. (is ∙ ap Some (eqb-true i k e)) j ∷ m j)
named_then k false ps gs e m = m

written : (k n : ℕ) (ps : List (List ℕ)) (fs : List Bool) → flags_from k n ps ≡ Some fs → (length fs ≡ n) × (map number_of ps ≡ map Some (indexes_from k fs))
unfolding flags_from
written k zero [] fs e = let none : [] ≡ fs = cc in (ap length (sym none), ap (λ fs. map Some (indexes_from k fs)) none)
written k zero (p ∷ ps) fs e = absurd (cc)
written k (suc n) ps fs e = by (λ b gs. written (suc k) n (left_after b ps) gs) (is_next k ps) refl (flags_from (suc k) n (left_after (is_next k ps) ps)) refl e
  where
    same_list : (xs ys : List Bool) → Some xs ≡ Some ys → xs ≡ ys
    same_list xs ys e = cc

    by : ((b : Bool) (gs : List Bool) → flags_from (suc k) n (left_after b ps) ≡ Some gs → (length gs ≡ n) × (map number_of (left_after b ps) ≡ map Some (indexes_from (suc k) gs))) →
        (b : Bool) → is_next k ps ≡ b → (r : Option (List Bool)) → flags_from (suc k) n (left_after (is_next k ps) ps) ≡ r → with_first (is_next k ps) r ≡ Some fs → (length fs ≡ suc n) × (map number_of ps ≡ map Some (indexes_from k fs))
    by more b is None rest e = absurd (cc)
    by more b is (Some gs) rest e =
        let two = more b gs (ap (λ b. flags_from (suc k) n (left_after b ps)) (sym is) ∙ rest) in
        let same : b ∷ gs ≡ fs = ap (λ b. b ∷ gs) (sym is) ∙ same_list (is_next k ps ∷ gs) fs e in
        (ap length (sym same) ∙ ap suc two.0, named_then k b ps gs is two.1 ∙ ap (λ fs. map Some (indexes_from k fs)) same)

-- the first index of items from item k on is at least k
above : (k i : ℕ) (is : List ℕ) (fs : List Bool) → indexes_from k fs ≡ i ∷ is → k ≤ i
above k i is [] e = absurd (cc)
above k i is (true ∷ fs) e = let same : k ≡ i = cc in omega (arith, same)
above k i is (false ∷ fs) e = omega (arith, above (suc k) i is fs e)

not_next : (k : ℕ) (ps : List (List ℕ)) (is : List ℕ) → map number_of ps ≡ map Some is → ((i : ℕ) (js : List ℕ) → is ≡ i ∷ js → k < i) → is_next k ps ≡ false
not_next k [] is m l = refl
not_next k (p ∷ ps) [] m l = absurd (cc)
not_next k (p ∷ ps) (i ∷ is) m l =
    let number : number_of p ≡ Some i = cc in
    ap (is_index k) number ∙ ne_eqb i k (λ e. omega (arith, e, l i is refl))

read_back : (k n : ℕ) (ps : List (List ℕ)) (fs : List Bool) → length fs ≡ n → map number_of ps ≡ map Some (indexes_from k fs) → flags_from k n ps ≡ Some fs
unfolding flags_from
read_back k zero [] [] l m = refl
read_back k zero (p ∷ ps) [] l m = absurd (cc)
read_back k zero ps (f ∷ fs) l m = absurd (omega (arith, l))
read_back k (suc n) ps [] l m = absurd (omega (arith, l))
read_back k (suc n) [] (true ∷ fs) l m = absurd (cc)
read_back k (suc n) (p ∷ ps) (true ∷ fs) l m =
    let number : number_of p ≡ Some k = cc in
    let rest : map number_of ps ≡ map Some (indexes_from (suc k) fs) = cc in
    let next : is_index k (number_of p) ≡ true = ap (is_index k) number ∙ eq-eqb k k refl in
    rw next (ap (with_first true) (read_back (suc k) n ps fs (omega (arith, l)) rest))
read_back k (suc n) ps (false ∷ fs) l m =
    let next : is_next k ps ≡ false = not_next k ps (indexes_from (suc k) fs) m (λ i js e. above (suc k) i js fs e) in
    rw next (ap (with_first false) (read_back (suc k) n ps fs (omega (arith, l)) m))

pub sets_name_items : (n : ℕ) (parts : List (List ℕ)) (flags : List Bool) → (flags_from 0 n parts ≡ Some flags) ↔ WritesFlags n parts flags
sets_name_items n parts flags = (written 0 n parts flags, (λ w. read_back 0 n parts flags w.0 w.1))
