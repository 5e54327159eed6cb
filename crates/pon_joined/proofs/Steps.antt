-- The steps of a read of joined files.
use Rattle.std.proofs.Common.{◌≡◌, ◌≢◌, ℕ, ◌+◌, ◌<◌, ◌≤◌, List, [], ◌∷◌, ◌++◌, Option, Some, None, Bool, true, false, ap, subst, sym, refl, ◌∙◌, arith, append_assoc, length, take, drop, suc, zero}
use Rattle.std.specs.Prelude.{if◌then◌else◌, option_map, slice_get, slice_set}
use Rattle.std.specs.List.{flat_map}
use Rattle.std.specs.Str.{bytes_eq}
use Rattle.std.proofs.lemmas.List.{append-nil, length-take}
use Rattle.std.proofs.lemmas.Option.{same_Some}
use Rattle.std.proofs.lemmas.Slice.Eq.{bytes_eq-Decides}
use Rattle.pon_device.specs.Device.{Consumes, IsAtEnd, Keeps}
use Rattle.pon_joined.specs.Files.{OpensFile}
use Rattle.pon_joined.specs.Joined.{after_magic, both, files_left, further_of, left_of}
use Rattle.pon_record.specs.declared.limits.TheConstants.{MAGIC_BYTES}
use Rattle.pon_joined.specs.declared.joined.TheConstants.{NO_CHAPTER}

-- no file is left
pub no_file : (m : List ℕ) (g k : ℕ) (old new : Option (List (List ℕ))) → drop g m ≡ [] → OpensFile old new None
    → Consumes (left_of m g k None old) (left_of m g k None new) [] × IsAtEnd (left_of m g k None new)
no_file m g k None new gave opens = (tt, subst (λ files. IsAtEnd (left_of m g k None files)) (sym opens) tt)
no_file m g k (Some files) new gave opens = (
  subst (λ files. Consumes (left_of m g k None (Some files)) (left_of m g k None new) []) (sym opens.0) (subst (λ new. Consumes (left_of m g k None (Some [])) (left_of m g k None new) []) (sym opens.1) refl),
  subst (λ files. IsAtEnd (left_of m g k None files)) (sym opens.1) (append-nil (drop g m) ∙ gave),
)

-- one more byte of a list
pub take_next : (m : List ℕ) (k b : ℕ) → slice_get m k ≡ Some b → take (suc k) m ≡ take k m ++ b ∷ []
take_next [] k b is = absurd (cc (is))
take_next (x ∷ m) zero b is = ap (λ y. y ∷ []) (same_Some x b is)
take_next (x ∷ m) (suc k) b is = ap (λ l. x ∷ l) (take_next m k b is)

pub drop_next : (m : List ℕ) (k b : ℕ) → slice_get m k ≡ Some b → drop k m ≡ b ∷ drop (suc k) m
drop_next [] k b is = absurd (cc (is))
drop_next (x ∷ m) zero b is = ap (λ y. y ∷ m) (same_Some x b is)
drop_next (x ∷ m) (suc k) b is = drop_next m k b is

-- the file goes on with a magic byte
matched : (m xs ys : List ℕ) (k b : ℕ) → slice_get m k ≡ Some b → xs ≡ b ∷ ys → take k m ++ xs ≡ take (k + 1) m ++ ys
matched m xs ys k b is e =
    let one : suc k ≡ k + 1 = omega arith in
    ap (λ l. take k m ++ l) e ∙ sym (append_assoc (take k m) (b ∷ []) ys) ∙ ap (λ l. l ++ ys) (sym (take_next m k b is)) ∙ ap (λ n. take n m ++ ys) one

pub goes_on : (m : List ℕ) (g k b : ℕ) (old new : Option (List ℕ)) (files : Option (List (List ℕ))) → slice_get m k ≡ Some b → Consumes old new (b ∷ [])
    → Keeps (left_of m g k (Some old) files) (left_of m g (k + 1) (Some new) files)
goes_on m g k b None new files is takes = tt
goes_on m g k b (Some xs) None files is takes = absurd takes
goes_on m g k b (Some xs) (Some ys) None is takes = tt
goes_on m g k b (Some xs) (Some ys) (Some files) is takes =
    ap (λ l. drop g m ++ (after_magic m l ++ flat_map (after_magic m) files)) (sym (matched m xs ys k b is takes))

-- the byte after the magic bytes that were read
at_front : (m : List ℕ) (k n b : ℕ) (ys : List ℕ) → k ≤ length m → k < n → slice_get (take n (take k m ++ b ∷ ys)) k ≡ Some b
at_front m zero zero b ys long less = absurd (omega (arith, less))
at_front m zero (suc n) b ys long less = refl
at_front m (suc k) zero b ys long less = absurd (omega (arith, less))
at_front [] (suc k) (suc n) b ys long less = absurd (omega (arith, long))
at_front (x ∷ m) (suc k) (suc n) b ys long less = at_front m k n b ys (omega (arith, long)) (omega (arith, less))

other_if : (same : Bool) (xs ys : List ℕ) → (same ≡ true → ⊥) → (if same then xs else ys) ≡ ys
other_if true xs ys differs = absurd (differs refl)
other_if false xs ys differs = refl

-- a file that does not begin with the magic bytes gives one byte
other : (m file : List ℕ) → (take MAGIC_BYTES file ≡ m → ⊥) → after_magic m file ≡ NO_CHAPTER ∷ []
other m file differs = other_if (bytes_eq (take MAGIC_BYTES file) m) _ _ (λ same. differs ((bytes_eq-Decides (take MAGIC_BYTES file) m).0 same))

other_byte : (m ys : List ℕ) (k b : ℕ) → k ≤ length m → k < MAGIC_BYTES → (slice_get m k ≡ Some b → ⊥) → take MAGIC_BYTES (take k m ++ b ∷ ys) ≡ m → ⊥
other_byte m ys k b long less differs same = differs (ap (λ l. slice_get l k) (sym same) ∙ at_front m k MAGIC_BYTES b ys long less)

-- what the file gives in place of its bytes
refused : (m file : List ℕ) (g : ℕ) (f : List ℕ) → drop g m ≡ [] → after_magic m file ≡ NO_CHAPTER ∷ []
    → drop g m ++ (after_magic m file ++ f) ≡ (NO_CHAPTER ∷ []) ++ (drop g m ++ f)
refused m file g f gave is = ap (λ l. l ++ (after_magic m file ++ f)) gave ∙ ap (λ l. l ++ f) is ∙ ap (λ l. NO_CHAPTER ∷ (l ++ f)) (sym gave)

pub refuses_byte : (m : List ℕ) (g k b : ℕ) (old new : Option (List ℕ)) (files : Option (List (List ℕ))) → drop g m ≡ [] → k ≤ length m → k < MAGIC_BYTES → (slice_get m k ≡ Some b → ⊥) → Consumes old new (b ∷ [])
    → Consumes (left_of m g k (Some old) files) (left_of m g k None files) (NO_CHAPTER ∷ [])
refuses_byte m g k b None new files gave long less differs takes = tt
refuses_byte m g k b (Some xs) None files gave long less differs takes = absurd takes
refuses_byte m g k b (Some xs) (Some ys) None gave long less differs takes = tt
refuses_byte m g k b (Some xs) (Some ys) (Some files) gave long less differs takes =
    let file = take k m ++ xs in
    let is : after_magic m file ≡ NO_CHAPTER ∷ [] = other m file (λ same. other_byte m ys k b long less differs (ap (λ l. take MAGIC_BYTES (take k m ++ l)) (sym takes) ∙ same)) in
    refused m file g (flat_map (after_magic m) files) gave is

-- a file that ends within the magic bytes
short_file : (m : List ℕ) (k : ℕ) → k < length m → take MAGIC_BYTES (take k m ++ []) ≡ m → ⊥
short_file m k less same =
    let size : length m ≡ length (take MAGIC_BYTES (take k m)) = ap (λ l. length l) (sym same) ∙ ap (λ l. length (take MAGIC_BYTES l)) (append-nil (take k m)) in
    absurd (omega (arith, less, size, length-take MAGIC_BYTES (take k m), length-take k m))

pub refuses_end : (m : List ℕ) (g k : ℕ) (old new : Option (List ℕ)) (files : Option (List (List ℕ))) → drop g m ≡ [] → k < length m → Consumes old new [] → IsAtEnd new
    → Consumes (left_of m g k (Some old) files) (left_of m g k None files) (NO_CHAPTER ∷ [])
refuses_end m g k None new files gave less takes end = tt
refuses_end m g k (Some xs) None files gave less takes end = absurd takes
refuses_end m g k (Some xs) (Some ys) None gave less takes end = tt
refuses_end m g k (Some xs) (Some ys) (Some files) gave less takes end =
    let file = take k m ++ xs in
    let none : xs ≡ [] = takes ∙ end in
    let is : after_magic m file ≡ NO_CHAPTER ∷ [] = other m file (λ same. short_file m k less (ap (λ l. take MAGIC_BYTES (take k m ++ l)) (sym none) ∙ same)) in
    refused m file g (flat_map (after_magic m) files) gave is

given_byte : (m : List ℕ) (g b : ℕ) (left : Option (List ℕ)) → slice_get m g ≡ Some b → Consumes (option_map (λ xs. drop g m ++ xs) left) (option_map (λ xs. drop (g + 1) m ++ xs) left) (b ∷ [])
given_byte m g b None is = tt
given_byte m g b (Some xs) is =
    let one : suc g ≡ g + 1 = omega arith in
    ap (λ l. l ++ xs) (drop_next m g b is) ∙ ap (λ n. b ∷ (drop n m ++ xs)) one

-- a magic byte of the first file is given
pub gives_magic : (m : List ℕ) (g k b : ℕ) (current : Option (Option (List ℕ))) (files : Option (List (List ℕ))) → slice_get m g ≡ Some b
    → Consumes (left_of m g k current files) (left_of m (g + 1) k current files) (b ∷ [])
gives_magic m g k b current files is = given_byte m g b (files_left m k current files) is

pub front_byte : (buf : List ℕ) (b : ℕ) → 0 < length buf → take 1 (slice_set buf 0 b) ≡ b ∷ []
front_byte [] b some = absurd (omega (arith, some))
front_byte (x ∷ buf) b some = refl

-- the byte for a refused file is given
pub given_one : (old : Option (List ℕ)) (m : List ℕ) (g k : ℕ) (current : Option (Option (List ℕ))) (files : Option (List (List ℕ))) (buf : List ℕ) (n : ℕ) → current ≡ None → n ≡ 1 → take 1 buf ≡ NO_CHAPTER ∷ []
    → Consumes old (left_of m g k None files) (NO_CHAPTER ∷ []) → Consumes old (left_of m g k current files) (take n buf) × (n ≡ 0 → IsAtEnd (left_of m g k current files))
given_one old m g k current files buf n ended one byte takes = (
  subst (λ cur. Consumes old (left_of m g k cur files) (take n buf)) (sym ended) (subst (λ n. Consumes old (left_of m g k None files) (take n buf)) (sym one) (subst (λ front. Consumes old (left_of m g k None files) front) (sym byte) takes)),
  λ z. absurd (let t : 1 ≡ 0 = sym one ∙ z in cc),
)
