-- Bytes that read as a certificate are the bytes of that certificate.
use Rattle.std.proofs.Common.{◌≡◌, ℕ, zero, suc, ◌<◌, ◌≤◌, ◌^◌, ◌==◌, Bool, true, false, List, [], ◌∷◌, ◌++◌, length, take, drop, refl, sym, ap, ◌∙◌, subst, arith, append_assoc, length-append}
use Rattle.std.specs.Prelude.{map, Ok, Err, Result, nat_lt, ◌&&◌, if◌then◌else◌}
use Rattle.std.specs.Int.{Width, w8, w16, w64, to_be_bytes, from_be_bytes, byte_len}
use Rattle.std.proofs.lemmas.Bool.{and_parts, eqb-true, ltb-false, ltb-true}
use Rattle.std.proofs.lemmas.List.{length-drop, length-take, take-append-drop}
use Rattle.std.proofs.lemmas.Nat.{be_bytes_2, be_bytes_8}
use Rattle.std.proofs.Math.Seq.{take-append_seam}
use Rattle.pon_cert.specs.declared.problem.TheConstants.{MAX_ITEMS}
use Rattle.pon_lists.specs.Bytes.{AreBytes}
use Rattle.pon_lists.specs.ResultSteps.{◌>>=◌}
use Rattle.pon_lists.proofs.Bytes.{bytes-front, bytes-back}
use Rattle.pon_cert.specs.declared.cert.CertReadFault.{CertReadFault}
use Rattle.pon_cert.specs.declared.cert.CertReadFault.TheVariants.{Short}
use Rattle.pon_cert.specs.declared.cert.Level.{Level}
use Rattle.pon_cert.specs.declared.cert.Level.TheVariants as level
use Rattle.pon_cert.specs.declared.cert.ClassCert.{ClassCert}
use Rattle.pon_cert.specs.declared.cert.MapCert.{MapCert}
use Rattle.pon_cert.specs.Spelling.{flag_byte, level_bytes, class_bytes, cert_bytes}
use Rattle.pon_cert.specs.Texts.{FitsLevel, FitsClass, FitsCert}
use Rattle.pon_cert.specs.Reading.{number_at, wanted, level_in_bytes, level_at, flags_at, class_in_bytes, cert_at, ReadsCert}
use Rattle.pon_cert.proofs.Flags.{byte_at}

-- Steps.

-- the value of a step, and that of the next step for it
record Came {A B : Type 0} (r : Result A CertReadFault) (f : A → Result B CertReadFault) (v : B) : Type 0 where
  value : A
  first : r ≡ Ok value
  last : f value ≡ Ok v

came : {A B : Type 0} (r : Result A CertReadFault) (f : A → Result B CertReadFault) (v : B) → (r >>= f) ≡ Ok v → Came r f v
came (Ok x) f v e = record { value = x; first = refl; last = e }
came (Err fault) f v e = absurd (cc)

was_wanted : {A : Type 0} (holds : Bool) (a v : A) → wanted holds a ≡ Ok v → (holds ≡ true) × (v ≡ a)
was_wanted true a v e = (refl, cc)
was_wanted false a v e = absurd (cc)

-- a step of a wanted value gives that value
held : {A B : Type 0} (holds : Bool) (a : A) (f : A → Result B CertReadFault) (v : B) → (wanted holds a >>= f) ≡ Ok v → (holds ≡ true) × (f a ≡ Ok v)
held true a f v e = (refl, e)
held false a f v e = absurd (cc)

abbrev gives : {A : Type 0} → A → Result A CertReadFault
gives x = Ok x

same_value : {A : Type 0} (x y : A) → gives x ≡ gives y → x ≡ y
same_value x y e = cc

-- the bytes are a value's, which fits, followed by the rest
record Spells (Fits : Type 0) (value bytes rest : List ℕ) : Type 0 where
  fits : Fits
  spelled : bytes ≡ value ++ rest
  still : AreBytes rest

-- Numbers.

spells : (w : Width) (Fits : Type 0) (bytes : List ℕ) (n : ℕ) (rest : List ℕ) → ((xs : List ℕ) → length xs ≡ byte_len w → AreBytes xs → n ≡ from_be_bytes w xs → Fits × (to_be_bytes w n ≡ xs)) → AreBytes bytes → number_at w bytes ≡ Ok (n, rest) →
    Spells Fits (to_be_bytes w n) bytes rest
spells w Fits bytes n rest back are e = go (nat_lt (length bytes) (byte_len w)) refl e
  where
    go : (short : Bool) → nat_lt (length bytes) (byte_len w) ≡ short → if◌then◌else◌ {A = Result (ℕ × List ℕ) CertReadFault} short (Err Short) (Ok (from_be_bytes w (take (byte_len w) bytes), drop (byte_len w) bytes)) ≡ Ok (n, rest) → Spells Fits (to_be_bytes w n) bytes rest
    go true k h = absurd (cc)
    go false k h =
        let pair : (from_be_bytes w (take (byte_len w) bytes), drop (byte_len w) bytes) ≡ (n, rest) = same_value _ _ h in
        let parts : AreBytes (take (byte_len w) bytes ++ drop (byte_len w) bytes) = subst AreBytes (sym (take-append-drop (byte_len w) bytes)) are in
        let front = back (take (byte_len w) bytes) (omega (arith, length-take (byte_len w) bytes, ltb-false (length bytes) (byte_len w) k)) (bytes-front (take (byte_len w) bytes) (drop (byte_len w) bytes) parts) (ap (λ (p : ℕ × List ℕ). p.0) (sym pair)) in
        record {
          fits = front.0;
          spelled = sym (take-append-drop (byte_len w) bytes) ∙ (λ i. sym front.1 i ++ (pair i).1);
          still = subst (λ (p : ℕ × List ℕ). AreBytes p.1) pair (bytes-back (take (byte_len w) bytes) (drop (byte_len w) bytes) parts);
        }

two_is : (bytes : List ℕ) (n : ℕ) (rest : List ℕ) → AreBytes bytes → number_at w16 bytes ≡ Ok (n, rest) → Spells (Unit {0}) (to_be_bytes w16 n) bytes rest
two_is bytes n rest = spells w16 (Unit {0}) bytes n rest (λ xs l are v. (tt, be_bytes_2 xs n l are v))

word_small : (bytes : List ℕ) → AreBytes bytes → from_be_bytes w64 bytes < 2 ^ 64
word_small bytes all = omega (arith, all 0, all 1, all 2, all 3, all 4, all 5, all 6, all 7)

eight_is : (bytes : List ℕ) (n : ℕ) (rest : List ℕ) → AreBytes bytes → number_at w64 bytes ≡ Ok (n, rest) → Spells (n < 2 ^ 64) (to_be_bytes w64 n) bytes rest
eight_is bytes n rest = spells w64 (n < 2 ^ 64) bytes n rest (λ xs l are v. (subst (λ (m : ℕ). m < 2 ^ 64) (sym v) (word_small xs are), be_bytes_8 xs n l are v))

byte_is : (bytes : List ℕ) (n : ℕ) (rest : List ℕ) → number_at w8 bytes ≡ Ok (n, rest) → bytes ≡ n ∷ rest
byte_is [] n rest e = absurd (cc)
byte_is (b ∷ bs) n rest e =
    let pair : (b, bs) ≡ (n, rest) = same_value _ _ (sym (byte_at b bs) ∙ e) in
    λ i. (pair i).0 ∷ (pair i).1

-- Flags.

record SpellsFlags (n : ℕ) (bytes : List ℕ) (fs : List Bool) (rest : List ℕ) : Type 0 where
  count : length fs ≡ n
  spelled : bytes ≡ map flag_byte fs ++ rest

flag_is : (b : ℕ) → b < 2 → flag_byte (b == 1) ≡ b
flag_is zero lt = refl
flag_is (suc zero) lt = refl
flag_is (suc (suc b)) lt = absurd (omega (arith, lt))

flags_are : (n : ℕ) (bytes : List ℕ) (fs : List Bool) (rest : List ℕ) → flags_at n bytes ≡ Ok (fs, rest) → SpellsFlags n bytes fs rest
unfolding flags_at
flags_are zero bytes fs rest e =
    let pair : ([], bytes) ≡ (fs, rest) = same_value _ _ e in
    subst (λ (p : List Bool × List ℕ). SpellsFlags zero bytes p.0 p.1) pair (record { count = refl; spelled = refl })
flags_are (suc n) bytes fs rest e =
    let flag = came (number_at w8 bytes) _ _ e in
    let known = held (nat_lt flag.value.0 2) flag.value _ _ flag.last in
    let others = came (flags_at n flag.value.1) _ _ known.1 in
    let more : SpellsFlags n flag.value.1 others.value.0 others.value.1 = flags_are n flag.value.1 others.value.0 others.value.1 others.first in
    let pair : ((flag.value.0 == 1) ∷ others.value.0, others.value.1) ≡ (fs, rest) = same_value _ _ others.last in
    let is : flag.value.0 ≡ flag_byte (flag.value.0 == 1) = sym (flag_is flag.value.0 (ltb-true flag.value.0 2 known.0)) in
    subst (λ (p : List Bool × List ℕ). SpellsFlags (suc n) bytes p.0 p.1) pair (record {
      count = ap (λ (m : ℕ). suc m) more.count;
      spelled = byte_is bytes flag.value.0 flag.value.1 flag.first ∙ (λ i. is i ∷ more.spelled i);
    })

-- Levels.

level_is : (kind num den : ℕ) (l : Level) → kind < 2 → num < 2 ^ 64 → den < 2 ^ 64 → level_in_bytes kind num den ≡ Ok l → FitsLevel l × (kind ∷ (to_be_bytes w64 num ++ to_be_bytes w64 den) ≡ level_bytes l)
level_is zero num den l k n d e =
    let so : (((num == 0) && (den == 0)) ≡ true) × (l ≡ level.All) = was_wanted _ _ _ e in
    let both = and_parts (num == 0) (den == 0) so.0 in
    rw (so.1, eqb-true num 0 both.0, eqb-true den 0 both.1) (tt, refl)
level_is (suc zero) num den l k n d e =
    let so : (nat_lt 0 den ≡ true) × (l ≡ level.At (record { num = num; den = den })) = was_wanted _ _ _ e in
    rw so.1 ((n, ltb-true 0 den so.0, d), refl)
level_is (suc (suc kind)) num den l k n d e = absurd (omega (arith, k))

level_read : (bytes : List ℕ) (l : Level) (rest : List ℕ) → AreBytes bytes → level_at bytes ≡ Ok (l, rest) → Spells (FitsLevel l) (level_bytes l) bytes rest
unfolding level_at
level_read bytes l rest are e =
    let kind = came (number_at w8 bytes) _ _ e in
    let known = held (nat_lt kind.value.0 2) kind.value _ _ kind.last in
    let num = came (number_at w64 kind.value.1) _ _ known.1 in
    let den = came (number_at w64 num.value.1) _ _ num.last in
    let found = came (level_in_bytes kind.value.0 num.value.0 den.value.0) _ _ den.last in
    let begun : bytes ≡ kind.value.0 ∷ kind.value.1 = byte_is bytes kind.value.0 kind.value.1 kind.first in
    let front : AreBytes kind.value.1 = bytes-back (kind.value.0 ∷ []) kind.value.1 (subst AreBytes begun are) in
    let n = eight_is kind.value.1 num.value.0 num.value.1 front num.first in
    let d = eight_is num.value.1 den.value.0 den.value.1 n.still den.first in
    let it = level_is kind.value.0 num.value.0 den.value.0 found.value (ltb-true kind.value.0 2 known.0) n.fits d.fits found.first in
    let pair : (found.value, den.value.1) ≡ (l, rest) = same_value _ _ found.last in
    let whole : bytes ≡ level_bytes found.value ++ den.value.1 =
    begun ∙ ap (λ (xs : List ℕ). kind.value.0 ∷ xs) (n.spelled ∙ ap (λ (xs : List ℕ). to_be_bytes w64 num.value.0 ++ xs) d.spelled ∙ sym (append_assoc (to_be_bytes w64 num.value.0) (to_be_bytes w64 den.value.0) den.value.1)) ∙ ap (λ (xs : List ℕ). xs ++ den.value.1) it.1 in
    subst (λ (p : Level × List ℕ). Spells (FitsLevel p.0) (level_bytes p.0) bytes p.1) pair (record { fits = it.0; spelled = whole; still = d.still })

-- Classes and certificates.

class_read : (bytes : List ℕ) (c : ClassCert) (rest : List ℕ) → AreBytes bytes → class_in_bytes bytes ≡ Ok (c, rest) → Spells (FitsClass c) (class_bytes c) bytes rest
unfolding class_in_bytes
class_read bytes c rest are e =
    let l = came (level_at bytes) _ _ e in
    let count = came (number_at w16 l.value.1) _ _ l.last in
    let known = held (nat_lt count.value.0 513) count.value _ _ count.last in
    let flags = came (flags_at count.value.0 count.value.1) _ _ known.1 in
    let level_so = level_read bytes l.value.0 l.value.1 are l.first in
    let count_so = two_is l.value.1 count.value.0 count.value.1 level_so.still count.first in
    let flags_so = flags_are count.value.0 count.value.1 flags.value.0 flags.value.1 flags.first in
    let pair : (record { level = l.value.0; saturated = flags.value.0 }, flags.value.1) ≡ (c, rest) = same_value _ _ flags.last in
    let numbers : l.value.1 ≡ to_be_bytes w16 (length flags.value.0) ++ (map flag_byte flags.value.0 ++ flags.value.1)
    = count_so.spelled ∙ (λ i. to_be_bytes w16 (sym flags_so.count i) ++ flags_so.spelled i) in
    let whole : bytes ≡ class_bytes (record { level = l.value.0; saturated = flags.value.0 }) ++ flags.value.1 = rw (append_assoc, append_assoc) (level_so.spelled ∙ ap (λ (xs : List ℕ). level_bytes l.value.0 ++ xs) numbers) in
    let few : length flags.value.0 ≤ MAX_ITEMS = omega (arith, flags_so.count, ltb-true count.value.0 513 known.0) in
    let still : AreBytes flags.value.1 = bytes-back (map flag_byte flags.value.0) flags.value.1 (subst AreBytes flags_so.spelled count_so.still) in
    subst (λ (p : ClassCert × List ℕ). Spells (FitsClass p.0) (class_bytes p.0) bytes p.1) pair (record { fits = record { level = level_so.fits; count = few }; spelled = whole; still = still })

pub cert_read : (bytes : List ℕ) (c : MapCert) (used : ℕ) → AreBytes bytes → ReadsCert bytes c used → FitsCert c × (take used bytes ≡ cert_bytes c)
unfolding cert_at
cert_read bytes c used are reads =
    let na = came (class_in_bytes bytes) _ _ reads.read in
    let be = came (class_in_bytes na.value.1) _ _ na.last in
    let na_so = class_read bytes na.value.0 na.value.1 are na.first in
    let be_so = class_read na.value.1 be.value.0 be.value.1 na_so.still be.first in
    let pair : (record { na = na.value.0; be = be.value.0 }, be.value.1) ≡ (c, drop used bytes) = same_value _ _ be.last in
    let whole : bytes ≡ cert_bytes (record { na = na.value.0; be = be.value.0 }) ++ be.value.1 =
    na_so.spelled ∙ ap (λ (xs : List ℕ). class_bytes na.value.0 ++ xs) be_so.spelled ∙ sym (append_assoc (class_bytes na.value.0) (class_bytes be.value.0) be.value.1) in
    let all : bytes ≡ cert_bytes c ++ drop used bytes = whole ∙ ap (λ (p : MapCert × List ℕ). cert_bytes p.0 ++ p.1) pair in
    let fits : FitsCert c = subst (λ (p : MapCert × List ℕ). FitsCert p.0) pair (record { non_assured = na_so.fits; best_effort = be_so.fits }) in
    let count : length (cert_bytes c) ≡ used = omega (arith, ap (λ (xs : List ℕ). length xs) all, length-append (cert_bytes c) (drop used bytes), length-drop used bytes, reads.within) in
    let first : take used (cert_bytes c ++ drop used bytes) ≡ cert_bytes c = ap (λ (k : ℕ). take k (cert_bytes c ++ drop used bytes)) (sym count) ∙ take-append_seam (cert_bytes c) (drop used bytes) in
    (fits, ap (λ (xs : List ℕ). take used xs) all ∙ first)
