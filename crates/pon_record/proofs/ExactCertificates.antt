-- The two directions of the format of a certificate agree.
use Rattle.std.proofs.Common.{◌≡◌, ℕ, zero, suc, ◌+◌, ◌≤◌, Bool, true, false, cond, List, ◌∷◌, ◌++◌, length, take, drop, Some, refl, sym, ap, subst, ◌∙◌, arith}
use Rattle.std.specs.Prelude.{Result, Ok, Err, nat_lt, ◌==◌}
use Rattle.std.specs.Int.{Width, w8, w16, w64, byte_len, from_be_bytes}
use Rattle.std.specs.Result.{result_ok}
use Rattle.std.proofs.lemmas.Bool.{ltb-false}
use Rattle.std.proofs.lemmas.List.{drop-drop, length-drop, drop_at, take-append-drop}
use Rattle.pon_lists.specs.ResultSteps.{◌>>=◌}
use Rattle.pon_cert.specs.declared.cert.CertReadFault.{CertReadFault}
use Rattle.pon_cert.specs.declared.cert.ClassCert.{ClassCert}
use Rattle.pon_cert.specs.declared.cert.Level.{Level}
use Rattle.pon_cert.specs.declared.cert.MapCert.{MapCert}
use Rattle.pon_cert.specs.Reading.{ReadsCert, cert_at, class_in_bytes, flags_at, level_at, level_in_bytes, number_at, wanted}
use Rattle.pon_cert.specs.Spelling.{cert_bytes}
use Rattle.pon_cert.proofs.OneSpelling.{cert_read}
use Rattle.pon_cert.proofs.ReadsBack.{cert_back}
use Rattle.pon_record.specs.MadeMaps.{certificate}
use Rattle.pon_record.proofs.Exact.{IsExact}

-- the rest is what follows a prefix of the bytes
record Leaves (bytes rest : List ℕ) : Type 0 where
  used : ℕ
  within : used ≤ length bytes
  is : rest ≡ drop used bytes

leaves_all : (bytes : List ℕ) → Leaves bytes bytes
leaves_all bytes = record { used = 0; within = omega arith; is = refl }

leaves_more : (x y z : List ℕ) → Leaves x y → Leaves y z → Leaves x z
leaves_more x y z a b = record {
  used = a.used + b.used;
  within = omega (arith, a.within, b.within, ap (λ (l : List ℕ). length l) a.is, length-drop a.used x);
  is = b.is ∙ ap (drop b.used) a.is ∙ drop-drop b.used a.used x;
}

abbrev good : {A : Type 0} → A → Result A CertReadFault
good x = Ok x

-- the value of a step that did not fail
step : {A B : Type 0} (r : Result A CertReadFault) (f : A → Result B CertReadFault) (y : B) → (r >>= f) ≡ Ok y → (x : A) × (r ≡ Ok x) × (f x ≡ Ok y)
step (Ok x) f y e = (x, refl, e)
step (Err fault) f y e = absurd cc

same : {A : Type 0} (x y : A) → good x ≡ good y → x ≡ y
same x y e = cc

number_if : (w : Width) (bytes : List ℕ) (x : ℕ × List ℕ) (b : Bool) → nat_lt (length bytes) (byte_len w) ≡ b → cond b (Err Rattle.pon_cert.specs.declared.cert.CertReadFault.TheVariants.Short) (Ok (from_be_bytes w (take (byte_len w) bytes), drop (byte_len w) bytes)) ≡ good x → Leaves bytes x.1
number_if w bytes x true lt e = absurd cc
number_if w bytes x false lt e = record {
  used = byte_len w;
  within = ltb-false _ _ lt;
  is = sym (ap (λ (p : ℕ × List ℕ). p.1) (same (from_be_bytes w (take (byte_len w) bytes), drop (byte_len w) bytes) x e));
}

number_leaves : (w : Width) (bytes : List ℕ) (x : ℕ × List ℕ) → number_at w bytes ≡ Ok x → Leaves bytes x.1
number_leaves w bytes x e = number_if w bytes x (nat_lt (length bytes) (byte_len w)) refl e

wanted_is : {A : Type 0} (holds : Bool) (a x : A) → wanted holds a ≡ Ok x → a ≡ x
wanted_is true a x e = same a x e
wanted_is false a x e = absurd cc

-- a number that must satisfy a condition
known_leaves : (w : Width) (bytes : List ℕ) (n x : ℕ × List ℕ) (holds : Bool) → number_at w bytes ≡ Ok n → wanted holds n ≡ Ok x → Leaves bytes x.1
known_leaves w bytes n x holds e k = subst (λ (p : ℕ × List ℕ). Leaves bytes p.1) (wanted_is holds n x k) (number_leaves w bytes n e)

level_leaves : (bytes : List ℕ) (x : Level × List ℕ) → level_at bytes ≡ Ok x → Leaves bytes x.1
unfolding level_at
level_leaves bytes x e =
    let kind = step (number_at w8 bytes) _ x e in
    let known = step (wanted (nat_lt kind.0.0 2) kind.0) _ x kind.2 in
    let num = step (number_at w64 known.0.1) _ x known.2 in
    let den = step (number_at w64 num.0.1) _ x num.2 in
    let l = step (level_in_bytes known.0.0 num.0.0 den.0.0) _ x den.2 in
    subst (λ (p : Level × List ℕ). Leaves bytes p.1) (same (l.0, den.0.1) x l.2)
    (leaves_more bytes num.0.1 den.0.1
    (leaves_more bytes known.0.1 num.0.1 (known_leaves w8 bytes kind.0 known.0 _ kind.1 known.1) (number_leaves w64 known.0.1 num.0 num.1))
    (number_leaves w64 num.0.1 den.0 den.1))

flags_leave : (n : ℕ) (bytes : List ℕ) (x : List Bool × List ℕ) → flags_at n bytes ≡ Ok x → Leaves bytes x.1
unfolding flags_at
flags_leave zero bytes x e = subst (λ (p : List Bool × List ℕ). Leaves bytes p.1) (same _ x e) (leaves_all bytes)
flags_leave (suc n) bytes x e =
    let flag = step (number_at w8 bytes) _ x e in
    let known = step (wanted (nat_lt flag.0.0 2) flag.0) _ x flag.2 in
    let others = step (flags_at n known.0.1) _ x known.2 in
    subst (λ (p : List Bool × List ℕ). Leaves bytes p.1) (same ((known.0.0 == 1) ∷ others.0.0, others.0.1) x others.2)
    (leaves_more bytes known.0.1 others.0.1 (known_leaves w8 bytes flag.0 known.0 _ flag.1 known.1) (flags_leave n known.0.1 others.0 others.1))

class_leaves : (bytes : List ℕ) (x : ClassCert × List ℕ) → class_in_bytes bytes ≡ Ok x → Leaves bytes x.1
unfolding class_in_bytes
class_leaves bytes x e =
    let l = step (level_at bytes) _ x e in
    let count = step (number_at w16 l.0.1) _ x l.2 in
    let known = step (wanted (nat_lt count.0.0 513) count.0) _ x count.2 in
    let flags = step (flags_at known.0.0 known.0.1) _ x known.2 in
    subst (λ (p : ClassCert × List ℕ). Leaves bytes p.1) (same (record { level = l.0.0; saturated = flags.0.0 }, flags.0.1) x flags.2)
    (leaves_more bytes known.0.1 flags.0.1
    (leaves_more bytes l.0.1 known.0.1 (level_leaves bytes l.0 l.1) (known_leaves w16 l.0.1 count.0 known.0 _ count.1 known.1))
    (flags_leave known.0.0 known.0.1 flags.0 flags.1))

cert_leaves : (bytes : List ℕ) (x : MapCert × List ℕ) → cert_at bytes ≡ Ok x → Leaves bytes x.1
unfolding cert_at
cert_leaves bytes x e =
    let na = step (class_in_bytes bytes) _ x e in
    let be = step (class_in_bytes na.0.1) _ x na.2 in
    subst (λ (p : MapCert × List ℕ). Leaves bytes p.1) (same (record { na = na.0.0; be = be.0.0 }, be.0.1) x be.2)
    (leaves_more bytes na.0.1 be.0.1 (class_leaves bytes na.0 na.1) (class_leaves na.0.1 be.0 be.1))

ok_is : (r : Result (MapCert × List ℕ) CertReadFault) (x : MapCert × List ℕ) → result_ok r ≡ Some x → r ≡ Ok x
ok_is (Ok y) x e = cc
ok_is (Err fault) x e = absurd cc

pub exact_certificate : IsExact certificate
exact_certificate = record {
  again = λ c rest fits.
      let back = cert_back c rest fits in
      ap (λ (r : Result (MapCert × List ℕ) CertReadFault). result_ok r) (back.read ∙ ap (λ (l : List ℕ). good (c, l)) (drop_at (cert_bytes c) rest (length (cert_bytes c)) refl));
  takes = λ bytes c rest are e.
      let read = ok_is (cert_at bytes) (c, rest) e in
      let left = cert_leaves bytes (c, rest) read in
      let reads : ReadsCert bytes c left.used = record { within = left.within; read = read ∙ ap (λ (l : List ℕ). good (c, l)) left.is } in
      let spelled = cert_read bytes c left.used are reads in
      (spelled.0, sym (take-append-drop left.used bytes) ∙ ap (λ (l : List ℕ). l ++ drop left.used bytes) spelled.1 ∙ ap (λ (l : List ℕ). cert_bytes c ++ l) (sym left.is));
}
