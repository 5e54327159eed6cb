-- The reading of a certificate, from the readings of its two classes.
use Rattle.std.proofs.Common.{◌≡◌, ℕ, ◌-◌, Bool, true, false, List, zero, suc, length, take, drop, refl, ap, ◌∙◌, arith}
use Rattle.std.proofs.lemmas.List.{drop-drop}
use Rattle.std.specs.Prelude.{Result, Ok, Err, if◌then◌else◌, nat_lt, ◌==◌, ◌&&◌}
use Rattle.std.specs.Int.{Width, w8, w16, w64, byte_len, from_be_bytes}
use Rattle.pon_cert.specs.declared.cert.Level.{Level}
use Rattle.pon_cert.specs.declared.cert.Level.TheVariants as level
use Rattle.pon_cert.specs.declared.cert.ClassCert.{ClassCert}
use Rattle.pon_cert.specs.declared.cert.CertReadFault.{CertReadFault}
use Rattle.pon_cert.specs.declared.cert.CertReadFault.TheVariants.{Short, Form, Memory}
use Rattle.pon_lists.specs.ResultSteps.{◌>>=◌}
use Rattle.pon_cert.specs.Reading.{number_at, wanted, level_in_bytes, level_at, flags_at, class_in_bytes, cert_at, ReadsCert, IsByteFault, IsTail}

-- reading the bytes does not fail with `Memory`
abbrev WantsNone : {A : Type 0} → Result A CertReadFault → Type 0
WantsNone r = r ≡ Err Memory → ⊥

then_none : {A B : Type 0} (r : Result A CertReadFault) (k : A → Result B CertReadFault) → WantsNone r → ((x : A) → WantsNone (k x)) → WantsNone (r >>= k)
then_none (Ok x) k first next e = next x e
then_none (Err Short) k first next e = cc
then_none (Err Form) k first next e = cc
then_none (Err Memory) k first next e = first refl

ok_none : {A : Type 0} (x : A) → WantsNone (Ok x)
ok_none x e = cc

either_none : {A : Type 0} (b : Bool) (x y : Result A CertReadFault) → WantsNone x → WantsNone y → WantsNone (if b then x else y)
either_none true x y p q = p
either_none false x y p q = q

number_none : (w : Width) (bytes : List ℕ) → WantsNone (number_at w bytes)
number_none w bytes = either_none (nat_lt (length bytes) (byte_len w)) (Err Short) (Ok (from_be_bytes w (take (byte_len w) bytes), drop (byte_len w) bytes)) (λ e. cc) (λ e. cc)

wanted_none : {A : Type 0} (b : Bool) (x : A) → WantsNone (wanted b x)
wanted_none b x = either_none b (Ok x) (Err Form) (λ e. cc) (λ e. cc)

level_of_none : (kind num den : ℕ) → WantsNone (level_in_bytes kind num den)
level_of_none kind num den = either_none (kind == 0) _ _ (wanted_none ((num == 0) && (den == 0)) level.All) (wanted_none (nat_lt 0 den) (level.At (record { num = num; den = den })))

level_none : (bytes : List ℕ) → WantsNone (level_at bytes)
unfolding level_at
level_none bytes =
    then_none {A = ℕ × List ℕ} (number_at w8 bytes) _ (number_none w8 bytes) (λ kind.
    then_none {A = ℕ × List ℕ} (wanted (nat_lt kind.0 2) kind) _ (wanted_none (nat_lt kind.0 2) kind) (λ known.
    then_none {A = ℕ × List ℕ} (number_at w64 known.1) _ (number_none w64 known.1) (λ num.
    then_none {A = ℕ × List ℕ} (number_at w64 num.1) _ (number_none w64 num.1) (λ den.
    then_none {A = Level} (level_in_bytes known.0 num.0 den.0) _ (level_of_none known.0 num.0 den.0) (λ l. ok_none (l, den.1))))))

flags_none : (n : ℕ) (bytes : List ℕ) → WantsNone (flags_at n bytes)
unfolding flags_at
flags_none zero bytes e = cc
flags_none (suc n) bytes e = then_none _ _ (number_none w8 bytes) (λ flag. then_none _ _ (wanted_none _ _) (λ known. then_none _ _ (flags_none n known.1) (λ others. ok_none _))) e

class_none : (bytes : List ℕ) → WantsNone (class_in_bytes bytes)
unfolding class_in_bytes
class_none bytes =
    then_none {A = Level × List ℕ} (level_at bytes) _ (level_none bytes) (λ l.
    then_none {A = ℕ × List ℕ} (number_at w16 l.1) _ (number_none w16 l.1) (λ count.
    then_none {A = ℕ × List ℕ} (wanted (nat_lt count.0 513) count) _ (wanted_none (nat_lt count.0 513) count) (λ known.
    then_none {A = List Bool × List ℕ} (flags_at known.0 known.1) _ (flags_none known.0 known.1) (λ flags. ok_none _))))

cert_fault : (bytes : List ℕ) (f : CertReadFault) → cert_at bytes ≡ Err f → (f ≡ Memory → ⊥) → IsByteFault bytes f
cert_fault bytes Short e none = e
cert_fault bytes Form e none = e
cert_fault bytes Memory e none = absurd (none refl)

pub first_class_fault : (bytes : List ℕ) (f : CertReadFault) → class_in_bytes bytes ≡ Err f → IsByteFault bytes f
unfolding cert_at
first_class_fault bytes f e = cert_fault bytes f (rw e refl) (λ m. class_none bytes (e ∙ ap Err m))

pub second_class_fault : (bytes rest : List ℕ) (na : ClassCert) (f : CertReadFault) → class_in_bytes bytes ≡ Ok (na, rest) → class_in_bytes rest ≡ Err f → IsByteFault bytes f
unfolding cert_at
second_class_fault bytes rest na f first e = cert_fault bytes f (rw (first, e) refl) (λ m. class_none rest (e ∙ ap Err m))

tail_of_tail : (bytes mid rest : List ℕ) → IsTail bytes mid → IsTail mid rest → IsTail bytes rest
tail_of_tail bytes mid rest one two = record { shorter = omega (arith, one.shorter, two.shorter); after = two.after ∙ ap (drop (length mid - length rest)) one.after ∙ drop-drop (length mid - length rest) (length bytes - length mid) bytes ∙ ap (λ (n : ℕ). drop n bytes) (omega (arith, one.shorter, two.shorter)) }

pub reads_both : (bytes mid rest : List ℕ) (na be : ClassCert) → class_in_bytes bytes ≡ Ok (na, mid) → class_in_bytes mid ≡ Ok (be, rest) → IsTail bytes mid → IsTail mid rest →
    ReadsCert bytes (record { na = na; be = be }) (length bytes - length rest)
unfolding cert_at
reads_both bytes mid rest na be first second one two =
    let both = tail_of_tail bytes mid rest one two in
    record { within = omega arith; read = rw (first, second) (ap (λ (r : List ℕ). Ok (record { na = na; be = be }, r)) both.after) }

pub memory_fault : (bytes mid rest : List ℕ) (na be : ClassCert) → class_in_bytes bytes ≡ Ok (na, mid) → class_in_bytes mid ≡ Ok (be, rest) → IsTail bytes mid → IsTail mid rest → IsByteFault bytes Memory
memory_fault bytes mid rest na be first second one two = (record { na = na; be = be }, length bytes - length rest, reads_both bytes mid rest na be first second one two)
