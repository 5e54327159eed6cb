-- The bytes of a certificate read as that certificate.
use Rattle.std.proofs.Common.{◌≡◌, ℕ, ◌<◌, ◌^◌, Bool, true, false, List, [], ◌∷◌, ◌++◌, length, take, drop, refl, sym, ap, ◌∙◌, arith, append_assoc, length-append, lit<}
use Rattle.std.specs.Prelude.{map, Ok, Result, nat_lt}
use Rattle.std.specs.Int.{Width, w16, w64, to_be_bytes, from_be_bytes, byte_len}
use Rattle.std.proofs.lemmas.Bool.{lt-ltb, le-ltb}
use Rattle.std.proofs.lemmas.Nat.{from_be_bytes-to_be_bytes_2, from_be_bytes-to_be_bytes_8}
use Rattle.std.proofs.Math.Seq.{take-append_seam, drop-append_seam}
use Rattle.pon_cert.specs.declared.cert.Level.{Level}
use Rattle.pon_cert.specs.declared.cert.Level.TheVariants as level
use Rattle.pon_cert.specs.declared.cert.ClassCert.{ClassCert}
use Rattle.pon_cert.specs.declared.cert.MapCert.{MapCert}
use Rattle.pon_cert.specs.declared.cert.CertReadFault.{CertReadFault}
use Rattle.pon_cert.specs.Spelling.{flag_byte, level_bytes, class_bytes, cert_bytes}
use Rattle.pon_cert.specs.Reading.{number_at, flags_at, level_at, class_in_bytes, cert_at, ReadsCert}
use Rattle.pon_cert.specs.Texts.{FitsLevel, FitsClass, FitsCert}
use Rattle.pon_cert.proofs.Flags.{byte_at}

abbrev found : ℕ → List ℕ → Result (ℕ × List ℕ) CertReadFault
found n rest = Ok (n, rest)

number_there : (w : Width) (front rest : List ℕ) (n : ℕ) → length front ≡ byte_len w → from_be_bytes w front ≡ n → number_at w (front ++ rest) ≡ Ok (n, rest)
number_there w front rest n e is =
    let whole : nat_lt (length (front ++ rest)) (byte_len w) ≡ false = le-ltb (length (front ++ rest)) (byte_len w) (omega (arith, length-append front rest, e)) in
    let first : take (byte_len w) (front ++ rest) ≡ front = ap (λ (k : ℕ). take k (front ++ rest)) (sym e) ∙ take-append_seam front rest in
    let last : drop (byte_len w) (front ++ rest) ≡ rest = ap (λ (k : ℕ). drop k (front ++ rest)) (sym e) ∙ drop-append_seam front rest in
    rw whole (ap (λ (xs : List ℕ). found (from_be_bytes w xs) (drop (byte_len w) (front ++ rest))) first ∙ ap (found (from_be_bytes w front)) last ∙ ap (λ (m : ℕ). found m rest) is)

two_back : (n : ℕ) (rest : List ℕ) → n < 2 ^ 16 → number_at w16 (to_be_bytes w16 n ++ rest) ≡ Ok (n, rest)
two_back n rest l = number_there w16 (to_be_bytes w16 n) rest n refl (from_be_bytes-to_be_bytes_2 n l)

eight_back : (n : ℕ) (rest : List ℕ) → n < 2 ^ 64 → number_at w64 (to_be_bytes w64 n ++ rest) ≡ Ok (n, rest)
eight_back n rest l = number_there w64 (to_be_bytes w64 n) rest n refl (from_be_bytes-to_be_bytes_8 n l)

flags_back : (fs : List Bool) (rest : List ℕ) → flags_at (length fs) (map flag_byte fs ++ rest) ≡ Ok (fs, rest)
unfolding flags_at
flags_back [] rest = refl
flags_back (true ∷ fs) rest = rw (byte_at 1 (map flag_byte fs ++ rest), flags_back fs rest) refl
flags_back (false ∷ fs) rest = rw (byte_at 0 (map flag_byte fs ++ rest), flags_back fs rest) refl

level_back : (l : Level) (rest : List ℕ) → FitsLevel l → level_at (level_bytes l ++ rest) ≡ Ok (l, rest)
unfolding level_at
level_back level.All rest fits = rw (byte_at 0 (to_be_bytes w64 0 ++ (to_be_bytes w64 0 ++ rest)), eight_back 0 (to_be_bytes w64 0 ++ rest) (lit< tt), eight_back 0 rest (lit< tt)) refl
level_back (level.At f) rest fits =
    let some : nat_lt 0 f.den ≡ true = lt-ltb 0 f.den fits.1 in
    rw (byte_at 1 (to_be_bytes w64 f.num ++ (to_be_bytes w64 f.den ++ rest)), eight_back f.num (to_be_bytes w64 f.den ++ rest) fits.0, eight_back f.den rest fits.2, some) refl

class_back : (c : ClassCert) (rest : List ℕ) → FitsClass c → class_in_bytes (class_bytes c ++ rest) ≡ Ok (c, rest)
unfolding class_in_bytes
class_back c rest fits =
    let known : nat_lt (length c.saturated) 513 ≡ true = lt-ltb (length c.saturated) 513 (omega (arith, fits.count)) in
    rw (
      append_assoc,
      append_assoc,
      level_back c.level (to_be_bytes w16 (length c.saturated) ++ (map flag_byte c.saturated ++ rest)) fits.level,
      two_back (length c.saturated) (map flag_byte c.saturated ++ rest) (omega (arith, fits.count)),
      known,
      flags_back c.saturated rest,
    ) refl

pub cert_back : (c : MapCert) (rest : List ℕ) → FitsCert c → ReadsCert (cert_bytes c ++ rest) c (length (cert_bytes c))
unfolding cert_at
cert_back c rest fits = record {
  within = omega (arith, length-append (cert_bytes c) rest);
  read = rw (drop-append_seam (cert_bytes c) rest) (rw (append_assoc (class_bytes c.na) (class_bytes c.be) rest, class_back c.na (class_bytes c.be ++ rest) fits.non_assured, class_back c.be rest fits.best_effort) refl);
}
