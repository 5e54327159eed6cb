-- The decoding of a certificate from left to right: the value and the bytes after it, or the first fault.
use Rattle.std.specs.Prelude.{◌≡◌, ℕ, ◌-◌, ◌≤◌, zero, suc, ◌==◌, ◌&&◌, Bool, List, [], ◌∷◌, length, take, drop, nat_lt, if◌then◌else◌, Result, Ok, Err, MatchResult}
use Rattle.std.specs.Borrow.{Bor}
use Rattle.std.specs.Int.{Width, w8, w16, w64, byte_len, from_be_bytes}
use Rattle.pon_lists.specs.ResultSteps.{◌>>=◌}
use Rattle.pon_cert.specs.declared.cert.Level.{Level}
use Rattle.pon_cert.specs.declared.cert.Level.TheVariants as level
use Rattle.pon_cert.specs.declared.cert.ClassCert.{ClassCert}
use Rattle.pon_cert.specs.declared.cert.MapCert.{MapCert}
use Rattle.pon_cert.specs.declared.cert.CertReadFault.{CertReadFault}
use Rattle.pon_cert.specs.declared.cert.CertReadFault.TheVariants.{Short, Form, Memory}

-- a number of this width, most significant byte first, if all its bytes are present
abbrev pub number_at : Width → List ℕ → Result (ℕ × List ℕ) CertReadFault
number_at w bytes = if nat_lt (length bytes) (byte_len w) then Err Short else Ok (from_be_bytes w (take (byte_len w) bytes), drop (byte_len w) bytes)

-- a value that must satisfy a condition
abbrev pub wanted : {A : Type 0} → Bool → A → Result A CertReadFault
wanted holds a = if holds then Ok a else Err Form

-- the level of a kind: both numbers must be 0 at a level of all, and the denominator above 0 at a fraction
abbrev pub level_in_bytes : ℕ → ℕ → ℕ → Result Level CertReadFault
level_in_bytes kind num den =
    if kind == 0 then wanted ((num == 0) && (den == 0)) level.All
    else wanted (nat_lt 0 den) (level.At (record { num = num; den = den }))

-- the kind, the numerator and the denominator of a level
unfoldable pub level_at : List ℕ → Result (Level × List ℕ) CertReadFault
level_at bytes = do
  kind ← number_at w8 bytes
  known ← wanted (nat_lt kind.0 2) kind
  num ← number_at w64 known.1
  den ← number_at w64 num.1
  l ← level_in_bytes known.0 num.0 den.0
  Ok (l, den.1)

-- this number of flags, one byte of 0 or 1 for each
unfoldable pub flags_at : ℕ → List ℕ → Result (List Bool × List ℕ) CertReadFault
flags_at zero bytes = Ok ([], bytes)
flags_at (suc n) bytes = do
  flag ← number_at w8 bytes
  known ← wanted (nat_lt flag.0 2) flag
  others ← flags_at n known.1
  Ok ((known.0 == 1) ∷ others.0, others.1)

-- the level, the number of items, at most 512, and their flags
unfoldable pub class_in_bytes : List ℕ → Result (ClassCert × List ℕ) CertReadFault
class_in_bytes bytes = do
  l ← level_at bytes
  count ← number_at w16 l.1
  known ← wanted (nat_lt count.0 513) count
  flags ← flags_at known.0 known.1
  Ok (record { level = l.0; saturated = flags.0 }, flags.1)

-- the non-assured class, then the best-effort one; later bytes are not read
unfoldable pub cert_at : List ℕ → Result (MapCert × List ℕ) CertReadFault
cert_at bytes = do
  na ← class_in_bytes bytes
  be ← class_in_bytes na.1
  Ok (record { na = na.0; be = be.0 }, be.1)

-- A reader returns what its definition gives: the value and the bytes after it, or the fault.
abbrev pub ReadsAs : {A : Type 0} → Result (A × List ℕ) CertReadFault → Result (A × Bor (List ℕ)) CertReadFault → Type 0
ReadsAs decoded result = MatchResult result (λ r. decoded ≡ Ok (r.0, r.1.now)) (λ f. decoded ≡ Err f)

-- the certificate at the start of the bytes, and the number of its bytes
pub record ReadsCert (bytes : List ℕ) (cert : MapCert) (used : ℕ) : Type 0 where
  pub within : used ≤ length bytes
  pub read : cert_at bytes ≡ Ok (cert, drop used bytes)

-- the first fault of the bytes; `Memory` only if they begin with a certificate
abbrev pub IsByteFault : List ℕ → CertReadFault → Type 0
IsByteFault bytes Short = cert_at bytes ≡ Err Short
IsByteFault bytes Form = cert_at bytes ≡ Err Form
IsByteFault bytes Memory = (cert : MapCert) × (used : ℕ) × ReadsCert bytes cert used

-- the rest is what remains of the bytes after a prefix
pub record IsTail (bytes rest : List ℕ) : Type 0 where
  pub shorter : length rest ≤ length bytes
  pub after : rest ≡ drop (length bytes - length rest) bytes
