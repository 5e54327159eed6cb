-- The two directions of the format of a map agree.
use Rattle.std.proofs.Common.{◌≡◌, ℕ, ◌/◌, ◌%◌, ◌^◌, ◌<◌, Bool, true, false, cond, eqb, Some, None, refl, sym, ap, ◌∙◌, arith}
use Rattle.std.specs.Int.{w32, w64}
use Rattle.std.proofs.lemmas.Bool.{eqb-true, eqb-false}
use Rattle.pon_units.specs.declared.limits.TheConstants.{MAX_STRUCTURES}
use Rattle.pon_hec.specs.HeaderCode.{sealed}
use Rattle.pon_bwmap.specs.MapBytes.{flag_bit, start_field, structure_payload}
use Rattle.pon_record.specs.Format.{number}
use Rattle.pon_record.specs.MadeMaps.{head, head_code, head_meaning, is_map, map, start_of, structure, structure_code, structure_meaning, structure_of}
use Rattle.pon_record.proofs.Exact.{IsExact, lists, only_those, passed, told}
use Rattle.pon_record.proofs.Exactness.{n32, n64}

pub exact_head : IsExact head
exact_head = told head_meaning head_code (number w32) n32 (λ word n fits e.
    let p = passed (eqb (head_code (word / 2 ^ 21)) word) (word / 2 ^ 21) n e in
    ap head_code (sym p.1) ∙ eqb-true _ _ p.0)

-- ---- the fields of a structure

flag_is : (bit : ℕ) (b : Bool) → bit < 2 → eqb bit 1 ≡ b → flag_bit b ≡ bit
flag_is bit true lt e = sym (eqb-true bit 1 e)
flag_is bit false lt e = let ne : bit ≡ 1 → ⊥ = eqb-false bit 1 e in omega (arith, lt, ne)

flag : (bit : ℕ) → bit < 2 → flag_bit (eqb bit 1) ≡ bit
flag bit lt = flag_is bit (eqb bit 1) lt refl

start_if : (field : ℕ) (b : Bool) → eqb field 0xffff ≡ b → start_field (cond b None (Some field)) ≡ field
start_if field true e = sym (eqb-true field 0xffff e)
start_if field false e = refl

start : (field : ℕ) → start_field (start_of field) ≡ field
start field = start_if field (eqb field 0xffff) refl

pub payload_of : (p : ℕ) → structure_payload (structure_of p) ≡ p
payload_of p =
    omega (
      arith,
      flag (p / 2 ^ 36 % 2) (omega arith),
      flag (p / 2 ^ 35 % 2) (omega arith),
      start (p / 2 ^ 19 % 2 ^ 16),
      flag (p / 2 ^ 2 % 2) (omega arith),
    )

pub exact_structure : IsExact structure
exact_structure = told structure_meaning structure_code (number w64) n64 (λ word a fits e.
    let p = passed (eqb (sealed (word / 2 ^ 13)) word) (structure_of (word / 2 ^ 13)) a e in
    ap structure_code (sym p.1) ∙ ap sealed (payload_of (word / 2 ^ 13)) ∙ eqb-true _ _ p.0)

pub exact_map : IsExact map
exact_map = only_those is_map _ (lists _ MAX_STRUCTURES _ exact_head exact_structure)
