-- Lines that are too long.
use Rattle.std.proofs.Common.{◌≡◌, ℕ, zero, suc, ◌<◌, ◌≤◌, true, List, [], ◌∷◌, length, take, refl, ap, sym, ◌∙◌, arith, inl, inr}
use Rattle.std.specs.Prelude.{nat_lt}
use Rattle.std.proofs.lemmas.Bool.{cases_lt, lt-ltb}
use Rattle.std.proofs.lemmas.List.{length-take}
use Rattle.pon_line.specs.Reading.{read_line}
use Rattle.pon_line.specs.Places.{of_line}
use Rattle.pon_line.specs.declared.fault.LineFault.TheVariants.{LineLong}
use Rattle.pon_line.specs.declared.reading.Reading.TheVariants.{Refused}

-- the first n elements of a list of at most n are the whole list
pub take_all : (n : ℕ) (xs : List ℕ) → length xs ≤ n → take n xs ≡ xs
take_all zero [] l = refl
take_all zero (x ∷ xs) l = absurd (omega arith)
take_all (suc n) [] l = refl
take_all (suc n) (x ∷ xs) l = ap (λ t. x ∷ t) (take_all n xs (omega arith))

-- a line of more than 4,096 bytes is refused as too long
pub read_line-long : (ports : ℕ) (line : List ℕ) → 4096 < length line → read_line ports line ≡ Refused (of_line LineLong)
unfolding read_line
read_line-long ports line l =
    let long : nat_lt 4096 (length line) ≡ true = lt-ltb 4096 (length line) l in
    rw long refl

-- a line reads the same as its first 4,097 bytes
pub read_line-take : (ports : ℕ) (line : List ℕ) → read_line ports (take 4097 line) ≡ read_line ports line
read_line-take ports line = elim (cases_lt 4096 (length line)) [
  | inl l ↦ read_line-long ports (take 4097 line) (omega (arith, l, length-take 4097 line)) ∙ sym (read_line-long ports line l)
  | inr l ↦ ap (read_line ports) (take_all 4097 line (omega arith))
]
