-- Lists of bytes, and their parts.
use Rattle.std.proofs.Common.{◌≡◌, ℕ, ◌+◌, ◌<◌, List, ◌++◌, length, drop, get_or, All, inl, inr, arith}
use Rattle.std.proofs.lemmas.Bool.{cases_lt}
use Rattle.std.proofs.lemmas.List.{get_or-append-add, get_or-drop, get_or_append_left, get_or_past}
use Rattle.std.proofs.lemmas.List.Elements.{All-from_get_or}
use Rattle.pon_lists.specs.Bytes.{AreBytes}

pub bytes-drop : (n : ℕ) (bytes : List ℕ) → AreBytes bytes → AreBytes (drop n bytes)
bytes-drop n bytes small k = let e : get_or (drop n bytes) k 0 ≡ get_or bytes (n + k) 0 = get_or-drop n bytes k 0 in omega (arith, e, small (n + k))

-- bytes before others, and bytes after others
pub bytes-front : (xs ys : List ℕ) → AreBytes (xs ++ ys) → AreBytes xs
bytes-front xs ys small k = elim (cases_lt k (length xs)) [
  | inl lt ↦ let e : get_or (xs ++ ys) k 0 ≡ get_or xs k 0 = get_or_append_left xs ys 0 k lt in omega (arith, e, small k)
  | inr ge ↦ omega (arith, get_or_past xs k 0 ge)
]

pub bytes-back : (xs ys : List ℕ) → AreBytes (xs ++ ys) → AreBytes ys
bytes-back xs ys small k = let e : get_or (xs ++ ys) (length xs + k) 0 ≡ get_or ys k 0 = get_or-append-add xs ys k 0 in omega (arith, e, small (length xs + k))

-- from the statement on each element
pub bytes-from_All : (bytes : List ℕ) → All (λ b. b < 256) bytes → AreBytes bytes
bytes-from_All bytes all k = elim (cases_lt k (length bytes)) [
  | inl lt ↦ all k 0 lt
  | inr ge ↦ omega (arith, get_or_past bytes k 0 ge)
]

pub All-from_bytes : (bytes : List ℕ) → AreBytes bytes → All (λ b. b < 256) bytes
All-from_bytes bytes small = All-from_get_or (λ b. b < 256) bytes 0 (λ i lt. small i)
