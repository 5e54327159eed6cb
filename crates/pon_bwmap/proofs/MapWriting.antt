-- The bytes of a map, written one structure after another.
use Rattle.std.proofs.Common.{◌≡◌, ℕ, ◌+◌, ◌*◌, ◌<◌, List, ◌∷◌, ◌++◌, length, take, drop, get_or, ap, sym, ◌∙◌, append_assoc, add-one, drop-cons, arith}
use Rattle.std.specs.List.{flat_map}
use Rattle.std.proofs.lemmas.List.{drop-drop}
use Rattle.std.proofs.lemmas.List.Concat.{flat_map-cons}
use Rattle.pon_bwmap.specs.Alloc.{Alloc}
use Rattle.pon_bwmap.specs.MapBytes.{structure_bytes}

-- the index after a structure
place_after : (k : ℕ) (piece : List ℕ) (row : Alloc) → piece ≡ structure_bytes row → 4 + 8 * (k + 1) ≡ (4 + 8 * k) + length piece
place_after k piece row is = let eight : length piece ≡ 8 = ap (λ (t : List ℕ). length t) is in omega (arith, eight)

-- the bytes from structure k on
from_structure : (rows : List Alloc) (k : ℕ) (d : Alloc) → k < length rows → flat_map structure_bytes (drop k rows) ≡ structure_bytes (get_or rows k d) ++ flat_map structure_bytes (drop (k + 1) rows)
from_structure rows k d lt =
    let first : drop k rows ≡ get_or rows k d ∷ drop (k + 1) rows = rw add-one (drop-cons rows k d lt) in
    ap (λ (rs : List Alloc). flat_map structure_bytes rs) first ∙ flat_map-cons structure_bytes (get_or rows k d) (drop (k + 1) rows)

pub structure_written : (old new piece whole : List ℕ) (rows : List Alloc) (k : ℕ) (d : Alloc) → k < length rows → piece ≡ structure_bytes (get_or rows k d) → take ((4 + 8 * k) + length piece) new ≡ take (4 + 8 * k) old ++ piece → take (4 + 8 * k) old ++ flat_map structure_bytes (drop k rows) ≡ whole → take (4 + 8 * (k + 1)) new ++ flat_map structure_bytes (drop (k + 1) rows) ≡ whole
structure_written old new piece whole rows k d lt is front done =
    let later = flat_map structure_bytes (drop (k + 1) rows) in
    let here : take (4 + 8 * (k + 1)) new ≡ take (4 + 8 * k) old ++ piece = ap (λ (n : ℕ). take n new) (place_after k piece (get_or rows k d) is) ∙ front in
    let next : piece ++ later ≡ flat_map structure_bytes (drop k rows) = ap (λ (t : List ℕ). t ++ later) is ∙ sym (from_structure rows k d lt) in
    ap (λ (t : List ℕ). t ++ later) here ∙ append_assoc (take (4 + 8 * k) old) piece later ∙ ap (λ (t : List ℕ). take (4 + 8 * k) old ++ t) next ∙ done

pub rest_kept : (old new initial piece : List ℕ) (k : ℕ) (row : Alloc) → piece ≡ structure_bytes row → drop ((4 + 8 * k) + length piece) new ≡ drop ((4 + 8 * k) + length piece) old → drop (4 + 8 * k) old ≡ drop (4 + 8 * k) initial → drop (4 + 8 * (k + 1)) new ≡ drop (4 + 8 * (k + 1)) initial
rest_kept old new initial piece k row is back kept =
    let place = place_after k piece row is in
    let further : (t : List ℕ) → drop (4 + 8 * (k + 1)) t ≡ drop 8 (drop (4 + 8 * k) t) = λ t. let e : 4 + 8 * (k + 1) ≡ (4 + 8 * k) + 8 = omega arith in ap (λ (n : ℕ). drop n t) e ∙ sym (drop-drop 8 (4 + 8 * k) t) in
    ap (λ (n : ℕ). drop n new) place ∙ back ∙ ap (λ (n : ℕ). drop n old) (sym place) ∙ further old ∙ ap (λ (t : List ℕ). drop 8 t) kept ∙ sym (further initial)
