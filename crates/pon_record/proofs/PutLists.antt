-- Lists whose elements are appended to bytes, one after another.
use Rattle.std.proofs.Common.{◌≡◌, ℕ, zero, suc, ◌+◌, ◌<◌, List, [], ◌∷◌, ◌++◌, get_or, map, length, take, ap, refl, sym, ◌∙◌, arith}
use Rattle.std.specs.Prelude.{Some, slice_get}
use Rattle.std.specs.Int.{w16, to_be_bytes}
use Rattle.std.specs.List.{flat_map, zip}
use Rattle.std.proofs.lemmas.List.{flat_map_more, length-map}
use Rattle.std.proofs.lemmas.List.Folds.{flat_map-map}
use Rattle.std.proofs.lemmas.Option.{slice_get_read}
use Rattle.std.proofs.lemmas.Slice.Zip.{length-zip}
use Rattle.pon_admit.specs.declared.row.Row.{Row}
use Rattle.pon_guar.specs.declared.account.Account.{Account}
use Rattle.pon_admit.specs.declared.rule.Rule.TheVariants as rule
use Rattle.pon_record.specs.declared.version.Version.TheVariants as version
use Rattle.pon_record.specs.Openings.{row_in}
use Rattle.pon_record.specs.Bodies.{recorded_row, row_bytes}

-- one more element of a list
take_one : {X : Type 0} (xs : List X) (i : ℕ) (x : X) → slice_get xs i ≡ Some x → take (suc i) xs ≡ take i xs ++ x ∷ []
take_one [] i x e = absurd cc
take_one (y ∷ xs) zero x e = let same : y ≡ x = cc in (λ j. same j ∷ [])
take_one (y ∷ xs) (suc i) x e = (λ j. y ∷ take_one xs i x e j)

pub one_more_put : {X : Type 0} (f : X → List ℕ) (old now more : List ℕ) (xs : List X) (i : ℕ) (x : X) → slice_get xs i ≡ Some x → now ≡ old ++ flat_map f (take i xs) → more ≡ now ++ f x → more ≡ old ++ flat_map f (take (i + 1) xs)
one_more_put f old now more xs i x at before next =
    let after : suc i ≡ i + 1 = omega arith in
    next
    ∙ ap (λ bytes. bytes ++ f x) before
    ∙ flat_map_more f old (take i xs) x
    ∙ ap (λ t. old ++ flat_map f t) (sym (take_one xs i x at))
    ∙ ap (λ n. old ++ flat_map f (take n xs)) after

-- the same, for an element that a loop has read
pub one_read_put : {X : Type 0} (f : X → List ℕ) (old now more : List ℕ) (xs : List X) (i : ℕ) (x : X) → i < length xs → x ≡ get_or xs i x → now ≡ old ++ flat_map f (take i xs) → more ≡ now ++ f x → more ≡ old ++ flat_map f (take (i + 1) xs)
one_read_put f old now more xs i x lt is before next = one_more_put f old now more xs i x (slice_get_read xs (length xs) i x refl lt is) before next

-- an element of two lists beside each other
pub zip_at : {X Y : Type 0} (xs : List X) (ys : List Y) (i : ℕ) (x : X) (y : Y) → slice_get xs i ≡ Some x → slice_get ys i ≡ Some y → slice_get (zip xs ys) i ≡ Some (x, y)
zip_at [] ys i x y e f = absurd cc
zip_at (a ∷ xs) [] i x y e f = absurd cc
zip_at (a ∷ xs) (b ∷ ys) zero x y e f = let same : a ≡ x = cc in let also : b ≡ y = cc in (λ j. Some (same j, also j))
zip_at (a ∷ xs) (b ∷ ys) (suc i) x y e f = zip_at xs ys i x y e f

-- the bytes of rows with their accounts and carries are those of the recorded rows
pub rows_written : (book : List Account) (rows : List Row) (carries : List ℕ) → length carries ≡ length rows →
    to_be_bytes w16 (length rows) ++ flat_map (row_bytes book) (zip rows carries)
    ≡ to_be_bytes w16 (length (map (recorded_row book) (zip rows carries))) ++ flat_map (row_in version.Two rule.CarryRemainders).write (map (recorded_row book) (zip rows carries))
rows_written book rows carries same =
    let pairs = zip rows carries in
    let count : length rows ≡ length (map (recorded_row book) pairs) = omega (arith, length-map pairs (recorded_row book), length-zip rows carries, same) in
    let each : flat_map (row_bytes book) pairs ≡ flat_map (row_in version.Two rule.CarryRemainders).write (map (recorded_row book) pairs) = sym (flat_map-map (row_in version.Two rule.CarryRemainders).write (recorded_row book) pairs) in
    (λ i. to_be_bytes w16 (count i) ++ each i)
