-- A head and its structures make a map, or have a fault.
use Rattle.std.proofs.Common.{◌≡◌, ℕ, ◌+◌, ◌-◌, List, length, take, drop, refl, ap, sym, ◌∙◌, subst, length-drop}
use Rattle.std.specs.Prelude.{IfErr, Result, Ok, Err}
use Rattle.std.specs.Result.{IsErrAnd}
use Rattle.std.proofs.Math.Seq.{take-length}
use Rattle.pon_xgtc.specs.HLend.{HLend}
use Rattle.pon_bwmap.specs.Alloc.{Alloc}
use Rattle.pon_bwmap.specs.MapFaults.{IsFaultOfRows, IsFirstMapFault, IsRowsFirstFault}
use Rattle.pon_bwmap.specs.MapReading.{ReadsMapRows, ReadsWholeHead, BeginsWithMap, map_size}
use Rattle.pon_bwmap.specs.declared.fault.MapFault.{MapFault}
use Rattle.pon_bwmap.specs.declared.fault.MapFault.TheVariants.{Short, HeadHec, TooMany, StructHec, SeriesStart, StartRange, SeriesLong, Memory}

-- the bytes after the head, as a slice has them
rest : (bytes : List ℕ) → take (length bytes - 4) (drop 4 bytes) ≡ drop 4 bytes
rest bytes = ap (λ (k : ℕ). take k (drop 4 bytes)) (sym (length-drop 4 bytes)) ∙ take-length (drop 4 bytes)

pub rows_after_head : (bytes : List ℕ) (head : HLend) (count : ℕ) (rows : List Alloc) (corrected : ℕ) → count ≡ head.n → ReadsMapRows (take (length bytes - 4) (drop 4 bytes)) count rows corrected → ReadsMapRows (drop 4 bytes) head.n rows corrected
rows_after_head bytes head count rows corrected is r =
    subst (λ (n : ℕ). ReadsMapRows (drop 4 bytes) n rows corrected) is (subst (λ (t : List ℕ). ReadsMapRows t count rows corrected) (rest bytes) r)

pub begins_with_map : (bytes : List ℕ) (head : HLend) (in_head count : ℕ) (rows : List Alloc) (corrected : ℕ) → ReadsWholeHead bytes head in_head → count ≡ head.n → ReadsMapRows (take (length bytes - 4) (drop 4 bytes)) count rows corrected → BeginsWithMap bytes
begins_with_map bytes head in_head count rows corrected h is r = (
  rows,
  in_head + corrected,
  map_size head,
  record {
    head = head;
    in_head = in_head;
    in_rows = corrected;
    reads_head = h;
    reads_rows = rows_after_head bytes head count rows corrected is r;
    corrected_is = refl;
    used_is = refl;
  },
)

-- a fault of the structures is one of the bytes
pub fault_after_head : (bytes : List ℕ) (head : HLend) (in_head count : ℕ) (f : MapFault) → ReadsWholeHead bytes head in_head → count ≡ head.n → IsRowsFirstFault (take (length bytes - 4) (drop 4 bytes)) count f → IsFirstMapFault bytes f
fault_after_head bytes head in_head count f h is in_rows = fault_of f (subst (λ (n : ℕ). IsRowsFirstFault (drop 4 bytes) n f) is (subst (λ (t : List ℕ). IsRowsFirstFault t count f) (rest bytes) in_rows))
  where
    of_rows : (f : MapFault) → IsRowsFirstFault (drop 4 bytes) head.n f → IsFaultOfRows bytes f
    of_rows f r = record { head = head; corrected = in_head; reads_head = h; in_rows = r }

    fault_of : (f : MapFault) → IsRowsFirstFault (drop 4 bytes) head.n f → IsFirstMapFault bytes f
    fault_of Short r = absurd r
    fault_of HeadHec r = absurd r
    fault_of TooMany r = absurd r
    fault_of (StructHec k) r = of_rows (StructHec k) r
    fault_of (SeriesStart k) r = of_rows (SeriesStart k) r
    fault_of (StartRange k) r = of_rows (StartRange k) r
    fault_of (SeriesLong k) r = of_rows (SeriesLong k) r
    fault_of Memory r = of_rows Memory r

-- a fault that is passed on
pub fault_passed : {T : Type 0} (bytes : List ℕ) (r : Result T MapFault) (e : MapFault) → IsErrAnd r (λ x. x ≡ e) → IsFirstMapFault bytes e → IfErr r (λ f. IsFirstMapFault bytes f)
fault_passed bytes (Ok x) e is h = absurd is
fault_passed bytes (Err x) e is h = subst (λ (f : MapFault). IsFirstMapFault bytes f) (sym is) h
