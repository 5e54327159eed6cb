-- Reading a number of values one after another in a loop, for any format.
use Rattle.std.proofs.Common.{◌≡◌, ℕ, suc, ◌-◌, ◌+◌, ◌≤◌, ◌<◌, List, [], ◌∷◌, ◌++◌, Option, Some, None, refl, sym, ap, subst, ◌∙◌, append_assoc, arith}
use Rattle.std.specs.Prelude.{Result, Ok, Err}
use Rattle.std.specs.Result.{IsErrAnd}
use Rattle.std.proofs.lemmas.List.{append-nil}
use Rattle.pon_lists.specs.OptionSteps.{◌>>=◌}
use Rattle.pon_record.specs.declared.fault.Stop.{Stop}
use Rattle.pon_record.specs.declared.fault.Stop.TheVariants.{Malformed, Memory}
use Rattle.pon_record.specs.Format.{Format, read_times}
use Rattle.pon_record.specs.Reading.{ReadsValue, StopsAt}

-- the values read before, followed by those still to be read
abbrev pub with_front : {A : Type 0} → List A → Option (List A × List ℕ) → Option (List A × List ℕ)
with_front front read = read >>= λ x. Some (front ++ x.0, x.1)

regroup : {A : Type 0} (front : List A) (n : A) (read : Option (List A × List ℕ)) → with_front front (read >>= λ x. Some (n ∷ x.0, x.1)) ≡ with_front (front ++ n ∷ []) read
regroup front n (Some x) = ap (λ ns. Some (ns, x.1)) (sym (append_assoc front (n ∷ []) x.0))
regroup front n None = refl

pub goes_on : {A : Type 0} (f : Format A) (front : List A) (count i : ℕ) (bytes : List ℕ) (n : A) (after : List ℕ) (total : Option (List A × List ℕ)) → i < count → f.read bytes ≡ Some (n, after)
    → with_front front (read_times f (count - i) bytes) ≡ total → with_front (front ++ n ∷ []) (read_times f (count - (i + 1)) after) ≡ total
goes_on f front count i bytes n after total lt h so_far =
    let k : count - i ≡ suc (count - (i + 1)) = omega arith in
    let one : with_front front (read_times f (count - i) bytes) ≡ with_front (front ++ n ∷ []) (read_times f (count - (i + 1)) after) = rw (k, h) (regroup front n (read_times f (count - (i + 1)) after)) in
    sym one ∙ so_far

ends : {A : Type 0} (f : Format A) (front : List A) (count i : ℕ) (bytes : List ℕ) (total : Option (List A × List ℕ)) (e : Stop) → i < count → StopsAt e (f.read bytes)
    → with_front front (read_times f (count - i) bytes) ≡ total → StopsAt e total
ends f front count i bytes total Memory lt h so_far = tt
ends f front count i bytes total Malformed lt h so_far =
    let k : count - i ≡ suc (count - (i + 1)) = omega arith in
    let one : with_front front (read_times f (count - i) bytes) ≡ None = rw (k, h) refl in
    sym so_far ∙ one

-- if a value cannot be read, neither can the list
pub stops : {A X : Type 0} (f : Format A) (front : List A) (count i : ℕ) (bytes : List ℕ) (total : Option (List A × List ℕ)) (view : X → List A × List ℕ) (r : Result X Stop) (e : Stop) → i < count → StopsAt e (f.read bytes)
    → with_front front (read_times f (count - i) bytes) ≡ total → IsErrAnd r (λ x. x ≡ e) → ReadsValue view r total
stops f front count i bytes total view (Ok x) e lt h so_far is = absurd is
stops f front count i bytes total view (Err x) e lt h so_far is = subst (λ (s : Stop). StopsAt s total) (sym is) (ends f front count i bytes total e lt h so_far)

pub is_done : {A : Type 0} (f : Format A) (front : List A) (count i : ℕ) (bytes : List ℕ) (total : Option (List A × List ℕ)) → count ≤ i → with_front front (read_times f (count - i) bytes) ≡ total → total ≡ Some (front, bytes)
is_done f front count i bytes total le so_far =
    let k : count - i ≡ 0 = omega arith in
    let one : with_front front (read_times f (count - i) bytes) ≡ Some (front, bytes) = rw k (ap (λ ns. Some (ns, bytes)) (append-nil front)) in
    sym so_far ∙ one
