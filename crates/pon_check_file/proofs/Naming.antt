-- The flags that the indexes of a set give.
use Rattle.std.proofs.Common.{◌≡◌, ℕ, zero, suc, ◌+◌, ◌<◌, ◌≤◌, Bool, true, false, List, [], ◌∷◌, ◌++◌, length, refl, ap, sym, ◌∙◌, arith, append_assoc, add-one, Option, Some, None}
use Rattle.std.specs.Prelude.{◌==◌, is_some}
use Rattle.std.specs.Borrow.{Bor}
use Rattle.std.proofs.lemmas.List.{append-nil}
use Rattle.std.proofs.lemmas.List.Splits.{length-slice_split}
use Rattle.pon_check_file.specs.Parts.{left_after, left_of, with_first, after_flags}
use Rattle.pon_check_file.specs.CheckLines.{is_next, flags_from}

-- the flags of the items from item k on, after the flags found already
pub record Given (k n : ℕ) (all : Option (List Bool)) (done : List Bool) (left : List (List ℕ)) : Type 0 where
  pub more : ℕ
  pub count : k + more ≡ n
  pub rest : all ≡ after_flags done (flags_from k more left)

after_none : (r : Option (List Bool)) → after_flags [] r ≡ r
after_none None = refl
after_none (Some fs) = refl

after_one : (done : List Bool) (b : Bool) (r : Option (List Bool)) → after_flags done (with_first b r) ≡ after_flags (done ++ b ∷ []) r
after_one done b None = refl
after_one done b (Some fs) = ap Some (sym (append_assoc done (b ∷ []) fs))

-- no flag is found yet
pub none_given : (n : ℕ) (parts left : List (List ℕ)) → left ≡ parts → Given 0 n (flags_from 0 n parts) [] left
none_given n parts left e = record {
  more = n;
  count = omega arith;
  rest = ap (flags_from 0 n) (sym e) ∙ sym (after_none (flags_from 0 n left));
}

step_given : (k n more : ℕ) (all : Option (List Bool)) (done : List Bool) (left : List (List ℕ)) → k + more ≡ n → k < n → all ≡ after_flags done (flags_from k more left) →
    Given (suc k) n all (done ++ is_next k left ∷ []) (left_after (is_next k left) left)
unfolding flags_from
step_given k n zero all done left count l rest = absurd (omega (arith, count, l))
step_given k n (suc more) all done left count l rest = record {
  more = more;
  count = omega (arith, count);
  rest = rest ∙ after_one done (is_next k left) (flags_from (suc k) more (left_after (is_next k left) left));
}

-- one more item
pub one_given : (k n : ℕ) (all : Option (List Bool)) (done new : List Bool) (left after : List (List ℕ)) (b : Bool) → Given k n all done left → k < n →
    b ≡ is_next k left → after ≡ left_after b left → new ≡ done ++ b ∷ [] → Given (k + 1) n all new after
one_given k n all done new left after b g l named rest pushed =
    let step = step_given k n g.more all done left g.count l g.rest in
    rw (add-one, pushed, rest, named) step

end_given : (k n more : ℕ) (all : Option (List Bool)) (done : List Bool) (left : List (List ℕ)) → k + more ≡ n → n ≤ k → all ≡ after_flags done (flags_from k more left) →
    all ≡ after_flags done (flags_from k 0 left)
end_given k n zero all done left count l rest = rest
end_given k n (suc more) all done left count l rest = absurd (omega (arith, count, l))

-- all items have flags, and no index remains
no_index : (left : Option (Bor (List ℕ))) → is_some left ≡ false → left_of left ≡ []
no_index None e = refl
no_index (Some t) e = absurd (cc)

pub all_given : (k n : ℕ) (all : Option (List Bool)) (done : List Bool) (left : Option (Bor (List ℕ))) → Given k n all done (left_of left) → n ≤ k → is_some left ≡ false → all ≡ Some done
unfolding flags_from
all_given k n all done left g l e =
    end_given k n g.more all done (left_of left) g.count l g.rest ∙ ap (λ ps. after_flags done (flags_from k 0 ps)) (no_index left e) ∙ ap Some (append-nil done)

over : (k : ℕ) (done : List Bool) (ps : List (List ℕ)) → 0 < length ps → after_flags done (flags_from k 0 ps) ≡ None
unfolding flags_from
over k done [] l = absurd (omega arith)
over k done (p ∷ ps) l = refl

some_index : (left : Option (Bor (List ℕ))) → is_some left ≡ true → 0 < length (left_of left)
some_index None e = absurd (cc)
some_index (Some t) e = omega (arith, length-slice_split (λ b. b == 44) t.now)

-- an index remains
pub one_over : (k n : ℕ) (all : Option (List Bool)) (done : List Bool) (left : Option (Bor (List ℕ))) → Given k n all done (left_of left) → n ≤ k → is_some left ≡ true → all ≡ None
one_over k n all done left g l e =
    end_given k n g.more all done (left_of left) g.count l g.rest ∙ over k done (left_of left) (some_index left e)
