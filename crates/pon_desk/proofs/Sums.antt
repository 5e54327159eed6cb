-- Sums of counts, port by port.
use Rattle.std.proofs.Common.{◌≡◌, ℕ, suc, ◌+◌, ◌<◌, List, [], ◌∷◌, ◌++◌, length, slice_index, replicate, refl, sym, ap, ◌∙◌, arith}
use Rattle.std.specs.Prelude.{sum}
use Rattle.std.proofs.lemmas.List.Sums.{sum_by-cons, sum_by_push}
use Rattle.std.proofs.lemmas.List.Folds.{sum_by-replicate}
use Rattle.std.proofs.lemmas.List.{get_or-replicate, length-replicate}
use Rattle.pon_desk.specs.Counts.{SeatState, posts_at, AreSums}

-- if a list is added index by index, its sum is added
pub sum_added : (xs ys zs : List ℕ) → length xs ≡ length ys → length zs ≡ length ys →
    ((p : ℕ) → p < length ys → slice_index zs p ≡ slice_index xs p + slice_index ys p) → sum zs ≡ sum xs + sum ys
sum_added [] [] [] e f h = refl
sum_added (x ∷ xs) (y ∷ ys) (z ∷ zs) e f h =
    let rest = sum_added xs ys zs (omega (arith, e)) (omega (arith, f)) (λ p below. h (suc p) (omega (arith, below))) in
    let first : z ≡ x + y = h 0 (omega arith) in
    omega (arith, rest, first, sum_by-cons (λ (n : ℕ). n) x xs, sum_by-cons (λ (n : ℕ). n) y ys, sum_by-cons (λ (n : ℕ). n) z zs)
sum_added [] [] (z ∷ zs) e f h = absurd (omega (arith, f))
sum_added [] (y ∷ ys) zs e f h = absurd (omega (arith, e))
sum_added (x ∷ xs) [] zs e f h = absurd (omega (arith, e))
sum_added (x ∷ xs) (y ∷ ys) [] e f h = absurd (omega (arith, f))

-- one more seat adds its count to the posts at a port
pub posts_at-push : (p : ℕ) (seats : List SeatState) (seat : SeatState) → posts_at p (seats ++ seat ∷ []) ≡ posts_at p seats + slice_index seat.counts p
posts_at-push p seats seat = sum_by_push (λ (s : SeatState). slice_index s.counts p) seats seat

-- no seats yet
pub no_sums : (n : ℕ) → AreSums (replicate n 0) n []
no_sums n = record { one_each = length-replicate n 0; sums = λ p below. get_or-replicate n p 0 0 below }

pub zero_sum : (n : ℕ) → sum (replicate n 0) ≡ 0
zero_sum n = omega (arith, sum_by-replicate (λ (k : ℕ). k) n 0)

-- one more seat
pub more_sums : (xs zs : List ℕ) (n : ℕ) (seats : List SeatState) (seat : SeatState) → AreSums xs n seats → length zs ≡ length xs → length seat.counts ≡ n →
    ((p : ℕ) → p < length seat.counts → slice_index zs p ≡ slice_index xs p + slice_index seat.counts p) → AreSums zs n (seats ++ seat ∷ [])
more_sums xs zs n seats seat s e f h = record {
  one_each = e ∙ s.one_each;
  sums = λ p below. h p (omega (arith, below, f)) ∙ ap (λ k. k + slice_index seat.counts p) (s.sums p below) ∙ sym (posts_at-push p seats seat);
}
