-- Both ledgers have equal totals, so the ports and the seats' counts are even, or at least two ports differ.
use Rattle.std.proofs.Common.{◌≡◌, ◌≢◌, ℕ, zero, suc, ◌<◌, ◌≤◌, List, [], ◌∷◌, length, slice_index, map, sym, ◌∙◌, arith}
use Rattle.std.specs.Prelude.{sum, sum_by}
use Rattle.std.proofs.lemmas.List.Sums.{sum_by-cons}
use Rattle.pon_history.specs.Chapters.{Chapter}
use Rattle.pon_desk.specs.Counts.{SeatState, taken_of, AreSums, IsEven, IsUneven}

-- if the counts are equal to the entries at each port, the desk is even
pub is_even : (ports : List Chapter) (counts : List ℕ) (n : ℕ) (seats : List SeatState) → AreSums counts n seats → length ports ≡ n → ((p : ℕ) → p < length ports → slice_index (map taken_of ports) p ≡ slice_index counts p) → IsEven ports seats
is_even ports counts n seats s e h = λ p below. h p below ∙ s.sums p (omega (arith, below, e))

-- if the sums are equal, a single port cannot differ
pub two_at_least : (ports : List Chapter) (counts : List ℕ) → length counts ≡ length ports → sum_by taken_of ports ≡ sum counts → (p : ℕ) → p < length ports → slice_index (map taken_of ports) p ≢ slice_index counts p → 2 ≤ length ports
two_at_least [] counts e balanced p below differ = absurd (omega (arith, below))
two_at_least (x ∷ y ∷ ports) counts e balanced p below differ = omega arith
two_at_least (x ∷ []) [] e balanced p below differ = absurd (omega (arith, e))
two_at_least (x ∷ []) (c ∷ d ∷ counts) e balanced p below differ = absurd (omega (arith, e))
two_at_least (x ∷ []) (c ∷ []) e balanced zero below differ = absurd (differ (omega (arith, balanced, sum_by-cons taken_of x [], sum_by-cons (λ (n : ℕ). n) c [])))
two_at_least (x ∷ []) (c ∷ []) e balanced (suc p) below differ = absurd (omega (arith, below))

pub is_uneven : (ports : List Chapter) (counts : List ℕ) (n : ℕ) (seats : List SeatState) → AreSums counts n seats → length ports ≡ n → sum_by taken_of ports ≡ sum counts → (p : ℕ) → p < length ports → slice_index (map taken_of ports) p ≢ slice_index counts p → IsUneven ports counts
is_uneven ports counts n seats s e balanced p below differ = record {
  somewhere = (p, record { is_port = below; differs = differ });
  balanced = balanced;
  several = two_at_least ports counts (s.one_each ∙ sym e) balanced p below differ;
}
