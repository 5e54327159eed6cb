-- The receipts of one seat: each names the number of those before it.
use Rattle.std.proofs.Common.{◌≡◌, ℕ, zero, suc, ◌+◌, ◌<◌, ◌≤◌, Bool, true, false, cond, List, get_or, length, take, Some, inl, inr, refl, sym, ap, ◌∙◌, arith, eq-eqb}
use Rattle.std.specs.Prelude.{slice_get, ◌==◌}
use Rattle.std.proofs.lemmas.Bool.{cases_eq, cases_lt, cases_order, ne_eqb}
use Rattle.std.proofs.lemmas.List.{take-take, take_all}
use Rattle.std.proofs.lemmas.List.Sums.{count_by_more_no, count_by_more_yes, sum_by-take-le}
use Rattle.std.proofs.lemmas.Option.{get_or_from_slice_get, same_Some, slice_get_cases, slice_get_within}
use Rattle.pon_desk.specs.Receipts.{Receipt}
use Rattle.pon_desk.specs.Settling.{IsOnlyPost, posts_of}
use Rattle.pon_desk.proofs.RightChapters.{some_with}

-- one more receipt of the seat, or of another
counted : (rs : List Receipt) (i seat : ℕ) (r : Receipt) → slice_get rs i ≡ Some r → r.seat ≡ seat → posts_of seat (take (i + 1) rs) ≡ posts_of seat (take i rs) + 1
counted rs i seat r at same =
    let p : Receipt → Bool = λ (x : Receipt). x.seat == seat in
    let here : get_or rs i r ≡ r = get_or_from_slice_get rs i r r at in
    let yes : p (get_or rs i r) ≡ true = eq-eqb (get_or rs i r).seat seat (ap (λ (x : Receipt). x.seat) here ∙ same) in
    count_by_more_yes p rs i r (slice_get_within rs i r at) yes

not_counted : (rs : List Receipt) (i seat : ℕ) (r : Receipt) → slice_get rs i ≡ Some r → (r.seat ≡ seat → ⊥) → posts_of seat (take (i + 1) rs) ≡ posts_of seat (take i rs)
not_counted rs i seat r at other =
    let p : Receipt → Bool = λ (x : Receipt). x.seat == seat in
    let here : get_or rs i r ≡ r = get_or_from_slice_get rs i r r at in
    let no : p (get_or rs i r) ≡ false = ne_eqb (get_or rs i r).seat seat (λ e. other (ap (λ (x : Receipt). x.seat) (sym here) ∙ e)) in
    count_by_more_no p rs i r (slice_get_within rs i r at) no

-- no fewer are in a longer front
no_fewer : (rs : List Receipt) (i j seat : ℕ) → i ≤ j → posts_of seat (take i rs) ≤ posts_of seat (take j rs)
no_fewer rs i j seat longer =
    let f : Receipt → ℕ = λ (x : Receipt). cond (x.seat == seat) 1 0 in
    omega (arith, sum_by-take-le f (take j rs) i, ap (posts_of seat) (take-take i j rs longer))

more_after : (rs : List Receipt) (i j : ℕ) (r : Receipt) → slice_get rs i ≡ Some r → i < j → posts_of r.seat (take i rs) < posts_of r.seat (take j rs)
more_after rs i j r at below = omega (arith, counted rs i r.seat r at refl, no_fewer rs (i + 1) j r.seat (omega (arith, below)))

module _ (rs : List Receipt) (named : (k : ℕ) (r : Receipt) → slice_get rs k ≡ Some r → r.nth ≡ posts_of r.seat (take k rs)) where
  nth_rises : (i j : ℕ) (r s : Receipt) → slice_get rs i ≡ Some r → slice_get rs j ≡ Some s → r.seat ≡ s.seat → i < j → r.nth < s.nth
  nth_rises i j r s at there same below =
      let later : s.nth ≡ posts_of r.seat (take j rs) = named j s there ∙ ap (λ (n : ℕ). posts_of n (take j rs)) (sym same) in
      omega (arith, named i r at, later, more_after rs i j r at below)

  same_nth : (i j : ℕ) (r s : Receipt) → slice_get rs i ≡ Some r → slice_get rs j ≡ Some s → i ≡ j → r.nth ≡ s.nth
  same_nth i j r s at there e = ap (λ (x : Receipt). x.nth) (same_Some r s (sym at ∙ ap (slice_get rs) e ∙ there))

  -- the receipt with the smaller number is the earlier one
  pub less_is_earlier : (i j : ℕ) (r s : Receipt) → slice_get rs i ≡ Some r → slice_get rs j ≡ Some s → r.seat ≡ s.seat → r.nth < s.nth → i < j
  less_is_earlier i j r s at there same less = elim (cases_order i j) [
    | inl e ↦ absurd (omega (arith, less, same_nth i j r s at there e))
    | inr other ↦ elim other [
      | inl below ↦ below
      | inr above ↦ absurd (omega (arith, less, nth_rises j i s r there at (sym same) above))
    ]
  ]

  same_is_one : (i j : ℕ) (r s : Receipt) → slice_get rs i ≡ Some r → slice_get rs j ≡ Some s → r.seat ≡ s.seat → r.nth ≡ s.nth → i ≡ j
  same_is_one i j r s at there same equal = elim (cases_order i j) [
    | inl e ↦ e
    | inr other ↦ elim other [
      | inl below ↦ absurd (omega (arith, equal, nth_rises i j r s at there same below))
      | inr above ↦ absurd (omega (arith, equal, nth_rises j i s r there at (sym same) above))
    ]
  ]

  -- the receipt of a seat that names a number
  found : (m seat n : ℕ) → m ≤ length rs → n < posts_of seat (take m rs) → (k : ℕ) × (r : Receipt) × (slice_get rs k ≡ Some r) × (r.seat ≡ seat) × (r.nth ≡ n)
  found zero seat n fits below = absurd (omega (arith, below))
  found (suc m) seat n fits below =
      let one : suc m ≡ m + 1 = omega arith in
      let count : posts_of seat (take (suc m) rs) ≡ posts_of seat (take (m + 1) rs) = ap (λ (k : ℕ). posts_of seat (take k rs)) one in
      elim (slice_get_cases rs m).1 [
        | inl x ↦ elim (cases_eq x.0.seat seat) [
          | inl same ↦ elim (cases_lt n (posts_of seat (take m rs))) [
            | inl earlier ↦ found m seat n (omega (arith, fits)) earlier
            | inr last ↦
                let nth : x.0.nth ≡ posts_of seat (take m rs) = named m x.0 x.2 ∙ ap (λ (s : ℕ). posts_of s (take m rs)) same in
                (m, x.0, x.2, same, omega (arith, nth, last, below, count, counted rs m seat x.0 x.2 same))
          ]
          | inr other ↦ found m seat n (omega (arith, fits)) (omega (arith, below, count, not_counted rs m seat x.0 x.2 other))
        ]
        | inr past ↦ absurd (omega (arith, past.0, fits))
      ]

  pub only_post : (seat n : ℕ) → n < posts_of seat rs → (k : ℕ) × IsOnlyPost rs seat n k
  only_post seat n below =
      let all : take (length rs) rs ≡ rs = take_all (length rs) rs (omega arith) in
      let f = found (length rs) seat n (omega arith) (omega (arith, below, ap (posts_of seat) all)) in (
        f.0,
        record {
          there = some_with (slice_get rs f.0) (λ r. (r.seat ≡ seat) × (r.nth ≡ n)) f.1 f.2 (f.3, f.4);
          only = λ j r at of_seat nth. same_is_one j f.0 r f.1 at f.2 (of_seat ∙ sym f.3) (nth ∙ sym f.4);
        },
      )

  pub nth_below : (k : ℕ) (r : Receipt) → slice_get rs k ≡ Some r → r.nth < posts_of r.seat rs
  nth_below k r at =
      let all : take (length rs) rs ≡ rs = take_all (length rs) rs (omega arith) in
      omega (arith, named k r at, more_after rs k (length rs) r at (slice_get_within rs k r at), ap (posts_of r.seat) all)
