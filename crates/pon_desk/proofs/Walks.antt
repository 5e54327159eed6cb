-- A walk through the entries of a port.
use Rattle.std.proofs.Common.{◌≡◌, ℕ, suc, ◌+◌, ◌≤◌, List, ◌∷◌, ◌++◌, length, drop, Some, ap, ◌∙◌, arith}
use Rattle.std.specs.Prelude.{slice_get}
use Rattle.pon_state.specs.Entry.{Entry}
use Rattle.pon_desk.specs.Settling.{placed_from}
use Rattle.pon_desk.specs.declared.receipt.Placed.{Placed}
use Rattle.pon_desk.proofs.Placed.{at, next_placed, past_placed}

module _ (number index : ℕ) (es : List Entry) (rest : List Placed) where
  -- the next entry is the first that is left
  pub next_left : (e : Entry) → slice_get es index ≡ Some e → drop index (placed_from number 0 es) ++ rest ≡ at number index e ∷ (drop (index + 1) (placed_from number 0 es) ++ rest)
  next_left e here =
      let place : 0 + index ≡ index = omega arith in
      let next : suc index ≡ index + 1 = omega arith in
      let one = next_placed number 0 es index e here in
      ap (λ (l : List Placed). l ++ rest) (one ∙ ap (λ (i : ℕ). at number i e ∷ drop (suc index) (placed_from number 0 es)) place) ∙ ap (λ (i : ℕ). at number index e ∷ (drop i (placed_from number 0 es) ++ rest)) next

  -- after the last entry the rest is left
  pub rest_left : length es ≤ index → drop index (placed_from number 0 es) ++ rest ≡ rest
  rest_left past = ap (λ (l : List Placed). l ++ rest) (past_placed number 0 es index past)
