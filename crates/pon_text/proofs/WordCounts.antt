-- The number of words of a text.
use Rattle.std.proofs.Common.{ℕ, ◌+◌, ◌≤◌, true, false, List, [], ◌∷◌, length, arith}
use Rattle.std.specs.Prelude.{if◌then◌else◌}
use Rattle.pon_text.specs.Lines.{ends_word, is_blank, onto, words_of}

onto_length : (b : ℕ) (ws : List (List ℕ)) → length (onto b ws) ≤ 1 + length ws
onto_length b [] = omega arith
onto_length b (w ∷ ws) = omega arith

-- a text has at most as many words as bytes
pub few_words : (t : List ℕ) → length (words_of t) ≤ length t
few_words [] = omega arith
few_words (b ∷ bs) = elim (is_blank b) as (λ v. length (if v then words_of bs else (if ends_word bs then (b ∷ []) ∷ words_of bs else onto b (words_of bs))) ≤ length (b ∷ bs)) [
  | true ↦ omega (arith, few_words bs)
  | false ↦ elim (ends_word bs) as (λ v. length (if v then (b ∷ []) ∷ words_of bs else onto b (words_of bs)) ≤ length (b ∷ bs)) [
    | true ↦ omega (arith, few_words bs)
    | false ↦ omega (arith, few_words bs, onto_length b (words_of bs))
  ]
]
