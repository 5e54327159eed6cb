-- The seats of a desk, split from the back.
use Rattle.std.proofs.Common.{◌≡◌, ◌∙◌, ◌++◌, ◌∷◌, [], ℕ, List, Option, Some, ap, append_assoc, drop, sym, take}
use Rattle.std.specs.Prelude.{option_to_list}
use Rattle.std.proofs.lemmas.List.{take-append-drop}

-- what is left when the last two and those from a place on are taken away, and what was taken, are all
pub split_back : {S : Type 0} (old one two kept others : List S) (last before : S) (p q : Option S) (at : ℕ)
    → old ≡ one ++ option_to_list p → p ≡ Some last → one ≡ two ++ option_to_list q → q ≡ Some before
    → kept ≡ take at two → others ≡ drop at two → old ≡ kept ++ (others ++ before ∷ last ∷ [])
split_back old one two kept others last before p q at a b c d e f =
    let one_is = c ∙ ap (λ o. two ++ option_to_list o) d in
    let old_is = a ∙ ap (λ o. one ++ option_to_list o) b in
    let all = old_is ∙ (ap (λ xs. xs ++ last ∷ []) one_is ∙ append_assoc two (before ∷ []) (last ∷ [])) in
    let parts = sym (take-append-drop at two) ∙ (ap (λ xs. xs ++ drop at two) (sym e) ∙ ap (λ ys. kept ++ ys) (sym f)) in
    all ∙ (ap (λ xs. xs ++ before ∷ last ∷ []) parts ∙ append_assoc kept others (before ∷ last ∷ []))
