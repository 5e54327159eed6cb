-- The answers on chapters, one after another.
use Rattle.std.proofs.Common.{◌≡◌, ◌∙◌, ℕ, ◌+◌, ◌<◌, List, [], ◌∷◌, ◌++◌, ap, get_or, length, subst, sym, take}
use Rattle.std.specs.List.{AllZip}
use Rattle.std.proofs.lemmas.List.{take_more}
use Rattle.pon_record.specs.Chapters.{PlacedChapter}
use Rattle.pon_audit.specs.Judging.{IsJudgment}
use Rattle.pon_audit.specs.declared.chapters.Judged.{Judged}

zip_push : (cs : List PlacedChapter) (answers : List Judged) (c : PlacedChapter) (a : Judged) → AllZip IsJudgment cs answers → IsJudgment c a → AllZip IsJudgment (cs ++ c ∷ []) (answers ++ a ∷ [])
zip_push [] [] c a h told = (told, tt)
zip_push [] (b ∷ answers) c a h told = absurd h
zip_push (d ∷ cs) [] c a h told = absurd h
zip_push (d ∷ cs) (b ∷ answers) c a h told = (h.0, zip_push cs answers c a h.1 told)

-- one more chapter is judged
pub one_more : (cs : List PlacedChapter) (answers : List Judged) (i : ℕ) (c : PlacedChapter) (a : Judged) → i < length cs → c ≡ get_or cs i c → AllZip IsJudgment (take i cs) answers → IsJudgment c a →
    AllZip IsJudgment (take (i + 1) cs) (answers ++ a ∷ [])
one_more cs answers i c a lt here so_far told =
    let more : take (i + 1) cs ≡ take i cs ++ c ∷ [] = take_more cs i c lt ∙ ap (λ x. take i cs ++ x ∷ []) (sym here) in
    subst (λ l. AllZip IsJudgment l (answers ++ a ∷ [])) (sym more) (zip_push (take i cs) answers c a so_far told)
