-- The answers of parts.
use Rattle.std.proofs.Common.{List, [], ◌∷◌, map}
use Rattle.std.specs.List.{AllZip}
use Rattle.pon_record.specs.Chapters.{PlacedChapter}
use Rattle.pon_audit.specs.Judging.{IsJudgment}
use Rattle.pon_look.specs.declared.summing.Part.{Part}

-- the answers of parts
pub answers_in : (cs : List PlacedChapter) (ps : List Part) → AllZip (λ c p. IsJudgment c p.judged) cs ps → AllZip IsJudgment cs (map (λ p. p.judged) ps)
answers_in [] [] h = tt
answers_in [] (p ∷ ps) h = absurd h
answers_in (c ∷ cs) [] h = absurd h
answers_in (c ∷ cs) (p ∷ ps) h = (h.0, answers_in cs ps h.1)
