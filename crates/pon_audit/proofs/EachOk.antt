-- The answers of many threads.
use Rattle.std.proofs.Common.{◌≡◌, List, [], ◌∷◌, map, Result, Ok, Err, subst, sym}
use Rattle.std.specs.Prelude.{IfOk, MatchResult}
use Rattle.std.specs.Borrow.{Bor}
use Rattle.std.specs.List.{AllZip}
use Rattle.rayon.proofs.ToStd.{slice-AllZip}
use Rattle.pon_record.specs.Chapters.{PlacedChapter}

-- a fact of the value of each `Ok`
each_ok : (E : Type 0) {Z X : Type 0} (R : Z → X → Type 0) (zs : List Z) (ys : List X) → AllZip (λ z (r : Result X E). IfOk r (R z)) zs (map Result.Ok ys) → AllZip R zs ys
each_ok E R [] [] h = tt
each_ok E R [] (y ∷ ys) h = absurd h
each_ok E R (z ∷ zs) [] h = absurd h
each_ok E R (z ∷ zs) (y ∷ ys) h = (h.0, each_ok E R zs ys h.1)

-- if each answer is `Ok`, the values are the answers of the chapters
pub all_answered : (E : Type 0) {V X : Type 0} (R : PlacedChapter → X → Type 0) (items : V → List X) (cs : List PlacedChapter) (zs : List (Bor PlacedChapter)) (xs : List (Result X E)) (r : Result V E) (P : E → Type 0) →
    map (λ (z : Bor PlacedChapter). z.now) zs ≡ cs → AllZip (λ z x. IfOk x (R z.now)) zs xs → MatchResult r (λ v. (ys : List X) × (xs ≡ map Result.Ok ys) × (items v ≡ ys)) P →
    IfOk r (λ v. AllZip R cs (items v))
all_answered E R items cs zs xs (Ok v) P shown each (ys, all, is) =
    subst (AllZip R cs) (sym is)
    (slice-AllZip zs cs shown R ys (each_ok E (λ (z : Bor PlacedChapter) y. R z.now y) zs ys (subst (AllZip (λ z x. IfOk x (R z.now)) zs) all each)))
all_answered E R items cs zs xs (Err e) P shown each h = tt
