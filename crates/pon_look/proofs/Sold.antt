-- The chapters of a port in a good recording go on from one to the next.
use Rattle.std.proofs.Common.{◌≡◌, ℕ, zero, suc, Bool, true, false, List, [], ◌∷◌, refl, sym, ◌∙◌, arith}
use Rattle.std.specs.Prelude.{◌==◌, if◌then◌else◌, All}
use Rattle.std.specs.List.{AllPairs}
use Rattle.std.proofs.lemmas.Bool.{eqb-true}
use Rattle.std.proofs.lemmas.List.Elements.{All-head, All-tail}
use Rattle.pon_record.specs.Chapters.{PlacedChapter}
use Rattle.pon_audit.specs.Openings.{chapter_of}
use Rattle.pon_audit.specs.Verdicts.{Continues, IsGoodChapter}
use Rattle.pon_sold.specs.Chapters.{AreOfPort, GoOn}
use Rattle.pon_look.specs.Sold.{chapters_of}

module _ (port : ℕ) where
  later : (c : PlacedChapter) (cs : List PlacedChapter) → AllPairs Continues (c ∷ cs) → AllPairs Continues cs
  later c cs p j k d lt l = p (suc j) (suc k) d (omega (arith, lt)) (omega (arith, l))

  continued : (c : PlacedChapter) (cs : List PlacedChapter) → AllPairs Continues (c ∷ cs) → All (Continues c) cs
  continued c cs p k d l = p zero (suc k) d (omega arith) (omega (arith, l))

  go_on : (c : PlacedChapter) → c.body.port ≡ port → (cs : List PlacedChapter) → All IsGoodChapter cs → All (Continues c) cs → AllPairs Continues cs → GoOn (chapter_of c.body) (chapters_of port cs)
  go_on c here [] good chained pairs = tt
  go_on c here (d ∷ ds) good chained pairs =
      by_port (λ there. go_on d there ds (All-tail IsGoodChapter d ds good) (continued d ds pairs) (later d ds pairs)) (go_on c here ds (All-tail IsGoodChapter d ds good) (All-tail (Continues c) d ds chained) (later d ds pairs)) (d.body.port == port) refl
    where
      by_port : (d.body.port ≡ port → GoOn (chapter_of d.body) (chapters_of port ds)) → GoOn (chapter_of c.body) (chapters_of port ds) →
          (b : Bool) → (d.body.port == port) ≡ b → GoOn (chapter_of c.body) (if b then chapter_of d.body ∷ chapters_of port ds else chapters_of port ds)
      by_port after without true e =
          let there : d.body.port ≡ port = eqb-true d.body.port port e in
          ((All-head IsGoodChapter d ds good).lawful, All-head (Continues c) d ds chained (here ∙ sym there), after there)
      by_port after without false e = without

  pub of_port : (cs : List PlacedChapter) → All IsGoodChapter cs → AllPairs Continues cs → AreOfPort (chapters_of port cs)
  of_port [] good pairs = tt
  of_port (c ∷ cs) good pairs = by_port (of_port cs (All-tail IsGoodChapter c cs good) (later c cs pairs)) (c.body.port == port) refl
    where
      by_port : AreOfPort (chapters_of port cs) → (b : Bool) → (c.body.port == port) ≡ b → AreOfPort (if b then chapter_of c.body ∷ chapters_of port cs else chapters_of port cs)
      by_port without true e = ((All-head IsGoodChapter c cs good).lawful, go_on c (eqb-true c.body.port port e) cs (All-tail IsGoodChapter c cs good) (continued c cs pairs) (later c cs pairs))
      by_port without false e = without
