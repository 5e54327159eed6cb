-- Chapters that are passed to a sink, one post after another.
use Rattle.std.proofs.Common.{◌≡◌, ◌+◌, ◌<◌, ◌≤◌, ◌⊎◌, ℕ, [], ◌∷◌, ◌++◌, inl, inr, ◌∙◌, arith}
use Rattle.std.proofs.lemmas.List.Elements.{All-append, All-cons, All-nil}
use Rattle.pon_desk.specs.Posts.{IsSomeTurn}
use Rattle.pon_ring.specs.Passing.{KeepsRing}
use Rattle.pon_ring.specs.declared.sink.Sink.{Sink}
use Rattle.pon_ring.proofs.Passing.{keeps_all, passes_more, passes_one}
use Rattle.pon_worker.specs.Passing.{PassesChapters, TriesTurn, TurnsAtPost}

-- nothing is passed
pub passes_none : (a b : Sink) → b.outlet ≡ a.outlet → b.cut ≡ a.cut → PassesChapters a b
passes_none a b outlet cut = record { chapters = []; turned = All-nil IsSomeTurn; passed = outlet; cut = cut }

pub passes_tried : (a b : Sink) → TriesTurn a.outlet b.outlet → b.cut ≡ a.cut → PassesChapters a b
passes_tried a b (inl t) cut = record {
  chapters = t.0 ∷ [];
  turned = All-cons IsSomeTurn t.0 [] t.1 (All-nil IsSomeTurn);
  passed = passes_one t.0 a.outlet b.outlet t.2;
  cut = cut;
}
passes_tried a b (inr t) cut = passes_none a b t.2 cut

pub passes_then : (a b c : Sink) → PassesChapters a b → PassesChapters b c → PassesChapters a c
passes_then a b c p q = record {
  chapters = p.chapters ++ q.chapters;
  turned = All-append IsSomeTurn p.chapters q.chapters p.turned q.turned;
  passed = passes_more p.chapters q.chapters a.outlet b.outlet c.outlet p.passed q.passed;
  cut = q.cut ∙ p.cut;
}

pub passes_keeps : (a b : Sink) → PassesChapters a b → KeepsRing a b
passes_keeps a b p = keeps_all p.chapters a.outlet b.outlet p.passed

pub turns_at_post : (a b c : Sink) (index k : ℕ) → k ≡ index → (b.outlet ≡ a.outlet) ⊎ TriesTurn a.outlet b.outlet → b.cut ≡ a.cut
    → (b.cut ≤ k + 1 → TriesTurn b.outlet c.outlet) → (k + 1 < b.cut → c.outlet ≡ b.outlet) → TurnsAtPost a index c
turns_at_post a b c index k is before same at_cut below = record {
  mid = b.outlet;
  before = before;
  at_cut = λ h. at_cut (omega (arith, h, same, is));
  below_cut = λ h. below (omega (arith, h, same, is));
}
