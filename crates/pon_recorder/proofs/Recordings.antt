-- Chapters that a recording gets one after another.
use Rattle.std.proofs.Common.{◌≡◌, ℕ, ◌+◌, List, [], ◌∷◌, ◌++◌, ◌<◌, ap, arith, inl, inr, refl, subst, sym, ◌∙◌, append_assoc}
use Rattle.std.specs.Prelude.{Bool, true, map, min, Option}
use Rattle.std.proofs.lemmas.List.{append-nil, map-append}
use Rattle.pon_history.specs.Chapters.{Chapter}
use Rattle.pon_record.specs.Chapters.{Body}
use Rattle.pon_record.specs.Bodies.{chapter_body}
use Rattle.pon_record.specs.Recorders.{Grows, Records, Stays}
use Rattle.pon_recorder.specs.Recordings.{AreSome, HasRecorded, IsDropped, TakesChapters, most_dropped}

-- what is left of a chapter is written
pub rest_written : (old : Option (List ℕ)) (left : List ℕ) (mid : Option (List ℕ)) (rest : List ℕ) (new : Option (List ℕ)) (more : List ℕ) (b : Body)
    → Grows old left mid rest b → Stays mid rest new more → HasRecorded old left new more (b ∷ [])
rest_written old left mid rest new more b g s before bodies r = s before (bodies ++ b ∷ []) (g before bodies r)

pub both_recorded : (old : Option (List ℕ)) (left : List ℕ) (mid : Option (List ℕ)) (rest : List ℕ) (new : Option (List ℕ)) (more : List ℕ) (first second : List Body)
    → HasRecorded old left mid rest first → HasRecorded mid rest new more second → HasRecorded old left new more (first ++ second)
both_recorded old left mid rest new more first second f s before bodies r =
    subst (λ (bs : List Body). Records before new more bs) (append_assoc bodies first second) (s before (bodies ++ first) (f before bodies r))

both_some : (first second all more : List Body) → AreSome first all → AreSome second more → AreSome (first ++ second) (all ++ more)
both_some first second [] more f s = subst (λ (bs : List Body). AreSome (bs ++ second) more) (sym f) s
both_some first second (b ∷ bs) more (inl f) s = inl (both_some first second bs more f s)
both_some first second (b ∷ bs) more (inr (rest, e, f)) s = inr (rest ++ second, ap (λ (cs : List Body). cs ++ second) e, both_some rest second bs more f s)

-- a chapter is recorded
pub takes_one : (old : Option (List ℕ)) (left : List ℕ) (new : Option (List ℕ)) (rest : List ℕ) (count : ℕ) (b : Body)
    → HasRecorded old left new rest (b ∷ []) → TakesChapters old left new rest count count (b ∷ [])
takes_one old left new rest count b h = record {
  recorded = b ∷ [];
  grows = h;
  some = inr ([], refl, refl);
  all = λ e l. refl;
  counts = omega arith;
}

-- a chapter is dropped and counted
pub drops_one : (old : Option (List ℕ)) (left : List ℕ) (new : Option (List ℕ)) (rest : List ℕ) (failed : Bool) (count after : ℕ) (b : Body)
    → IsDropped old left new rest failed b → after ≡ min (count + 1) most_dropped → TakesChapters old left new rest count after (b ∷ [])
drops_one old left new rest failed count after b (inl h) more = record {
  recorded = [];
  grows = h;
  some = inl refl;
  all = λ e l. absurd (omega (arith, more, e, l));
  counts = omega (arith, more);
}
drops_one old left new rest failed count after b (inr h) more = record {
  recorded = b ∷ [];
  grows = h.1;
  some = inr ([], refl, refl);
  all = λ e l. refl;
  counts = omega (arith, more);
}

-- no chapter is taken
pub takes_none : (held : Option (List ℕ)) (left : List ℕ) (count : ℕ) → TakesChapters held left held left count count []
takes_none held left count = record {
  recorded = [];
  grows = λ before bodies r. subst (λ (bs : List Body). Records before held left bs) (sym (append-nil bodies)) r;
  some = refl;
  all = λ e l. refl;
  counts = omega arith;
}

-- chapters are taken after others
pub takes_both : (old : Option (List ℕ)) (left : List ℕ) (mid : Option (List ℕ)) (rest : List ℕ) (new : Option (List ℕ)) (more : List ℕ) (before between after : ℕ) (first second : List Body)
    → TakesChapters old left mid rest before between first → TakesChapters mid rest new more between after second
    → TakesChapters old left new more before after (first ++ second)
takes_both old left mid rest new more before between after first second f s = record {
  recorded = f.recorded ++ s.recorded;
  grows = both_recorded old left mid rest new more f.recorded s.recorded f.grows s.grows;
  some = both_some f.recorded s.recorded first second f.some s.some;
  all = λ e l.
      let same : between ≡ before = omega (arith, f.counts, s.counts, e) in
      let later : after ≡ between = omega (arith, e, same) in
      ap (λ (bs : List Body). bs ++ s.recorded) (f.all same l)
      ∙ ap (λ (bs : List Body). first ++ bs) (s.all later (subst (λ (n : ℕ). n < most_dropped) (sym same) l));
  counts = omega (arith, f.counts, s.counts);
}

-- one more chapter of a ring is taken
pub takes_more : (port : ℕ) (old : Option (List ℕ)) (left : List ℕ) (mid : Option (List ℕ)) (rest : List ℕ) (new : Option (List ℕ)) (more : List ℕ) (before between after : ℕ) (popped : List Chapter) (x : Chapter)
    → TakesChapters old left mid rest before between (map (chapter_body port) popped) → TakesChapters mid rest new more between after (chapter_body port x ∷ [])
    → TakesChapters old left new more before after (map (chapter_body port) (popped ++ x ∷ []))
takes_more port old left mid rest new more before between after popped x f s =
    subst (λ (bs : List Body). TakesChapters old left new more before after bs) (sym (map-append (chapter_body port) popped (x ∷ [])))
    (takes_both old left mid rest new more before between after (map (chapter_body port) popped) (chapter_body port x ∷ []) f s)

pub received_more : (a b c popped : List Chapter) (x : Chapter) → b ≡ a ++ popped → c ≡ b ++ x ∷ [] → c ≡ a ++ (popped ++ x ∷ [])
received_more a b c popped x first next = next ∙ ap (λ (t : List Chapter). t ++ x ∷ []) first ∙ append_assoc a popped (x ∷ [])
