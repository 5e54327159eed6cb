-- The chapters of a port in order.
use Rattle.std.proofs.Common.{◌≡◌, ℕ, ◌<◌, ◌≤◌, [], ◌∷◌, length, Option, Some, None, inl, inr, sym, subst, ◌∙◌, arith}
use Rattle.std.specs.Prelude.{slice_get, IsSomeAnd}
use Rattle.std.proofs.lemmas.Option.{none-some, slice_get_cases, slice_get_past}
use Rattle.pon_state.specs.State.{State}
use Rattle.pon_history.specs.Chapters.{Chapter}
use Rattle.pon_plant.specs.Plants.{opened_port}
use Rattle.pon_desk.specs.Settling.{IsRightChapter, PortHistory, all_chapters}
use Rattle.pon_desk.proofs.Elements.{get_before, get_after}

pub some_and : {X : Type 0} (o : Option X) (P : X → Type 0) (x : X) → o ≡ Some x → IsSomeAnd o P → P x
some_and {X} o P x is h = let Q : Option X → Type 0 = λ r. IsSomeAnd r P in subst Q is h

pub some_with : {X : Type 0} (o : Option X) (P : X → Type 0) (x : X) → o ≡ Some x → P x → IsSomeAnd o P
some_with {X} o P x is h = let Q : Option X → Type 0 = λ r. IsSomeAnd r P in subst Q (sym is) h

pub none_and : {X : Type 0} (o : Option X) (P : X → Type 0) → o ≡ None → IsSomeAnd o P → ⊥
none_and {X} o P is h = let Q : Option X → Type 0 = λ r. IsSomeAnd r P in subst Q is h

-- an opening with the port just opened as it was to be
abbrev pub Opens : PortHistory → State → Type 0
Opens h s = s ≡ (opened_port h.opened).opening

module _ (h : PortHistory) where
  pub kept_there : slice_get (all_chapters h) (length h.chapters) ≡ Some h.kept
  kept_there = get_after h.chapters (h.kept ∷ [])

  -- if a chapter is the first of all, it opens as it was to
  opens_first : (k : ℕ) (d : Chapter) → slice_get (all_chapters h) k ≡ Some d → (k ≡ 0 → Opens h d.opening) → k ≡ 0 → IsSomeAnd (slice_get (all_chapters h) 0) (λ c. Opens h c.opening)
  opens_first k d at right none =
      some_with (slice_get (all_chapters h) 0) (λ c. Opens h c.opening) d (subst (λ (i : ℕ). slice_get (all_chapters h) i ≡ Some d) none at) (right none)

  pub opens_wrong : (k : ℕ) (d : Chapter) → slice_get (all_chapters h) k ≡ Some d → k ≡ 0 → (Opens h d.opening → ⊥) → IsRightChapter h k → ⊥
  opens_wrong k d at none wrong right =
      wrong (some_and (slice_get (all_chapters h) 0) (λ c. Opens h c.opening) d (subst (λ (i : ℕ). slice_get (all_chapters h) i ≡ Some d) none at) (right.opens none))

  -- a returned chapter
  pub right_there : (k : ℕ) (d : Chapter) → slice_get h.chapters k ≡ Some d → k < h.kept.number → d.number ≡ k → (k ≡ 0 → Opens h d.opening) → IsRightChapter h k
  right_there k d at below number right = record {
    there = λ _. some_with (slice_get h.chapters k) (λ c. c.number ≡ k) d at number;
    no_more = λ past. absurd (omega (arith, past, below));
    opens = opens_first k d (get_before h.chapters h.kept k d at) right;
  }

  -- past the returned ones
  pub right_past : (k : ℕ) → length h.chapters ≡ h.kept.number → h.kept.number ≤ k → (length h.chapters ≡ 0 → Opens h h.kept.opening) → IsRightChapter h k
  right_past k all past right = record {
    there = λ below. absurd (omega (arith, past, below));
    no_more = λ _. slice_get_past h.chapters k (omega (arith, all, past));
    opens = λ none. opens_first (length h.chapters) h.kept kept_there right (omega (arith, none, past, all));
  }

  pub absent : (k : ℕ) → length h.chapters ≤ k → k < h.kept.number → IsRightChapter h k → ⊥
  absent k past below right = none_and (slice_get h.chapters k) (λ d. d.number ≡ k) (slice_get_past h.chapters k past) (right.there below)

  -- right ones are no more than the number of the kept chapter
  pub no_more_than : ((j : ℕ) → j < length h.chapters → IsRightChapter h j) → length h.chapters ≤ h.kept.number
  no_more_than all =
      elim (slice_get_cases h.chapters h.kept.number).1 [
        | inl s ↦ absurd (none-some s.0 (sym ((all h.kept.number s.1).no_more (omega arith)) ∙ s.2))
        | inr p ↦ p.0
      ]
