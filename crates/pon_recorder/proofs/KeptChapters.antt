-- The chapters that are kept are those that were received.
use Rattle.std.proofs.Common.{◌≡◌, List, [], ◌∷◌, ◌++◌, append-nil, ap, inl, inr, refl, sym, ◌∙◌}
use Rattle.std.specs.Prelude.{MatchOption, Option, Some, None, option_to_list}
use Rattle.std.specs.Option.{ForSome}
use Rattle.pon_history.specs.Chapters.{Chapter}
use Rattle.pon_lists.specs.Kept.{AddsTo}

-- one more chapter is received, and kept
pub keeps_one : (old new : Option (List Chapter)) (before after : List Chapter) (x : Chapter) → ForSome old (λ k. k ≡ before) → AddsTo old x new → after ≡ before ++ x ∷ [] → ForSome new (λ k. k ≡ after)
keeps_one None new before after x are add more k e = absurd (let none : None ≡ Some k = sym add ∙ e in cc)
keeps_one (Some items) new before after x are (inl add) more k e =
    let same : Some (items ++ x ∷ []) ≡ Some k = sym add ∙ e in
    let kept : items ++ x ∷ [] ≡ k = cc in
    sym kept ∙ ap (λ (t : List Chapter). t ++ x ∷ []) (are items refl) ∙ sym more
keeps_one (Some items) new before after x are (inr add) more k e = absurd (let none : None ≡ Some k = sym add ∙ e in cc)

-- a chapter is received and kept, if there is one
pub keeps_any : (old new : Option (List Chapter)) (before after : List Chapter) (o : Option Chapter) → ForSome old (λ k. k ≡ before)
    → MatchOption o (new ≡ old) (λ c. AddsTo old c new) → after ≡ before ++ option_to_list o → ForSome new (λ k. k ≡ after)
keeps_any old new before after None are same more = λ k e. are k (sym same ∙ e) ∙ sym (more ∙ append-nil before)
keeps_any old new before after (Some x) are add more = keeps_one old new before after x are add more
