-- What an outlet keeps of its waiting chapter and of the numbers that came.
use Rattle.std.proofs.Common.{◌≡◌, ℕ, ◌+◌, List, [], ◌∷◌, ◌++◌, append-nil, sym, ◌∙◌, subst}
use Rattle.std.specs.Prelude.{Option, Some, None, option_to_list}
use Rattle.std.specs.Option.{ForSome}
use Rattle.pon_history.specs.Chapters.{Chapter}
use Rattle.pon_ring.specs.Numbers.{AreBelow, ComesAfter}
use Rattle.pon_ring.proofs.Numbers.{below_pushed}

-- a chapter that was handed back waits
pub waits_back : (cs ds : List Chapter) (b c : Chapter) → ComesAfter cs c → ds ≡ cs → b ≡ c → ForSome (Some b) (ComesAfter ds)
waits_back cs ds b c h same is x e = let y : b ≡ x = cc in subst (ComesAfter ds) (sym is ∙ y) (subst (λ s. ComesAfter s c) (sym same) h)

pub below_back : (cs ds : List Chapter) (b c : Chapter) (n : ℕ) → ComesAfter cs c → ds ≡ cs → b ≡ c → n ≡ c.number → AreBelow (n + 1) (ds ++ b ∷ [])
below_back cs ds b c n h same is count =
    subst (λ n. AreBelow (n + 1) (ds ++ b ∷ [])) (sym count)
    (subst (λ b. AreBelow (c.number + 1) (ds ++ b ∷ [])) (sym is)
    (subst (λ s. AreBelow (c.number + 1) (s ++ c ∷ [])) (sym same) (below_pushed cs c h)))

-- no chapter waits
module _ (o : Option Chapter) (none : o ≡ None) where
  pub none_waits : (ds : List Chapter) → ForSome o (ComesAfter ds)
  none_waits ds x e = absurd (let t : None ≡ Some x = sym none ∙ e in cc)

  pub after_sent : (cs : List Chapter) (c : Chapter) → ComesAfter (cs ++ option_to_list o) c → ComesAfter cs c
  after_sent cs c h = subst (λ s. ComesAfter s c) (append-nil cs) (subst (λ o. ComesAfter (cs ++ option_to_list o) c) none h)

  pub below_sent : (cs ds : List Chapter) (c : Chapter) (n : ℕ) → ComesAfter cs c → ds ≡ cs ++ c ∷ [] → n ≡ c.number → AreBelow (n + 1) (ds ++ option_to_list o)
  below_sent cs ds c n h more count =
      subst (λ o. AreBelow (n + 1) (ds ++ option_to_list o)) (sym none)
      (subst (AreBelow (n + 1)) (sym (append-nil ds))
      (subst (λ n. AreBelow (n + 1) ds) (sym count) (subst (AreBelow (c.number + 1)) (sym more) (below_pushed cs c h))))
