-- The words of an Alloc-ID that has one ONU.
use Rattle.std.proofs.Common.{◌≡◌, ℕ, ◌*◌, ◌<◌, ◌≤◌, List, [], ◌∷◌, get_or, length, refl, sym, ◌∙◌, arith, inl, inr}
use Rattle.std.specs.Prelude.{All, ◌==◌, nat_le, if◌then◌else◌, filter, find}
use Rattle.std.proofs.lemmas.Bool.{cases_Bool, eq-eqb, ne_eqb}
use Rattle.std.proofs.lemmas.Bool.Decides.{eqb_tells, leb_tells}
use Rattle.std.proofs.lemmas.List.Elements.{All-head, All-tail}
use Rattle.std.proofs.lemmas.List.Sums.{sum_by-cons, sum_by-le}
use Rattle.pon_lists.proofs.Lists.{sum_by_agree}
use Rattle.pon_units.specs.Granted.{AreInMapOrder}
use Rattle.pon_units.specs.declared.granted.Granted.{Granted}
use Rattle.pon_guar.specs.Window.{IsLawfulMap, WindowMap, words_among, words_from, words_granted, words_in, words_to, words_to_from}

-- all words that a map grants to an Alloc-ID are granted under its ONU
own_words : (i u : ℕ) (gs : List Granted) → AreInMapOrder gs → All (λ g. g.alloc_id ≡ i → g.onu ≡ u) gs → words_among i gs ≡ words_granted (find (λ g. g.alloc_id == i) (filter (λ g. g.onu == u) gs))
own_words i u [] h o = refl
own_words i u (g ∷ gs) h o =
    let others : All (λ g. g.alloc_id ≡ i → g.onu ≡ u) gs = All-tail (λ g. g.alloc_id ≡ i → g.onu ≡ u) g gs o in
    sum_by-cons (λ g. if g.alloc_id == i then g.words else 0) g gs ∙ elim (eqb_tells g.alloc_id i) [
      | inl e ↦
          let mine : g.onu ≡ u = All-head (λ g. g.alloc_id ≡ i → g.onu ≡ u) g gs o e.1 in
          let none : words_among i gs ≤ length gs * 0
          = sum_by-le (λ g. if g.alloc_id == i then g.words else 0) 0 gs (λ n d l.
          let other : (get_or gs n d).alloc_id ≡ i → ⊥ = λ z. let k : g.alloc_id < (get_or gs n d).alloc_id = (h.0 n d l).1 (mine ∙ sym (others n d l z)) in omega (arith, z, e.1, k) in
          rw (ne_eqb (get_or gs n d).alloc_id i other) (omega arith)) in
          rw (eq-eqb g.onu u mine, e.0) (omega (arith, none))
      | inr e ↦ elim (cases_Bool (g.onu == u)) [
        | inl t ↦ rw (t, e.0) (omega (arith, own_words i u gs h.1 others))
        | inr t ↦ rw (t, e.0) (omega (arith, own_words i u gs h.1 others))
      ]
    ]

-- so are those of all maps from a frame on
pub words_agree : (i u f : ℕ) (ms : List WindowMap) → All IsLawfulMap ms → All (λ m. f ≤ m.frame → All (λ g. g.alloc_id ≡ i → g.onu ≡ u) m.grants) ms → words_from i f ms ≡ words_to_from u i f ms
words_agree i u f ms l h = sum_by_agree (λ m. if nat_le f m.frame then words_in i m else 0) (λ m. if nat_le f m.frame then words_to u i m else 0) ms (λ k d n. elim (leb_tells f (get_or ms k d).frame) [
  | inl e ↦ rw e.0 (own_words i u (get_or ms k d).grants (l k d n).rising (h k d n e.1))
  | inr e ↦ rw e.0 refl
])
