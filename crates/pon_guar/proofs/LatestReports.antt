-- The latest report of a list.
use Rattle.std.proofs.Common.{◌≡◌, ℕ, ◌≤◌, true, false, List, [], ◌∷◌, ◌++◌, map, refl, ap, ◌∙◌, arith, inl, inr}
use Rattle.std.specs.Prelude.{All, IfSome, Option, Some, None, if◌then◌else◌, nat_lt, option_map, option_to_list}
use Rattle.std.proofs.lemmas.Bool.{cases_lt, le-ltb, lt-ltb}
use Rattle.std.proofs.lemmas.Bool.Decides.{nat_tests}
use Rattle.std.proofs.lemmas.List.Elements.{All-cons, All-head, All-nil, All-tail, All-weaker}
use Rattle.pon_guar.specs.Book.{Counted}
use Rattle.pon_guar.specs.Loads.{less}
use Rattle.pon_guar.specs.Reports.{later, latest}

pub latest_lone : (c : Option Counted) → latest (option_to_list c ++ []) ≡ c
latest_lone None = refl
latest_lone (Some c) = refl

-- the first part of a list may be replaced by its latest
pub latest-append : (cs ds : List Counted) → latest (cs ++ ds) ≡ latest (option_to_list (latest cs) ++ ds)
latest-append [] ds = refl
latest-append (c ∷ cs) ds = ap (later c) (latest-append cs ds) ∙ one (latest cs)
  where
    one : (o : Option Counted) → later c (latest (option_to_list o ++ ds)) ≡ latest (option_to_list (later c o) ++ ds)
    one None = refl
    one (Some d) = grind (arith, nat_tests)

-- the latest report is lessened with all
pub latest_less : (w : ℕ) (cs : List Counted) → latest (map (less w) cs) ≡ option_map (less w) (latest cs)
latest_less w [] = refl
latest_less w (c ∷ cs) = ap (later (less w c)) (latest_less w cs) ∙ one (latest cs)
  where
    one : (d : Option Counted) → later (less w c) (option_map (less w) d) ≡ option_map (less w) (later c d)
    one None = refl
    one (Some d) = elim (nat_lt d.frame c.frame) as (λ b. (if b then Some (less w c) else Some (less w d)) ≡ option_map (less w) (if b then Some c else Some d)) [ true ↦ refl | false ↦ refl ]

-- The latest report of a list has a property that all have, and none is of a later frame; if there is none, the list is empty.
abbrev pub IsLatest : (Counted → Type 0) → Option Counted → List Counted → Type 0
IsLatest P None cs = All (λ d. ⊥) cs
IsLatest P (Some c) cs = P c × All (λ d. d.frame ≤ c.frame) cs

pub latest_is : (P : Counted → Type 0) (cs : List Counted) → All P cs → IsLatest P (latest cs) cs
latest_is P [] h = All-nil (λ d. ⊥)
latest_is P (c ∷ cs) h = one (latest cs) (latest_is P cs (All-tail P c cs h))
  where
    one : (q : Option Counted) → IsLatest P q cs → IsLatest P (later c q) (c ∷ cs)
    one None k = (All-head P c cs h, All-cons (λ d. d.frame ≤ c.frame) c cs (omega arith) (All-weaker (λ d. ⊥) (λ d. d.frame ≤ c.frame) (λ d b. absurd b) cs k))
    one (Some d) k = elim (cases_lt d.frame c.frame) [
      | inl lt ↦ rw (lt-ltb d.frame c.frame lt) (All-head P c cs h, All-cons (λ e. e.frame ≤ c.frame) c cs (omega arith) (All-weaker (λ e. e.frame ≤ d.frame) (λ e. e.frame ≤ c.frame) (λ e b. omega (arith, b, lt)) cs k.1))
      | inr le ↦ rw (le-ltb d.frame c.frame le) (k.0, All-cons (λ e. e.frame ≤ d.frame) c cs le k.1)
    ]

pub latest_all : (P : Counted → Type 0) (cs : List Counted) → All P cs → IfSome (latest cs) P
latest_all P cs h = (elim (latest cs) as (λ c. IsLatest P c cs → IfSome c P) [ None ↦ λ _. tt | Some c ↦ λ k. k.0 ]) (latest_is P cs h)
