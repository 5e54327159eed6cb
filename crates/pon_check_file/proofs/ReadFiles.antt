-- The surplus and the items that are read are in range.
use Rattle.std.proofs.Common.{◌≡◌, ℕ, ◌≤◌, Bool, true, false, List, [], ◌∷◌, map, refl, arith, subst, Option, Some, None}
use Rattle.std.specs.Prelude.{codes, if◌then◌else◌, ◌&&◌, nat_le}
use Rattle.std.specs.List.{AllByRecursion}
use Rattle.std.proofs.lemmas.Bool.{and_parts, leb-true}
use Rattle.pon_units.specs.declared.limits.TheConstants.{LINE_RATE}
use Rattle.pon_lists.specs.OptionSteps.{◌>>=◌}
use Rattle.pon_text.specs.Cuts.{cut_at, follows}
use Rattle.pon_text.specs.Lines.{number_of}
use Rattle.pon_cert.specs.declared.problem.Item.{Item}
use Rattle.pon_cert.specs.Problem.{IsItem}
use Rattle.pon_check_file.specs.CheckLines.{surplus_of, item_on_line, number_within}

within : (least most n : ℕ) (o : Option ℕ) → (o >>= λ n. if nat_le least n && nat_le n most then Some n else None) ≡ Some n → (least ≤ n) × (n ≤ most)
within least most n None e = absurd (cc)
within least most n (Some m) e = go (nat_le least m && nat_le m most) refl e
  where
    go : (b : Bool) → (nat_le least m && nat_le m most) ≡ b → (if b then Some m else None) ≡ Some n → (least ≤ n) × (n ≤ most)
    go true is e =
        let same : m ≡ n = cc in
        let two = and_parts (nat_le least m) (nat_le m most) is in
        (omega (arith, same, leb-true least m two.0), omega (arith, same, leb-true m most two.1))
    go false is e = absurd (cc)

range : (least most : ℕ) (w : List ℕ) (n : ℕ) → number_within least most w ≡ Some n → (least ≤ n) × (n ≤ most)
unfolding number_within
range least most w n e = within least most n (number_of w) e

pub surplus_range : (l : List ℕ) (s : ℕ) → surplus_of l ≡ Some s → s ≤ LINE_RATE
unfolding surplus_of
surplus_range l s e = go (follows (codes "surplus ") l) e
  where
    go : (o : Option (List ℕ)) → (o >>= number_within 0 LINE_RATE) ≡ Some s → s ≤ LINE_RATE
    go None e = absurd (cc)
    go (Some w) e = (range 0 LINE_RATE w s e).1

abbrev with_cap : ℕ → Option ℕ → Option Item
with_cap weight cap = cap >>= λ cap. Some (record { weight = weight; cap = cap })

abbrev with_weight : List ℕ → Option ℕ → Option Item
with_weight w weight = weight >>= λ weight. with_cap weight (number_within 0 LINE_RATE w)

abbrev with_numbers : Option (List ℕ × List ℕ) → Option Item
with_numbers parts = parts >>= λ parts. with_weight parts.1 (number_within 1 LINE_RATE parts.0)

cap_read : (weight : ℕ) (w : List ℕ) (i : Item) → 1 ≤ weight → weight ≤ LINE_RATE → (o : Option ℕ) → number_within 0 LINE_RATE w ≡ o → with_cap weight o ≡ Some i → IsItem i
cap_read weight w i a b None is e = absurd (cc)
cap_read weight w i a b (Some cap) is e =
    let same : record { weight = weight; cap = cap } ≡ i = cc in
    subst IsItem same (record { has_weight = omega (arith, a); weight_range = b; cap_range = (range 0 LINE_RATE w cap is).1 })

weight_read : (v w : List ℕ) (i : Item) (o : Option ℕ) → number_within 1 LINE_RATE v ≡ o → with_weight w o ≡ Some i → IsItem i
weight_read v w i None is e = absurd (cc)
weight_read v w i (Some weight) is e = let two = range 1 LINE_RATE v weight is in cap_read weight w i two.0 two.1 (number_within 0 LINE_RATE w) refl e

numbers_read : (i : Item) (o : Option (List ℕ × List ℕ)) → with_numbers o ≡ Some i → IsItem i
numbers_read i None e = absurd (cc)
numbers_read i (Some p) e = weight_read p.0 p.1 i (number_within 1 LINE_RATE p.0) refl e

item_read : (l : List ℕ) (i : Item) → item_on_line l ≡ Some i → IsItem i
unfolding item_on_line
item_read l i e = go (follows (codes "item ") l) e
  where
    go : (o : Option (List ℕ)) → (o >>= λ w. with_numbers (cut_at 32 w)) ≡ Some i → IsItem i
    go None e = absurd (cc)
    go (Some w) e = numbers_read i (cut_at 32 w) e

pub items_read : (ls : List (List ℕ)) (is : List Item) → map item_on_line ls ≡ map Some is → AllByRecursion IsItem is
items_read ls [] e = tt
items_read [] (i ∷ is) e = absurd (cc)
items_read (l ∷ ls) (i ∷ is) e =
    let first : item_on_line l ≡ Some i = cc in
    let more : map item_on_line ls ≡ map Some is = cc in
    (item_read l i first, items_read ls is more)
