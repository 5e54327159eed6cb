-- An Alloc-ID whose own report stays gets no higher rate if others report more.
use Rattle.std.proofs.Common.{◌≡◌, ℕ, ◌+◌, ◌*◌, ◌≤◌, List, [], ◌∷◌, map, ap, sym, subst, refl, arith}
use Rattle.std.specs.Prelude.{Contains, sum_by}
use Rattle.std.specs.List.{AllZip}
use Rattle.std.proofs.lemmas.List.Sums.{sum_by-cons}
use Rattle.pon_units.specs.Frac.{Frac}
use Rattle.pon_descr.specs.declared.class.Class.{Class}
use Rattle.pon_descr.specs.declared.class.Class.TheVariants.{Plain, NonAssured, BestEffort}
use Rattle.pon_admit.specs.declared.row.Row.{Row}
use Rattle.pon_admit.specs.Roster.{IsAdmitted}
use Rattle.pon_guar.specs.Book.{load_of}
use Rattle.pon_guar.specs.declared.account.Account.{Account}
use Rattle.pon_cert.specs.declared.problem.Item.{Item}
use Rattle.pon_cert.specs.declared.cert.Level.{Level}
use Rattle.pon_cert.specs.declared.cert.Level.TheVariants as level
use Rattle.pon_cert.specs.declared.cert.ClassCert.{ClassCert}
use Rattle.pon_cert.specs.declared.cert.MapCert.{MapCert}
use Rattle.pon_cert.specs.Certificate.{IsCertificate, RuleHolds, amount, denominator, left_surplus}
use Rattle.pon_cert.proofs.Fairness.{is_feasible}
use Rattle.pon_demand.specs.ClassShares.{best_effort_surplus}
use Rattle.pon_demand.specs.Input.{Input}
use Rattle.pon_demand.specs.Rates.{guaranteed_rate}
use Rattle.pon_demand.specs.Sharing.{IsCertified, is_saturated, item_of, items, members, spelled_rate, surplus, surplus_rate}
use Rattle.pon_demand.proofs.ClassShares.{weighted}
use Rattle.pon_laws.specs.Growth.{Grows, IsLevelUpTo, IsUpTo}
use Rattle.pon_laws.specs.Shares.{IsMoreOfOthers, rate_of, with_reports}
use Rattle.pon_laws.proofs.ClassParts.{be_rate, na_rate, plain_rate, rule}
use Rattle.pon_laws.proofs.GrowingItems.{level_falls_with, lower}

-- the caps of items that grow are no lower together
caps_grow : (is js : List Item) → AllZip Grows is js → sum_by (λ i. i.cap) is ≤ sum_by (λ i. i.cap) js
caps_grow [] [] h = omega arith
caps_grow [] (j ∷ js) h = absurd h
caps_grow (i ∷ is) [] h = absurd h
caps_grow (i ∷ is) (j ∷ js) h = rw (sum_by-cons (λ (i : Item). i.cap) i is, sum_by-cons (λ (i : Item). i.cap) j js) (omega (arith, h.0.cap, caps_grow is js h.1))

-- a class whose items grow, and whose surplus does not, leaves no more
leaves_no_more : (l m : Level) (is js : List Item) (old new : ℕ) → IsLevelUpTo m l → new ≤ old → AllZip Grows is js → left_surplus m js new ≤ left_surplus l is old
leaves_no_more level.All level.All is js old new le fewer g = omega (arith, fewer, caps_grow is js g)
leaves_no_more (level.At f) level.All is js old new le fewer g = absurd le
leaves_no_more l (level.At f) is js old new le fewer g = omega arith

module _ (s : Input) (book : List Account) (k : IsAdmitted s.rule s.gap s.roster) (up : (j : ℕ) → load_of s.book j ≤ load_of book j) where
  abbrev t : Input
  t = with_reports s book

  row_guaranteed : (q : Row) → guaranteed_rate s q ≤ guaranteed_rate t q
  row_guaranteed q = omega (arith, up q.alloc_id)

  all_guaranteed : (rows : List Row) → sum_by (guaranteed_rate s) rows ≤ sum_by (guaranteed_rate t) rows
  all_guaranteed [] = omega arith
  all_guaranteed (q ∷ rows) = rw (sum_by-cons (guaranteed_rate s) q rows, sum_by-cons (guaranteed_rate t) q rows) (omega (arith, row_guaranteed q, all_guaranteed rows))

  pub surplus_falls : surplus t ≤ surplus s
  surplus_falls = omega (arith, all_guaranteed s.roster)

  row_grows : (q : Row) → Grows (item_of s q) (item_of t q)
  row_grows q = record { weight = omega arith; cap = omega (arith, up q.alloc_id) }

  all_grow : (rows : List Row) → AllZip Grows (map (item_of s) rows) (map (item_of t) rows)
  all_grow [] = tt
  all_grow (q ∷ rows) = (row_grows q, all_grow rows)

  module _ (m n : MapCert) (cm : IsCertified s m) (cn : IsCertified t n) where
    na_level : IsLevelUpTo n.na.level m.na.level
    na_level = level_falls_with (items NonAssured s) (items NonAssured t) (surplus s) (surplus t) m.na n.na surplus_falls (weighted s k NonAssured refl) (all_grow (members NonAssured s.roster)) cm.non_assured cn.non_assured

    left_falls : best_effort_surplus t n ≤ best_effort_surplus s m
    left_falls = leaves_no_more m.na.level n.na.level (items NonAssured s) (items NonAssured t) (surplus s) (surplus t) na_level surplus_falls (all_grow (members NonAssured s.roster))

    be_level : IsLevelUpTo n.be.level m.be.level
    be_level = level_falls_with (items BestEffort s) (items BestEffort t) (best_effort_surplus s m) (best_effort_surplus t n) m.be n.be left_falls (weighted s k BestEffort refl) (all_grow (members BestEffort s.roster)) cm.best_effort cn.best_effort

    -- an Alloc-ID with the same load has the same item
    module _ (q : Row) (own : load_of s.book q.alloc_id ≡ load_of book q.alloc_id) where
      same_cap : (item_of s q).cap ≡ (item_of t q).cap
      same_cap = omega (arith, own)

      same_guaranteed : guaranteed_rate s q ≡ guaranteed_rate t q
      same_guaranteed = omega (arith, own)

      same_item : item_of t q ≡ item_of s q
      same_item = (λ j. record { weight = (item_of s q).weight; cap = sym same_cap j })

      class_falls : (class : Class) (old new : ℕ) (c d : ClassCert) → IsCertificate (items class s) old c → IsCertificate (items class t) new d → IsLevelUpTo d.level c.level → Contains (members class s.roster) q →
          IsUpTo (spelled_rate t class d q) (spelled_rate s class c q)
      class_falls class old new c d hc hd le in_it =
          let before = rule s class c old k hc q in_it in
          let after = rule t class d new k hd q in_it in
          subst (λ i. amount d.level i (is_saturated class s.roster d q.alloc_id) * denominator c.level ≤ amount c.level (item_of s q) (is_saturated class s.roster c q.alloc_id) * denominator d.level) (sym same_item)
          (lower c.level d.level (item_of s q) (is_saturated class s.roster c q.alloc_id) (is_saturated class s.roster d q.alloc_id) before
          (subst (λ i. RuleHolds d.level i (is_saturated class s.roster d q.alloc_id)) same_item after)
          le (is_feasible (items class s) old c hc).has_over (is_feasible (items class t) new d hd).has_over)

      with_guaranteed : (a b : Frac) → IsUpTo b a → (guaranteed_rate t q * b.den + b.num) * a.den ≤ (guaranteed_rate s q * a.den + a.num) * b.den
      with_guaranteed a b h = omega (arith, h, ap (λ (n : ℕ). n * (a.den * b.den)) same_guaranteed)

      by_class : (class : Class) → Contains (members class s.roster) q → IsUpTo (surplus_rate t n q) (surplus_rate s m q)
      by_class Plain in_it = rw (plain_rate s m k cm q in_it, plain_rate t n k cn q in_it) (omega arith)
      by_class NonAssured in_it = rw (na_rate s m k cm q in_it, na_rate t n k cn q in_it) (class_falls NonAssured (surplus s) (surplus t) m.na n.na cm.non_assured cn.non_assured na_level in_it)
      by_class BestEffort in_it = rw (be_rate s m k cm q in_it, be_rate t n k cn q in_it) (class_falls BestEffort (best_effort_surplus s m) (best_effort_surplus t n) m.be n.be cm.best_effort cn.best_effort be_level in_it)

pub never_more : (s : Input) (book : List Account) (m n : MapCert) → IsAdmitted s.rule s.gap s.roster → IsCertified s m → IsCertified (with_reports s book) n →
    (class : Class) (q : Row) → Contains (members class s.roster) q → IsMoreOfOthers s book q.alloc_id → IsUpTo (rate_of (with_reports s book) n q) (rate_of s m q)
never_more s book m n k cm cn class q in_it more =
    let own : load_of s.book q.alloc_id ≡ load_of book q.alloc_id = omega (arith, more.own) in
    with_guaranteed s book k more.others m n cm cn q own (surplus_rate s m q) (surplus_rate (with_reports s book) n q) (by_class s book k more.others m n cm cn q own class in_it)
