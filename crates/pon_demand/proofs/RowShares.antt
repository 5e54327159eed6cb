-- The shares of a map, row by row: the flags of each class are those of its members in map order.
use Rattle.std.proofs.Common.{◌≡◌, ℕ, zero, suc, ◌+◌, ◌≤◌, Bool, true, false, cond, List, [], ◌∷◌, drop, refl, ap, sym, ◌∙◌, subst}
use Rattle.std.specs.Prelude.{filter, All, slice_get, Some}
use Rattle.std.proofs.Math.Numerals.{add-one}
use Rattle.std.proofs.lemmas.List.Elements.{All-head, All-tail}
use Rattle.std.proofs.lemmas.Option.{get_or_from_slice_get, same_Some, slice_get_within}
use Rattle.pon_units.specs.Frac.{Frac}
use Rattle.pon_units.specs.declared.limits.TheConstants.{LINE_RATE}
use Rattle.pon_descr.specs.declared.class.Class.{Class}
use Rattle.pon_descr.specs.declared.class.Class.TheVariants.{Plain, NonAssured, BestEffort}
use Rattle.pon_admit.specs.Roster.{IsAdmitted, IsInRange}
use Rattle.pon_admit.specs.declared.row.Row.{Row}
use Rattle.pon_cert.specs.declared.problem.Item.{Item}
use Rattle.pon_cert.specs.declared.cert.Level.{Level}
use Rattle.pon_cert.specs.declared.cert.ClassCert.{ClassCert}
use Rattle.pon_cert.specs.declared.cert.MapCert.{MapCert}
use Rattle.pon_cert.specs.Certificate.{IsCertificate, RuleHolds, amount, denominator, left_surplus}
use Rattle.pon_demand.specs.Input.{Input}
use Rattle.pon_demand.specs.Shares.{AreSharesAt, IsMember, IsNext, flags_from}
use Rattle.pon_demand.specs.Sharing.{IsCertified, is_saturated, item_of, items, rate_in, same_class, spelled_rate, surplus, surplus_rate}
use Rattle.pon_demand.specs.declared.demand.Demand.{Demand}
use Rattle.pon_demand.specs.declared.shares.ClassShares.{ClassShares}
use Rattle.pon_demand.specs.declared.shares.Shares.{Shares}
use Rattle.pon_demand.proofs.ClassItems.{denominator_range, item_range, rates_range, shares_too}
use Rattle.pon_demand.proofs.Surplus.{flags_each, rules_hold}

-- The element at an index.

drop_here : {X : Type 0} (xs : List X) (i : ℕ) (x : X) → slice_get xs i ≡ Some x → drop i xs ≡ x ∷ drop (suc i) xs
drop_here [] i x h = absurd cc
drop_here (y ∷ xs) zero x h = ap (λ y. y ∷ xs) (same_Some y x h)
drop_here (y ∷ xs) (suc i) x h = drop_here xs i x h

all_here : {X : Type 0} (P : X → Type 0) (xs : List X) (i : ℕ) (x : X) → slice_get xs i ≡ Some x → All P xs → P x
all_here P xs i x h all = subst P (get_or_from_slice_get xs i x x h) (all i x (slice_get_within xs i x h))

-- a fact about all elements that pass a test is a fact about one that passes
passing_here : {X : Type 0} (P : X → Type 0) (p : X → Bool) (xs : List X) (i : ℕ) (x : X) → slice_get xs i ≡ Some x → p x ≡ true → All P (filter p xs) → P x
passing_here P p [] i x h t all = absurd cc
passing_here P p (y ∷ xs) zero x h t all =
    let is : y ≡ x = same_Some y x h in
    subst P is (All-head P y (filter p xs) (subst (λ b. All P (cond b (y ∷ filter p xs) (filter p xs))) (ap p is ∙ t) all))
passing_here P p (y ∷ xs) (suc i) x h t all = passing_here P p xs i x h t (rest (p y) all)
  where
    rest : (b : Bool) → All P (cond b (y ∷ filter p xs) (filter p xs)) → All P (filter p xs)
    rest true all = All-tail P y (filter p xs) all
    rest false all = all

-- Row i.
module _ (s : Input) (i : ℕ) (r : Row) (here : slice_get s.roster i ≡ Some r) where
  -- its flag comes first in its class, and in no other
  flags_here : (class : Class) (cert : ClassCert) (b : Bool) → same_class r.descriptor.class class ≡ b →
      flags_from class s cert i ≡ cond b (is_saturated class s.roster cert r.alloc_id ∷ flags_from class s cert (i + 1)) (flags_from class s cert (i + 1))
  flags_here class cert true own = rw (drop_here s.roster i r here, own, add-one) refl
  flags_here class cert false own = rw (drop_here s.roster i r here, own, add-one) refl

  range_here : IsAdmitted s.rule s.gap s.roster → IsInRange r
  range_here k = all_here IsInRange s.roster i r here k.in_range

  -- it is the next member of its class
  member_here : (class : Class) (cert : ClassCert) (n : ℕ) → IsAdmitted s.rule s.gap s.roster → IsCertificate (items class s) n cert → same_class class Plain ≡ false → same_class r.descriptor.class class ≡ true →
      (level : Level) (flags : List Bool) → level ≡ cert.level → flags ≡ flags_from class s cert i → IsMember level flags (item_of s r)
  member_here class cert n k c shares own level flags at left = record {
    flag = is_saturated class s.roster cert r.alloc_id;
    rest = flags_from class s cert (i + 1);
    first = left ∙ flags_here class cert true own;
    shares = item_range s r (range_here k) (shares_too r.descriptor.class class own shares);
    rule = rw at (passing_here (λ r. RuleHolds cert.level (item_of s r) (is_saturated class s.roster cert r.alloc_id)) (λ r. same_class r.descriptor.class class) s.roster i r here own (rules_hold s class cert n k.apart c));
    over = rw at (denominator_range s class cert n k c shares);
  }

  module _ (cert : MapCert) (shares : Shares) (at : AreSharesAt s cert i shares) where
    pub na_member : r.descriptor.class ≡ NonAssured → IsMember shares.na.level.now shares.na.flags.now (item_of s r)
    na_member own = member_here NonAssured cert.na (surplus s) at.admitted at.certified.non_assured refl (ap (λ c. same_class c NonAssured) own) _ _ at.na_level at.na_flags

    pub be_member : r.descriptor.class ≡ BestEffort → IsMember shares.be.level.now shares.be.flags.now (item_of s r)
    be_member own = member_here BestEffort cert.be (left_surplus cert.na.level (items NonAssured s) (surplus s)) at.admitted at.certified.best_effort refl (ap (λ c. same_class c BestEffort) own) _ _ at.be_level at.be_flags

    -- its flag is the next of its class
    na_first : r.descriptor.class ≡ NonAssured → shares.na.flags.now ≡ is_saturated NonAssured s.roster cert.na r.alloc_id ∷ flags_from NonAssured s cert.na (i + 1)
    na_first own = at.na_flags ∙ flags_here NonAssured cert.na true (ap (λ c. same_class c NonAssured) own)

    be_first : r.descriptor.class ≡ BestEffort → shares.be.flags.now ≡ is_saturated BestEffort s.roster cert.be r.alloc_id ∷ flags_from BestEffort s cert.be (i + 1)
    be_first own = at.be_flags ∙ flags_here BestEffort cert.be true (ap (λ c. same_class c BestEffort) own)

    -- its rate is that of its class
    spelled : (c : Class) → r.descriptor.class ≡ c → rate_in c (spelled_rate s NonAssured cert.na r) (spelled_rate s BestEffort cert.be r) ≡ surplus_rate s cert r
    spelled c own = ap (λ c. rate_in c (spelled_rate s NonAssured cert.na r) (spelled_rate s BestEffort cert.be r)) (sym own)

    pub plain_rate : r.descriptor.class ≡ Plain → record { num = 0; den = 1 } ≡ surplus_rate s cert r
    plain_rate own = spelled Plain own

    pub na_rate : r.descriptor.class ≡ NonAssured → (item : Item) → item ≡ item_of s r → (rate : Frac) →
        ((flag : Bool) (rest : List Bool) → shares.na.flags.now ≡ flag ∷ rest → rate ≡ record { num = amount shares.na.level.now item flag; den = denominator shares.na.level.now }) → rate ≡ surplus_rate s cert r
    na_rate own item is rate given =
        given _ _ (na_first own)
        ∙ (λ j. record { num = amount (at.na_level j) (is j) (is_saturated NonAssured s.roster cert.na r.alloc_id); den = denominator (at.na_level j) }) ∙ spelled NonAssured own

    pub be_rate : r.descriptor.class ≡ BestEffort → (item : Item) → item ≡ item_of s r → (rate : Frac) →
        ((flag : Bool) (rest : List Bool) → shares.be.flags.now ≡ flag ∷ rest → rate ≡ record { num = amount shares.be.level.now item flag; den = denominator shares.be.level.now }) → rate ≡ surplus_rate s cert r
    be_rate own item is rate given =
        given _ _ (be_first own)
        ∙ (λ j. record { num = amount (at.be_level j) (is j) (is_saturated BestEffort s.roster cert.be r.alloc_id); den = denominator (at.be_level j) }) ∙ spelled BestEffort own

    -- the shares after it
    pub plain_later : r.descriptor.class ≡ Plain → AreSharesAt s cert (i + 1) shares
    plain_later own = record {
      admitted = at.admitted;
      certified = at.certified;
      na_level = at.na_level;
      be_level = at.be_level;
      na_flags = at.na_flags ∙ flags_here NonAssured cert.na false (ap (λ c. same_class c NonAssured) own);
      be_flags = at.be_flags ∙ flags_here BestEffort cert.be false (ap (λ c. same_class c BestEffort) own);
    }

    pub na_later : r.descriptor.class ≡ NonAssured → (new : ClassShares) → new.level.now ≡ shares.na.level.now →
        ((flag : Bool) (rest : List Bool) → shares.na.flags.now ≡ flag ∷ rest → new.flags.now ≡ rest) → AreSharesAt s cert (i + 1) (record { na = new; be = shares.be })
    na_later own new level given = record {
      admitted = at.admitted;
      certified = at.certified;
      na_level = level ∙ at.na_level;
      be_level = at.be_level;
      na_flags = given _ _ (na_first own);
      be_flags = at.be_flags ∙ flags_here BestEffort cert.be false (ap (λ c. same_class c BestEffort) own);
    }

    pub be_later : r.descriptor.class ≡ BestEffort → (new : ClassShares) → new.level.now ≡ shares.be.level.now →
        ((flag : Bool) (rest : List Bool) → shares.be.flags.now ≡ flag ∷ rest → new.flags.now ≡ rest) → AreSharesAt s cert (i + 1) (record { na = shares.na; be = new })
    be_later own new level given = record {
      admitted = at.admitted;
      certified = at.certified;
      na_level = at.na_level;
      be_level = level ∙ at.be_level;
      na_flags = at.na_flags ∙ flags_here NonAssured cert.na false (ap (λ c. same_class c NonAssured) own);
      be_flags = given _ _ (be_first own);
    }

-- guaranteed rate and cap of the next demand together are at most the rate of the line
pub fits_line : {shares : Shares} {d : Demand} → IsNext shares d → d.guaranteed + d.item.cap ≤ LINE_RATE
fits_line {shares} {d} n = subst (λ d. d.guaranteed + d.item.cap ≤ LINE_RATE) (sym n.is) (rates_range n.input n.row (range_here n.input n.index n.row n.here n.shares_at.admitted))

-- before the first row all flags are left
pub all_left : (s : Input) (cert : MapCert) (shares : Shares) → IsAdmitted s.rule s.gap s.roster → IsCertified s cert → shares.na.level.now ≡ cert.na.level → shares.be.level.now ≡ cert.be.level →
    shares.na.flags.now ≡ cert.na.saturated → shares.be.flags.now ≡ cert.be.saturated → AreSharesAt s cert 0 shares
all_left s cert shares k c na be na_flags be_flags = record {
  admitted = k;
  certified = c;
  na_level = na;
  be_level = be;
  na_flags = na_flags ∙ sym (flags_each s NonAssured cert.na (surplus s) k.apart c.non_assured);
  be_flags = be_flags ∙ sym (flags_each s BestEffort cert.be (left_surplus cert.na.level (items NonAssured s) (surplus s)) k.apart c.best_effort);
}
