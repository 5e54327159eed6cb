-- What is sure for an Alloc-ID, as numbers.
use Rattle.std.proofs.Common.{◌≡◌, ℕ, ◌+◌, ◌-◌, ◌*◌, ◌/◌, ◌<◌, ◌≤◌, Bool, true, false, refl, ap, sym, ◌∙◌, subst, arith, inl, inr}
use Rattle.std.specs.Prelude.{◌==◌, Contains, None, Some, if◌then◌else◌, option_map}
use Rattle.std.proofs.Math.Nat.{div-zero, le_of_mul-le-mul_left, mul-le-mul_right}
use Rattle.std.proofs.lemmas.Bool.{cases_Bool, cases_lt, eqb-false}
use Rattle.std.proofs.lemmas.Option.{same_Some}
use Rattle.pon_descr.specs.Descriptor.{Descriptor, promised}
use Rattle.pon_descr.specs.declared.class.Class.{Class}
use Rattle.pon_descr.specs.declared.class.Class.TheVariants.{Plain, NonAssured, BestEffort}
use Rattle.pon_admit.specs.declared.row.Row.{Row}
use Rattle.pon_admit.specs.declared.rule.Rule.TheVariants.{CarryRemainders}
use Rattle.pon_admit.specs.Roster.{IsAdmitted}
use Rattle.pon_guar.specs.Book.{load_of}
use Rattle.pon_cert.specs.declared.cert.MapCert.{MapCert}
use Rattle.pon_demand.specs.Input.{Input}
use Rattle.pon_demand.specs.Rates.{guaranteed_rate}
use Rattle.pon_demand.specs.Sharing.{IsCertified, members, same_class, surplus_rate}
use Rattle.pon_sure.specs.Sure.{class_weight, longest_wait, maps_for_a_word, sure_of_row, sure_part, sure_surplus, weight_of}
use Rattle.pon_sure.specs.declared.sure.Sure.{Sure}
use Rattle.pon_history.specs.Chapters.{Chapter, IsLawfulChapter}
use Rattle.pon_laws.specs.Exact.{IsAtLeast}
use Rattle.pon_laws.specs.Runs.{BeforeEach, BeforeMaps, descriptor_of, maps_over, run_of, words_over}
use Rattle.pon_laws.specs.Shares.{IsSureOf, rate_of, roster_of, usable}
use Rattle.pon_laws.proofs.ClassParts.{in_roster, of_class}
use Rattle.pon_laws.proofs.MoreReported.{found}
use Rattle.pon_laws.proofs.RunWords.{rounded_up, sold_words}
use Rattle.pon_laws.proofs.Sure.{each_sure_part}

-- the numbers are those of the row
of_row : (s : Input) (r : Row) (x : Sure) → IsAdmitted s.rule s.gap s.roster → Contains s.roster r → IsSureOf s r x → sure_of_row (roster_of s) r ≡ x
of_row s r x k in_it is =
    same_Some (sure_of_row (roster_of s) r) x (sym (ap (option_map (sure_of_row (roster_of s))) (found s.roster r in_it.0 k.apart in_it.1 in_it.2)) ∙ is)

pub sure_guaranteed : (s : Input) (r : Row) (x : Sure) → IsAdmitted s.rule s.gap s.roster → Contains s.roster r → IsSureOf s r x → x.guaranteed ≤ load_of s.book r.alloc_id → guaranteed_rate s r ≡ x.guaranteed
sure_guaranteed s r x k in_it is enough =
    let same : promised r.descriptor ≡ x.guaranteed = ap (λ (x : Sure). x.guaranteed) (of_row s r x k in_it is) in omega (arith, same, enough)

-- the whole part of a weighted part is below what has that part
whole_below : (part all num den : ℕ) → part * den ≤ num * all → (part / all) * den ≤ num
whole_below part all num den h = elim (cases_lt 0 all) [
  | inl some ↦
      let whole : (part / all) * all ≤ part = omega (arith, some) in
      let both : all * ((part / all) * den) ≤ all * num = omega (arith, h, mul-le-mul_right den whole) in
      le_of_mul-le-mul_left both some
  | inr none ↦
      let none_left : all ≡ 0 = omega (arith, none) in
      let nothing : part / all ≡ 0 = ap (λ (n : ℕ). part / n) none_left ∙ div-zero part in
      omega (arith, ap (λ (n : ℕ). n * den) nothing)
]

is_class : (c d : Class) → same_class c d ≡ true → c ≡ d
is_class Plain Plain e = refl
is_class NonAssured NonAssured e = refl
is_class BestEffort BestEffort e = refl
is_class Plain NonAssured e = absurd (let t : false ≡ true = e in cc)
is_class Plain BestEffort e = absurd (let t : false ≡ true = e in cc)
is_class NonAssured Plain e = absurd (let t : false ≡ true = e in cc)
is_class NonAssured BestEffort e = absurd (let t : false ≡ true = e in cc)
is_class BestEffort Plain e = absurd (let t : false ≡ true = e in cc)
is_class BestEffort NonAssured e = absurd (let t : false ≡ true = e in cc)

-- a guaranteed and a surplus rate together, where less than the use has the sure part
sum_rate : (g p sure part most num den : ℕ) → g ≡ p → sure ≤ part → p + sure ≤ most → (g * den + num < most * den → part * den ≤ num) → (p + sure) * den ≤ g * den + num + 0 * den
sum_rate g p sure part most num den same less enough below = elim (cases_lt (g * den + num) (most * den)) [
  | inl lt ↦ omega (arith, ap (λ (n : ℕ). n * den) same, mul-le-mul_right den less, below lt)
  | inr ge ↦ omega (arith, ge, mul-le-mul_right den enough)
]

pub sure_rate : (s : Input) (cert : MapCert) (class : Class) (r : Row) (x : Sure) → IsAdmitted s.rule s.gap s.roster → IsCertified s cert → Contains (members class s.roster) r → Contains s.roster r → IsSureOf s r x →
    x.guaranteed + x.surplus ≤ load_of s.book r.alloc_id → IsAtLeast (rate_of s cert r) (x.guaranteed + x.surplus) 0
sure_rate s cert class r x k c member in_it is enough =
    let promise : promised r.descriptor ≡ x.guaranteed = ap (λ (x : Sure). x.guaranteed) (of_row s r x k in_it is) in
    let same : sure_part r.descriptor.class s.rule s.gap s.roster r ≡ x.surplus = ap (λ (x : Sure). x.surplus) (of_row s r x k in_it is) in
    let of : r.descriptor.class ≡ class = is_class r.descriptor.class class (of_class s cert k c class r member) in
    let sure : sure_part class s.rule s.gap s.roster r ≡ x.surplus = ap (λ class. sure_part class s.rule s.gap s.roster r) (sym of) ∙ same in
    let part : ℕ = sure_surplus class s.rule s.gap s.roster * weight_of r / class_weight class s.roster in
    let least : x.surplus ≤ part = omega (arith, sure) in
    let range : promised r.descriptor ≤ r.descriptor.max = (in_roster s cert k c class r member).descriptor.enough in
    let within : x.surplus ≤ r.descriptor.max - promised r.descriptor = omega (arith, sure) in
    let usable_too : x.guaranteed + x.surplus ≤ usable s r = omega (arith, promise, range, within, enough) in
    let base : guaranteed_rate s r ≡ x.guaranteed = omega (arith, promise, enough) in
    sum_rate (guaranteed_rate s r) x.guaranteed x.surplus part (usable s r) (surplus_rate s cert r).num (surplus_rate s cert r).den base least usable_too
    (λ less. whole_below (sure_surplus class s.rule s.gap s.roster * weight_of r) (class_weight class s.roster) (surplus_rate s cert r).num (surplus_rate s cert r).den (each_sure_part s cert k c class r member less))

wait_of : (rate n : ℕ) → longest_wait rate ≡ Some n → (0 < rate) × (maps_for_a_word rate ≡ n)
wait_of rate n h = elim (cases_Bool (rate == 0)) [
  | inl e ↦ absurd (let t : None ≡ Some n = sym (ap (λ b. if b then None else Some (maps_for_a_word rate)) e) ∙ h in cc)
  | inr e ↦
      let some : Some (maps_for_a_word rate) ≡ Some n = sym (ap (λ b. if b then None else Some (maps_for_a_word rate)) e) ∙ h in
      (positive rate e, same_Some (maps_for_a_word rate) n some)
]
  where
    positive : (rate : ℕ) → (rate == 0) ≡ false → 0 < rate
    positive rate e = omega (arith, eqb-false rate 0 e)

pub sure_wait : (c : Chapter) → IsLawfulChapter c → c.opening.rule ≡ CarryRemainders → (from count i n : ℕ) (d : Descriptor) →
    BeforeEach (λ s. descriptor_of s.roster i ≡ Some d) (run_of c from count) → BeforeMaps (λ s. promised d ≤ load_of s.book i) (run_of c from count) →
    longest_wait (promised d) ≡ Some n → n ≤ maps_over (run_of c from count) → 0 < words_over (run_of c from count) i
sure_wait c l two from count i n d has loaded wait long =
    let parts = wait_of (promised d) n wait in
    let word : 256 ≤ maps_over (run_of c from count) * promised d = rounded_up (promised d) (maps_over (run_of c from count)) parts.0 (let enough : maps_for_a_word (promised d) ≤ maps_over (run_of c from count) = omega (arith, parts.1, long) in enough) in
    omega (arith, sold_words c l two from count i d has loaded, word)
