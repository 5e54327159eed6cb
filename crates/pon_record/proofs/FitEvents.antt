-- The events that a port takes fit the format of recordings.
use Rattle.std.proofs.Common.{◌≡◌, ℕ, ◌^◌, ◌<◌, ◌≤◌, Bool, true, false, cond, eqb, leb, ltb, ◌&&◌, not, List, [], ◌∷◌, length, Option, Some, None, refl, ap, arith}
use Rattle.std.specs.Prelude.{IfSome}
use Rattle.std.specs.List.{AllByRecursion, list_any}
use Rattle.std.proofs.lemmas.Bool.{eqb-false, eqb-true, le-leb, le-ltb, ne_eqb}
use Rattle.std.proofs.lemmas.List.Elements.{recursion_from_All}
use Rattle.pon_units.specs.declared.limits.TheConstants.{LINE_RATE, MAX_ALLOC_ID, MAX_OCCUPANCY, MAX_ONU_ID, MAX_SERIES, MIN_ALLOC_ID}
use Rattle.pon_descr.specs.declared.class.Class.{Class}
use Rattle.pon_descr.specs.declared.class.Class.TheVariants.{Plain, NonAssured, BestEffort}
use Rattle.pon_descr.specs.declared.refusal.Refusal.{Refusal}
use Rattle.pon_descr.specs.declared.refusal.Refusal.TheVariants.{AlreadyReported, NotPolled, ReportCount, StaleFrame}
use Rattle.pon_descr.specs.Checks.{when}
use Rattle.pon_descr.specs.Descriptor.{Descriptor, IsLawful, SuitsClass, class_refusal, descriptor_refusal, promised}
use Rattle.pon_descr.proofs.Checks.{none_refuses, or_else_none, when_none}
use Rattle.pon_guar.specs.Window.{WindowMap, grants_at, is_of}
use Rattle.pon_guar.specs.ReportChecks.{refuses_report}
use Rattle.pon_admit.specs.declared.event.Event.{Event}
use Rattle.pon_admit.specs.declared.event.Event.TheVariants.{Admit, Change, Remove, Report, MakeMap, Fail, Restore}
use Rattle.pon_state.specs.State.{State}
use Rattle.pon_state.specs.Checks.{first_refusal, when_down, when_full}
use Rattle.pon_state.specs.Events.{IsEvent}
use Rattle.pon_record.specs.Format.{passing}
use Rattle.pon_record.specs.Fields.{alloc_id, cause, class, descriptor, onu_id, unless_refused}
use Rattle.pon_record.specs.Events.{event, occupancy}

pub passes : {A : Type 0} (test : A → Bool) (x : A) → test x ≡ true → passing test x ≡ Some x
passes test x e = ap (λ (b : Bool). cond b (Some x) None) e

pub between : (low n high : ℕ) → low ≤ n → n ≤ high → (leb low n && leb n high) ≡ true
between low n high a b = rw (le-leb low n a, le-leb n high b) refl

pub onu_fits : (u : ℕ) → u ≤ MAX_ONU_ID → onu_id.Fits u
onu_fits u le = (omega (arith, le), passes (λ (n : ℕ). leb n MAX_ONU_ID) u (le-leb u MAX_ONU_ID le))

pub alloc_fits : (i : ℕ) → MIN_ALLOC_ID ≤ i → i ≤ MAX_ALLOC_ID → alloc_id.Fits i
alloc_fits i low high = (omega (arith, high), passes (λ (n : ℕ). leb MIN_ALLOC_ID n && leb n MAX_ALLOC_ID) i (between MIN_ALLOC_ID i MAX_ALLOC_ID low high))

cause_fits : (c : ℕ) → 1 ≤ c → c ≤ 9 → cause.Fits c
cause_fits c low high = (omega (arith, high), passes (λ (n : ℕ). leb 1 n && leb n 9) c (between 1 c 9 low high))

class_fits : (c : Class) → class.Fits c
class_fits Plain = (omega arith, refl)
class_fits NonAssured = (omega arith, refl)
class_fits BestEffort = (omega arith, refl)

none_of_class : (c : Class) (promise most : ℕ) → SuitsClass c promise most → class_refusal c promise most ≡ None
none_of_class Plain promise most s = refl
none_of_class NonAssured promise most s =
    let some : eqb promise 0 ≡ false = ne_eqb promise 0 (λ e. absurd (omega (arith, e, s.0))) in
    let room : eqb promise most ≡ false = ne_eqb promise most (λ e. absurd (omega (arith, e, s.1))) in
    rw (some, room) refl
none_of_class BestEffort promise most s =
    let room : eqb promise most ≡ false = ne_eqb promise most (λ e. absurd (omega (arith, e, s))) in
    rw room refl

lawful_passes : (d : Descriptor) → IsLawful d → descriptor_refusal d ≡ None
lawful_passes d l =
    let fixed : ltb LINE_RATE d.fixed ≡ false = le-ltb LINE_RATE d.fixed (omega (arith, l.in_range, l.enough)) in
    let assured : ltb LINE_RATE d.assured ≡ false = le-ltb LINE_RATE d.assured (omega (arith, l.in_range, l.enough)) in
    let most : ltb LINE_RATE d.max ≡ false = le-ltb LINE_RATE d.max l.in_range in
    let enough : ltb d.max (promised d) ≡ false = le-ltb d.max (promised d) l.enough in
    rw (fixed, assured, most, enough, none_of_class d.class (promised d) d.max l.class) refl

pub descriptor_fits : (d : Descriptor) → IsLawful d → descriptor.Fits d
descriptor_fits d l = (
  (omega (arith, l.in_range, l.enough), (omega (arith, l.in_range, l.enough), (omega (arith, l.in_range), class_fits d.class))),
  ap (λ (r : Option Refusal). unless_refused r d) (lawful_passes d l),
)

occupancy_fits : (o : Option ℕ) → IfSome o (λ words. words < 2 ^ 24) → occupancy.Fits o
occupancy_fits None lt = (omega arith, refl)
occupancy_fits (Some n) lt =
    let other : eqb n 4294967295 ≡ false = ne_eqb n 4294967295 (λ e. absurd (omega (arith, e, lt))) in
    let within : leb n MAX_OCCUPANCY ≡ true = le-leb n MAX_OCCUPANCY (omega (arith, lt)) in
    (omega (arith, lt), rw (other, within) refl)

each_fits : (occ : List (Option ℕ)) → AllByRecursion (λ o. IfSome o (λ words. words < 2 ^ 24)) occ → AllByRecursion occupancy.Fits occ
each_fits [] h = tt
each_fits (o ∷ occ) h = (occupancy_fits o h.0, each_fits occ h.1)

is_so : (b : Bool) → not b ≡ false → b ≡ true
is_so true e = refl
is_so false e = absurd cc

-- a report that no check refuses has an occupancy
some_reported : (window : List WindowMap) (f u count : ℕ) → refuses_report window f u count ≡ None → 1 ≤ count
some_reported window f u count h =
    let none = none_refuses (when (not (list_any (is_of f) window)) StaleFrame ∷ when (eqb (length (grants_at f u window)) 0) NotPolled ∷ when (not (eqb count (length (grants_at f u window)))) ReportCount ∷ when (list_any (λ m. is_of f m && list_any (λ v. eqb v u) m.reported) window) AlreadyReported ∷ []) h in
    let some : length (grants_at f u window) ≡ 0 → ⊥ = eqb-false _ _ (when_none (eqb (length (grants_at f u window)) 0) NotPolled none.1.0) in
    let same : count ≡ length (grants_at f u window) = eqb-true _ _ (is_so _ (when_none (not (eqb count (length (grants_at f u window)))) ReportCount none.1.1.0)) in
    omega (arith, some, same)

pub event_fits : (kept : ℕ) (s : State) (v : Event) → IsEvent v → first_refusal kept s v ≡ None → event.Fits v
event_fits kept s (Admit row) r h = (onu_fits row.onu r.onu, (alloc_fits row.alloc_id r.managed r.alloc_id, descriptor_fits row.descriptor r.descriptor))
event_fits kept s (Change i d) r h = (alloc_fits i r.0.0 r.0.1, descriptor_fits d r.1)
event_fits kept s (Remove i) r h = alloc_fits i r.0 r.1
event_fits kept s (Report f u occ) r h =
    let own = or_else_none _ (when_full kept s.taken_before) h in
    let report = or_else_none (when_down s.cause) (refuses_report s.window f u (length occ)) own.0 in
    let some : 1 ≤ length occ = some_reported s.window f u (length occ) report.1 in
    let few : length occ ≤ MAX_SERIES = r.occupancies.few in (
      omega (arith, r.frame_range),
      (
        onu_fits u r.onu_range,
        ((omega (arith, few), passes (λ (n : ℕ). leb 1 n) (length occ) (le-leb 1 (length occ) some)), few, each_fits occ (recursion_from_All _ occ r.occupancies.range)),
      ),
    )
event_fits kept s MakeMap r h = tt
event_fits kept s (Fail c) r h = cause_fits c r.0 r.1
event_fits kept s Restore r h = tt
