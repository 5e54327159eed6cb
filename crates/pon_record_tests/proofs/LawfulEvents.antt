-- The events of a recorded chapter have numbers in range, and each has a reply of its kind.
use Rattle.std.proofs.Common.{◌≡◌, ℕ, ◌<◌, ◌≤◌, ◌^◌, ◌&&◌, ◌||◌, Bool, true, false, List, [], ◌∷◌, Option, Some, None, refl, arith}
use Rattle.std.specs.Prelude.{◌==◌, All, IfSome, if◌then◌else◌, nat_le, nat_lt}
use Rattle.std.specs.List.{AllByRecursion}
use Rattle.std.proofs.lemmas.Bool.{and_parts, eqb-false, leb-true, ltb-false, or_parts}
use Rattle.std.proofs.lemmas.List.Elements.{All-nil, All-cons}
use Rattle.pon_units.specs.declared.limits.TheConstants.{LINE_RATE}
use Rattle.pon_descr.specs.declared.class.Class.{Class}
use Rattle.pon_descr.specs.declared.class.Class.TheVariants.{Plain, NonAssured, BestEffort}
use Rattle.pon_descr.specs.declared.refusal.Refusal.{Refusal}
use Rattle.pon_descr.specs.declared.refusal.Refusal.TheVariants.{MaxBelowGuaranteed, NeedsGuarantee, NoSurplusRoom, RateRange}
use Rattle.pon_descr.specs.Checks.{when}
use Rattle.pon_descr.specs.Descriptor.{Descriptor, IsLawful, SuitsClass, class_refusal, descriptor_refusal, promised}
use Rattle.pon_descr.proofs.Checks.{none_refuses, when_none}
use Rattle.pon_admit.specs.declared.event.Event.{Event}
use Rattle.pon_admit.specs.declared.event.Event.TheVariants.{Admit, Change, Remove, Report, MakeMap, Fail, Restore}
use Rattle.pon_state.specs.Events.{IsEvent, IsManaged}
use Rattle.pon_state.specs.Entry.{Entry}
use Rattle.pon_record.specs.declared.version.Version.{Version}
use Rattle.pon_record.specs.Fields.{alloc_id, descriptor, onu_id, unless_refused}
use Rattle.pon_record.specs.Events.{event, occupancy}
use Rattle.pon_record.specs.Chapters.{Body, FitsChapter, entry, reply_to}
use Rattle.pon_record.proofs.Exact.{passed}

-- a number that passes a test
passes : (test : ℕ → Bool) (n : ℕ) → (if test n then Some n else None) ≡ Some n → test n ≡ true
passes test n h = (passed (test n) n n h).0

small_onu : (u : ℕ) → onu_id.Fits u → u ≤ 1022
small_onu u h = leb-true u 1022 (passes (λ n. nat_le n 1022) u h.1)

managed : (i : ℕ) → alloc_id.Fits i → IsManaged i
managed i h =
    let both = and_parts (nat_le 1024 i) (nat_le i 16383) (passes (λ n. nat_le 1024 n && nat_le n 16383) i h.1) in
    (leb-true 1024 i both.0, leb-true i 16383 both.1)

suits : (c : Class) (promise most : ℕ) → promise ≤ most → class_refusal c promise most ≡ None → SuitsClass c promise most
suits Plain promise most le h = tt
suits NonAssured promise most le h =
    let none = none_refuses (when (promise == 0) NeedsGuarantee ∷ when (promise == most) NoSurplusRoom ∷ []) h in
    let some = eqb-false promise 0 (when_none (promise == 0) NeedsGuarantee none.0) in
    let room = eqb-false promise most (when_none (promise == most) NoSurplusRoom none.1.0) in
    (omega (arith, some), omega (arith, le, room))
suits BestEffort promise most le h =
    let room = eqb-false promise most (when_none (promise == most) NoSurplusRoom h) in
    omega (arith, le, room)

unrefused : (d : Descriptor) → descriptor_refusal d ≡ None → IsLawful d
unrefused d h =
    let none = none_refuses (when (nat_lt LINE_RATE d.fixed || (nat_lt LINE_RATE d.assured || nat_lt LINE_RATE d.max)) RateRange ∷ when (nat_lt d.max (promised d)) MaxBelowGuaranteed ∷ class_refusal d.class (promised d) d.max ∷ []) h in
    let rates = or_parts (nat_lt LINE_RATE d.fixed) (nat_lt LINE_RATE d.assured || nat_lt LINE_RATE d.max) (when_none _ RateRange none.0) in
    let enough : promised d ≤ d.max = ltb-false d.max (promised d) (when_none _ MaxBelowGuaranteed none.1.0) in
    record {
      in_range = ltb-false LINE_RATE d.max (or_parts (nat_lt LINE_RATE d.assured) (nat_lt LINE_RATE d.max) rates.1).1;
      enough = enough;
      class = suits d.class (promised d) d.max enough none.1.1.0;
    }

lawful : (d : Descriptor) → descriptor.Fits d → IsLawful d
lawful d h = go (descriptor_refusal d) refl h.1
  where
    go : (r : Option Refusal) → descriptor_refusal d ≡ r → unless_refused r d ≡ Some d → IsLawful d
    go None e k = unrefused d e
    go (Some why) e k = absurd cc

-- an occupancy of 24 bits, or none
in_24_bits : (o : Option ℕ) → occupancy.Fits o → IfSome o (λ words. words < 2 ^ 24)
in_24_bits None h = tt
in_24_bits (Some n) h = go (n == 4294967295) (nat_le n 16777215) refl h.1
  where
    go : (garbled small : Bool) → nat_le n 16777215 ≡ small → (if garbled then Some None else (if small then Some (Some n) else None)) ≡ Some (Some n) → n < 2 ^ 24
    go true small e k = absurd cc
    go false true e k = omega (arith, leb-true n 16777215 e)
    go false false e k = absurd cc

all_in_24_bits : (occ : List (Option ℕ)) → AllByRecursion occupancy.Fits occ → All (λ o. IfSome o (λ words. words < 2 ^ 24)) occ
all_in_24_bits [] h = All-nil (λ o. IfSome o (λ words. words < 2 ^ 24))
all_in_24_bits (o ∷ occ) h = All-cons (λ o. IfSome o (λ words. words < 2 ^ 24)) o occ (in_24_bits o h.0) (all_in_24_bits occ h.1)

is_event : (v : Event) → event.Fits v → IsEvent v
is_event (Admit r) h =
    let id : IsManaged r.alloc_id = managed r.alloc_id h.1.0 in
    record { onu = small_onu r.onu h.0; managed = id.0; alloc_id = id.1; descriptor = lawful r.descriptor h.1.1 }
is_event (Change i d) h = (managed i h.0, lawful d h.1)
is_event (Remove i) h = managed i h
is_event (Report f u occ) h = record {
  frame_range = h.0;
  onu_range = small_onu u h.1.0;
  occupancies = record { few = h.1.1.1; range = all_in_24_bits occ h.1.1.2 };
}
is_event MakeMap h = tt
is_event (Fail c) h =
    let both = and_parts (nat_le 1 c) (nat_le c 9) (passes (λ n. nat_le 1 n && nat_le n 9) c h.1) in
    (leb-true 1 c both.0, leb-true c 9 both.1)
is_event Restore h = tt

-- an entry that the format has
pub record IsFitting (e : Entry) : Type 0 where
  pub event : IsEvent e.event
  pub reply : (reply_to e.event).Fits e.reply

each_fitting : (es : List Entry) → AllByRecursion entry.Fits es → All IsFitting es
each_fitting [] h = All-nil IsFitting
each_fitting (e ∷ es) h = All-cons IsFitting e es (record { event = is_event e.event h.0.0.0; reply = h.0.0.1 }) (each_fitting es h.1)

pub entries_fit : (v : Version) (b : Body) → FitsChapter v b → All IsFitting b.entries
entries_fit v b h = each_fitting b.entries h.1.0.0.1.1.1.1.2
