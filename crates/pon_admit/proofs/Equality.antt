-- Events that compare as equal are equal.
use Rattle.std.proofs.Common.{◌≡◌, ◌==◌, ℕ, Bool, List, Option, Some, None, refl, ap, sym, true≢false}
use Rattle.std.specs.Bool.{Decides}
use Rattle.std.specs.Cmp.{unsigned_Decides}
use Rattle.std.specs.Cmp.Lexicographic.{pointwise}
use Rattle.std.specs.Option.{option_eq}
use Rattle.std.proofs.lemmas.Bool.Decides.{Decides-and}
use Rattle.std.proofs.lemmas.Slice.Eq.{slice_eq-Decides}
use Rattle.pon_descr.specs.contracts.class.ClassPartialEq.TheImpl as class_eq
use Rattle.pon_descr.specs.declared.class.Class.{Class}
use Rattle.pon_descr.specs.declared.class.Class.TheVariants.{Plain, NonAssured, BestEffort}
use Rattle.pon_descr.specs.contracts.descriptor.DescriptorPartialEq.TheImpl as descriptor_eq
use Rattle.pon_descr.specs.Descriptor.{Descriptor}
use Rattle.pon_admit.specs.contracts.row.RowPartialEq.TheImpl as row_eq
use Rattle.pon_admit.specs.declared.row.Row.{Row}
use Rattle.pon_admit.specs.contracts.event.EventPartialEq.TheImpl as event_eq
use Rattle.pon_admit.specs.declared.event.Event.{Event}
use Rattle.pon_admit.specs.declared.event.Event.TheVariants.{Admit, Change, Remove, Report, MakeMap, Fail, Restore}

-- the place of a class among its variants
abbrev class_place : Class → ℕ
class_place Plain = 0
class_place NonAssured = 1
class_place BestEffort = 2

classes_decide : (a b : Class) → Decides ((class_eq.ghosts).eq a b) (a ≡ b)
classes_decide Plain Plain = (λ _. refl, λ _. refl)
classes_decide NonAssured NonAssured = (λ _. refl, λ _. refl)
classes_decide BestEffort BestEffort = (λ _. refl, λ _. refl)
classes_decide a b = (λ e. absurd (true≢false (sym e)), λ e. absurd (true≢false (sym ((unsigned_Decides (class_place a) (class_place b)).1 (ap class_place e)))))

descriptors_decide : (a b : Descriptor) → Decides ((descriptor_eq.ghosts).eq a b) (a ≡ b)
descriptors_decide a b =
    let parts = Decides-and _ _ (unsigned_Decides a.fixed b.fixed)
    (Decides-and _ _ (unsigned_Decides a.assured b.assured)
    (Decides-and _ _ (unsigned_Decides a.max b.max) (classes_decide a.class b.class))) in (
      λ e. let p = parts.0 e in (λ i. record { fixed = p.0 i; assured = p.1.0 i; max = p.1.1.0 i; class = p.1.1.1 i }),
      λ e. parts.1 (ap (λ d. d.fixed) e, (ap (λ d. d.assured) e, (ap (λ d. d.max) e, ap (λ d. d.class) e))),
    )

pub options_decide : {X : Type 0} (same : X → X → Bool) → ((x y : X) → Decides (same x y) (x ≡ y)) → (a b : Option X) → Decides (option_eq same a b) (a ≡ b)
options_decide same each None None = (λ _. refl, λ _. refl)
options_decide same each None (Some y) = (λ e. absurd cc, λ e. absurd cc)
options_decide same each (Some x) None = (λ e. absurd cc, λ e. absurd cc)
options_decide same each (Some x) (Some y) = (λ e. ap Option.Some ((each x y).0 e), λ e. (each x y).1 cc)

reports_decide : (xs ys : List (Option ℕ)) → Decides (pointwise (option_eq ◌==◌) xs ys) (xs ≡ ys)
reports_decide xs ys = slice_eq-Decides (options_decide ◌==◌ unsigned_Decides) xs ys _ refl

rows_decide : (a b : Row) → Decides ((row_eq.ghosts).eq a b) (a ≡ b)
rows_decide a b =
    let parts = Decides-and _ _ (unsigned_Decides a.onu b.onu) (Decides-and _ _ (unsigned_Decides a.alloc_id b.alloc_id) (descriptors_decide a.descriptor b.descriptor)) in (
      λ e. let p = parts.0 e in (λ i. record { onu = p.0 i; alloc_id = p.1.0 i; descriptor = p.1.1 i }),
      λ e. parts.1 (ap (λ r. r.onu) e, (ap (λ r. r.alloc_id) e, ap (λ r. r.descriptor) e)),
    )

-- the place of an event among its variants
abbrev event_place : Event → ℕ
event_place (Admit row) = 0
event_place (Change alloc descriptor) = 1
event_place (Remove alloc) = 2
event_place (Report frame onu occ) = 3
event_place MakeMap = 4
event_place (Fail cause) = 5
event_place Restore = 6

pub events_decide : (a b : Event) → Decides ((event_eq.ghosts).eq a b) (a ≡ b)
events_decide (Admit row) (Admit row') = (λ e. ap Admit ((rows_decide row row').0 e), λ e. (rows_decide row row').1 cc)
events_decide (Change alloc descriptor) (Change alloc' descriptor') =
    let parts = Decides-and _ _ (unsigned_Decides alloc alloc') (descriptors_decide descriptor descriptor') in (
      λ e. let p = parts.0 e in (λ i. Change (p.0 i) (p.1 i)),
      λ e. parts.1 (cc, cc),
    )
events_decide (Remove alloc) (Remove alloc') = (λ e. ap Remove ((unsigned_Decides alloc alloc').0 e), λ e. (unsigned_Decides alloc alloc').1 cc)
events_decide (Report frame onu occ) (Report frame' onu' occ') =
    let parts = Decides-and _ _ (unsigned_Decides frame frame') (Decides-and _ _ (unsigned_Decides onu onu') (reports_decide occ occ')) in (
      λ e. let p = parts.0 e in (λ i. Report (p.0 i) (p.1.0 i) (p.1.1 i)),
      λ e. parts.1 (cc, (cc, cc)),
    )
events_decide MakeMap MakeMap = (λ _. refl, λ _. refl)
events_decide (Fail cause) (Fail cause') = (λ e. ap Fail ((unsigned_Decides cause cause').0 e), λ e. (unsigned_Decides cause cause').1 cc)
events_decide Restore Restore = (λ _. refl, λ _. refl)
events_decide a b = (λ e. absurd (true≢false (sym e)), λ e. absurd (true≢false (sym ((unsigned_Decides (event_place a) (event_place b)).1 (ap event_place e)))))
