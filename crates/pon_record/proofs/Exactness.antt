-- The two directions of each format of a recording agree.
use Rattle.std.proofs.Common.{◌≡◌, ℕ, Bool, true, false, cond, eqb, leb, ◌&&◌, Option, Some, None, refl, sym, ap, ◌∙◌}
use Rattle.std.specs.Int.{w8, w16, w32, w64}
use Rattle.std.proofs.lemmas.Bool.{eqb-true, and_parts}
use Rattle.pon_units.specs.declared.limits.TheConstants.{FRAME_WORDS, MAX_ALLOC_ID, MAX_OCCUPANCY, MAX_ONU_ID, MIN_ALLOC_ID}
use Rattle.pon_admit.specs.Roster.{max_allocs, max_carry}
use Rattle.pon_admit.specs.declared.rule.Rule.{Rule}
use Rattle.pon_admit.specs.declared.rule.Rule.TheVariants as rule
use Rattle.pon_descr.specs.declared.class.Class.{Class}
use Rattle.pon_descr.specs.declared.class.Class.TheVariants.{Plain, NonAssured, BestEffort}
use Rattle.pon_descr.specs.declared.refusal.Refusal.{Refusal}
use Rattle.pon_descr.specs.Descriptor.{Descriptor}
use Rattle.pon_guar.specs.declared.account.Counted.{Counted}
use Rattle.pon_record.specs.declared.version.Version.{Version}
use Rattle.pon_record.specs.declared.version.Version.TheVariants as version
use Rattle.pon_record.specs.Format.{◌&◌, as_value, number}
use Rattle.pon_record.specs.Fields
use Rattle.pon_record.specs.Openings
use Rattle.pon_record.proofs.Exact.{IsExact, constants, numbers, wide8, wide16, wide32, wide64, both, told, only_those, lists, some_is}

-- ---- numbers

pub n8 : IsExact (number w8)
n8 = numbers w8 wide8

pub n16 : IsExact (number w16)
n16 = numbers w16 wide16

pub n32 : IsExact (number w32)
n32 = numbers w32 wide32

pub n64 : IsExact (number w64)
n64 = numbers w64 wide64

-- ---- fields

pub exact_onu : IsExact Fields.onu_id
exact_onu = only_those (λ n. leb n MAX_ONU_ID) (number w16) n16

pub exact_alloc : IsExact Fields.alloc_id
exact_alloc = only_those (λ n. leb MIN_ALLOC_ID n && leb n MAX_ALLOC_ID) (number w16) n16

pub exact_words : IsExact Fields.words
exact_words = only_those (λ n. leb n FRAME_WORDS) (number w16) n16

pub exact_cause : IsExact Fields.cause
exact_cause = only_those (λ n. leb 1 n && leb n 9) (number w8) n8

zero_or : (n : ℕ) (c : Option ℕ) (b z : Bool) → eqb n 0 ≡ z → cond z (Some None) (cond b (Some (Some n)) None) ≡ Some c → Fields.cause_code c ≡ n
zero_or n c b true t e = ap Fields.cause_code (sym (some_is None c e)) ∙ sym (eqb-true n 0 t)
zero_or n c true false t e = ap Fields.cause_code (sym (some_is (Some n) c e))
zero_or n c false false t e = absurd cc

pub exact_failure : IsExact Fields.failure
exact_failure = told Fields.cause_meaning Fields.cause_code (number w8) n8 (λ n c fits e. zero_or n c (leb n 9) (eqb n 0) refl e)

class_is : (n : ℕ) (c : Class) (x y z : Bool) → eqb n 0 ≡ x → eqb n 1 ≡ y → eqb n 2 ≡ z → cond x (Some Plain) (cond y (Some NonAssured) (cond z (Some BestEffort) None)) ≡ Some c → Fields.class_code c ≡ n
class_is n c true y z a b d e = ap Fields.class_code (sym (some_is Plain c e)) ∙ sym (eqb-true n 0 a)
class_is n c false true z a b d e = ap Fields.class_code (sym (some_is NonAssured c e)) ∙ sym (eqb-true n 1 b)
class_is n c false false true a b d e = ap Fields.class_code (sym (some_is BestEffort c e)) ∙ sym (eqb-true n 2 d)
class_is n c false false false a b d e = absurd cc

pub exact_class : IsExact Fields.class
exact_class = told Fields.class_meaning Fields.class_code (number w8) n8 (λ n c fits e. class_is n c (eqb n 0) (eqb n 1) (eqb n 2) refl refl refl e)

kept : (r : Option Refusal) (d t : Descriptor) → Fields.unless_refused r d ≡ Some t → t ≡ d
kept None d t e = sym (some_is d t e)
kept (Some why) d t e = absurd cc

pub exact_descriptor : IsExact Fields.descriptor
exact_descriptor = told Fields.descriptor_meaning Fields.descriptor_code (Fields.rate & Fields.rate & Fields.rate & Fields.class)
    (both _ _ n32 (both _ _ n32 (both _ _ n32 exact_class)))
    (λ x d fits e. ap Fields.descriptor_code (kept _ _ d e))

report_is : (n f w : ℕ) (c : Option Counted) (x y z : Bool) → eqb n 0 ≡ x → (eqb f 0 && eqb w 0) ≡ y → (eqb n 1 && leb w MAX_OCCUPANCY) ≡ z →
    cond x (cond y (Some None) None) (cond z (Some (Some (record { frame = f; words = w }))) None) ≡ Some c → Fields.report_code c ≡ (n, (f, w))
report_is n f w c true true z a b d e = ap Fields.report_code (sym (some_is None c e)) ∙ (λ i. (sym (eqb-true n 0 a) i, (sym (eqb-true f 0 (and_parts _ _ b).0) i, sym (eqb-true w 0 (and_parts _ _ b).1) i)))
report_is n f w c true false z a b d e = absurd cc
report_is n f w c false y true a b d e = ap Fields.report_code (sym (some_is (Some (record { frame = f; words = w })) c e)) ∙ (λ i. (sym (eqb-true n 1 (and_parts _ _ d).0) i, (f, w)))
report_is n f w c false y false a b d e = absurd cc

pub exact_report : IsExact Fields.report
exact_report = told Fields.report_meaning Fields.report_code (number w8 & Fields.frame & number w32) (both _ _ n8 (both _ _ n64 n32))
    (λ x c fits e. report_is x.0 x.1.0 x.1.1 c _ _ _ refl refl refl e)

rule_is : (n : ℕ) (r : Rule) (x y : Bool) → eqb n 1 ≡ x → eqb n 2 ≡ y → cond x (Some rule.DropRemainders) (cond y (Some rule.CarryRemainders) None) ≡ Some r → Fields.rule_code r ≡ n
rule_is n r true y a b e = ap Fields.rule_code (sym (some_is rule.DropRemainders r e)) ∙ sym (eqb-true n 1 a)
rule_is n r false true a b e = ap Fields.rule_code (sym (some_is rule.CarryRemainders r e)) ∙ sym (eqb-true n 2 b)
rule_is n r false false a b e = absurd cc

pub exact_rule : (v : Version) → IsExact (Fields.rule_in v)
exact_rule version.One = constants rule.DropRemainders
exact_rule version.Two = told Fields.rule_meaning Fields.rule_code (number w8) n8 (λ n r fits e. rule_is n r (eqb n 1) (eqb n 2) refl refl e)

exact_carry : (v : Version) (r : Rule) → IsExact (Fields.carry_in v r)
exact_carry version.One r = constants 0
exact_carry version.Two r = only_those (λ n. leb n (max_carry r)) (number w8) n8

-- ---- openings

exact_row : (v : Version) (r : Rule) → IsExact (Openings.row_in v r)
exact_row v r = told (as_value Openings.row_of) Openings.row_parts _
    (both _ _ exact_onu (both _ _ exact_alloc (both _ _ exact_descriptor (both _ _ n64 (both _ _ exact_report (exact_carry v r))))))
    (λ x t fits e. ap Openings.row_parts (sym (some_is (Openings.row_of x) t e)))

exact_grant : IsExact Openings.grant
exact_grant = told (as_value Openings.grant_of) Openings.grant_parts _
    (both _ _ exact_onu (both _ _ exact_alloc exact_words))
    (λ x r fits e. ap Openings.grant_parts (sym (some_is (Openings.grant_of x) r e)))

exact_map : (r : Rule) → IsExact (Openings.window_map_under r)
exact_map r = told (as_value Openings.window_map_of) Openings.map_parts _
    (both _ _ n64 (both _ _ (lists _ (max_allocs r) _ n16 exact_grant) (lists _ 255 _ n8 exact_onu)))
    (λ x m fits e. ap Openings.map_parts (sym (some_is (Openings.window_map_of x) m e)))

pub exact_opening : (v : Version) (r : Rule) → IsExact (Openings.opening_in v r)
exact_opening v r = told (as_value (Openings.opening_of r)) Openings.opening_parts _
    (both _ _ (only_those _ _ n16) (both _ _ (only_those _ _ n8) (both _ _ exact_failure (both _ _ n64 (both _ _ n64 (both _ _ (lists _ (max_allocs r) _ n16 (exact_row v r)) (lists _ 64 _ n8 (exact_map r))))))))
    (λ x o fits e. ap Openings.opening_parts (sym (some_is (Openings.opening_of r x) o e)))
