-- Maps that compare as equal are equal.
use Rattle.std.proofs.Common.{◌≡◌, Bool, List, refl, ap}
use Rattle.std.specs.Prelude.{◌==◌}
use Rattle.std.specs.Bool.{Decides}
use Rattle.std.specs.Cmp.{booleans_Decides, unsigned_Decides}
use Rattle.std.specs.Cmp.Lexicographic.{pointwise}
use Rattle.std.proofs.Math.Bool.{beq}
use Rattle.std.proofs.lemmas.Bool.Decides.{Decides-and}
use Rattle.std.proofs.lemmas.Slice.Eq.{slice_eq-Decides}
use Rattle.pon_units.specs.contracts.frac.FracPartialEq.TheImpl as frac_eq
use Rattle.pon_units.specs.Frac.{Frac}
use Rattle.pon_bwmap.specs.Alloc.{Alloc, structure_eq}
use Rattle.pon_cert.specs.contracts.cert.LevelPartialEq.TheImpl as level_eq
use Rattle.pon_cert.specs.contracts.cert.ClassCertPartialEq.TheImpl as class_cert_eq
use Rattle.pon_cert.specs.contracts.cert.MapCertPartialEq.TheImpl as map_cert_eq
use Rattle.pon_cert.specs.declared.cert.Level.{Level}
use Rattle.pon_cert.specs.declared.cert.Level.TheVariants as level
use Rattle.pon_cert.specs.declared.cert.ClassCert.{ClassCert}
use Rattle.pon_cert.specs.declared.cert.MapCert.{MapCert}
use Rattle.pon_state.specs.contracts.reply.MadeMapPartialEq.TheImpl as made_map_eq
use Rattle.pon_state.specs.declared.reply.MadeMap.{MadeMap}
use Rattle.pon_admit.proofs.Equality.{options_decide}

-- Maps and their certificates.

structure_decides : (a b : Alloc) → Decides (structure_eq a b) (a ≡ b)
structure_decides a b =
    let parts = Decides-and _ _ (unsigned_Decides a.id b.id)
    (Decides-and _ _ (booleans_Decides a.dbru b.dbru)
    (Decides-and _ _ (booleans_Decides a.ploam b.ploam)
    (Decides-and _ _ (options_decide ◌==◌ unsigned_Decides a.start b.start)
    (Decides-and _ _ (unsigned_Decides a.grant b.grant)
    (Decides-and _ _ (booleans_Decides a.fwi b.fwi) (unsigned_Decides a.profile b.profile)))))) in (
      λ e. let p = parts.0 e in (λ i. record {
        id = p.0 i;
        dbru = p.1.0 i;
        ploam = p.1.1.0 i;
        start = p.1.1.1.0 i;
        grant = p.1.1.1.1.0 i;
        fwi = p.1.1.1.1.1.0 i;
        profile = p.1.1.1.1.1.1 i;
      }),
      λ e. parts.1 (ap (λ s. s.id) e, (ap (λ s. s.dbru) e, (ap (λ s. s.ploam) e, (ap (λ s. s.start) e, (ap (λ s. s.grant) e, (ap (λ s. s.fwi) e, ap (λ s. s.profile) e)))))),
    )

pub maps_decide : (xs ys : List Alloc) → Decides (pointwise structure_eq xs ys) (xs ≡ ys)
maps_decide xs ys = slice_eq-Decides structure_decides xs ys _ refl

flags_decide : (xs ys : List Bool) → Decides (pointwise beq xs ys) (xs ≡ ys)
flags_decide xs ys = slice_eq-Decides booleans_Decides xs ys _ refl

fractions_decide : (a b : Frac) → Decides ((frac_eq.ghosts).eq a b) (a ≡ b)
fractions_decide a b =
    let parts = Decides-and _ _ (unsigned_Decides a.num b.num) (unsigned_Decides a.den b.den) in (
      λ e. let p = parts.0 e in (λ i. record { num = p.0 i; den = p.1 i }),
      λ e. parts.1 (ap (λ f. f.num) e, ap (λ f. f.den) e),
    )

levels_decide : (a b : Level) → Decides ((level_eq.ghosts).eq a b) (a ≡ b)
levels_decide level.All level.All = (λ _. refl, λ _. refl)
levels_decide (level.At f) (level.At g) = (λ e. ap level.At ((fractions_decide f g).0 e), λ e. (fractions_decide f g).1 cc)
levels_decide a b = (λ e. absurd cc, λ e. absurd cc)

class_certs_decide : (a b : ClassCert) → Decides ((class_cert_eq.ghosts).eq a b) (a ≡ b)
class_certs_decide a b =
    let parts = Decides-and _ _ (levels_decide a.level b.level) (flags_decide a.saturated b.saturated) in (
      λ e. let p = parts.0 e in (λ i. record { level = p.0 i; saturated = p.1 i }),
      λ e. parts.1 (ap (λ c. c.level) e, ap (λ c. c.saturated) e),
    )

certs_decide : (a b : MapCert) → Decides ((map_cert_eq.ghosts).eq a b) (a ≡ b)
certs_decide a b =
    let parts = Decides-and _ _ (class_certs_decide a.na b.na) (class_certs_decide a.be b.be) in (
      λ e. let p = parts.0 e in (λ i. record { na = p.0 i; be = p.1 i }),
      λ e. parts.1 (ap (λ c. c.na) e, ap (λ c. c.be) e),
    )

pub made_maps_decide : (a b : MadeMap) → Decides ((made_map_eq.ghosts).eq a b) (a ≡ b)
made_maps_decide a b =
    let parts = Decides-and _ _ (unsigned_Decides a.frame b.frame) (Decides-and _ _ (maps_decide a.map b.map) (certs_decide a.cert b.cert)) in (
      λ e. let p = parts.0 e in (λ i. record { frame = p.0 i; map = p.1.0 i; cert = p.1.1 i }),
      λ e. parts.1 (ap (λ m. m.frame) e, (ap (λ m. m.map) e, ap (λ m. m.cert) e)),
    )
