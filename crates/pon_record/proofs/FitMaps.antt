-- The maps that a port makes fit the format of recordings.
use Rattle.std.proofs.Common.{◌≡◌, ℕ, zero, suc, ◌+◌, ◌*◌, ◌/◌, ◌%◌, ◌^◌, ◌<◌, ◌≤◌, Bool, true, false, cond, eqb, List, [], ◌∷◌, length, Option, Some, None, refl, ap, sym, ◌∙◌, subst, arith}
use Rattle.std.specs.Prelude.{IfSome, map, slice_get, sum_by}
use Rattle.std.specs.List.{AllByRecursion}
use Rattle.std.proofs.lemmas.Bool.{eq-eqb, ne_eqb}
use Rattle.std.proofs.lemmas.List.Elements.{recursion_from_All}
use Rattle.std.proofs.lemmas.List.Sums.{sum_by-cons}
use Rattle.pon_units.specs.declared.limits.TheConstants.{FRAME_WORDS, MAX_ALLOC_ID, MAX_STRUCTURES}
use Rattle.pon_units.specs.Frac.{Frac}
use Rattle.pon_units.specs.declared.granted.Granted.{Granted}
use Rattle.pon_hec.specs.HeaderCode.{sealed}
use Rattle.pon_hec.proofs.HeaderLaws.{sealed_codeword}
use Rattle.pon_bwmap.specs.Alloc.{Alloc}
use Rattle.pon_bwmap.specs.MapBytes.{flag_bit, start_field, structure_payload}
use Rattle.pon_bwmap.specs.MapReading.{FitsStructure}
use Rattle.pon_bwmap.specs.MapRules.{IsMap}
use Rattle.pon_bwmap.proofs.ReadsBack.{flag_small, start_small}
use Rattle.pon_bwmap.proofs.SeriesLaw.{map_rules}
use Rattle.pon_burst.specs.Maps.{grant, map_granting, structure_of as structure_granting}
use Rattle.pon_burst.proofs.MapRules.{is_map_of_rising}
use Rattle.pon_admit.specs.declared.row.Row.{Row}
use Rattle.pon_admit.specs.Roster.{IsAdmitted, IsInRange, max_carry}
use Rattle.pon_demand.specs.Carries.{AreCarries}
use Rattle.pon_demand.proofs.Carries.{carry_within}
use Rattle.pon_demand.specs.Input.{Input}
use Rattle.pon_demand.specs.Packing.{AreOneMap}
use Rattle.pon_demand.specs.Rates.{planned_grants, payload}
use Rattle.pon_demand.specs.Sharing.{surplus_rate}
use Rattle.pon_demand.proofs.RosterMaps.{one_map}
use Rattle.pon_state.specs.State.{State, carry_at, input_of}
use Rattle.pon_state.specs.declared.reply.MadeMap.{MadeMap}
use Rattle.pon_history.specs.FairMaps.{IsFairMap}
use Rattle.pon_record.specs.MadeMaps.{head, head_code, made_map, start_of, structure, structure_code, structure_of}
use Rattle.pon_record.proofs.MapRules.{passes}
use Rattle.pon_record.proofs.FitCerts.{class_cert_fits}

-- ---- fields read from the words of a map

head_if : (n word : ℕ) → head_code n ≡ word → cond (eqb (head_code n) word) (Some n) None ≡ Some n
head_if n word e = ap (λ (b : Bool). cond b (Some n) None) (eq-eqb (head_code n) word e)

head_fits : (n : ℕ) → n ≤ MAX_STRUCTURES → head.Fits n
head_fits n le =
    let code = sealed_codeword (2 ^ 32) (n * 2 ^ 8 + 0) (omega (arith, le)) (omega (arith, le)) in
    let back : head_code n / 2 ^ 21 ≡ n = omega (arith, code.1) in
    (code.0.below, ap (λ (m : ℕ). cond (eqb (head_code m) (head_code n)) (Some m) None) back ∙ head_if n (head_code n) refl)

flag_back : (bit : ℕ) (b : Bool) → bit ≡ flag_bit b → eqb bit 1 ≡ b
flag_back bit true e = ap (λ (n : ℕ). eqb n 1) e
flag_back bit false e = ap (λ (n : ℕ). eqb n 1) e

start_same : (o : Option ℕ) → IfSome o (λ s. s < 0xffff) → start_of (start_field o) ≡ o
start_same None lt = refl
start_same (Some s) lt = ap (λ (b : Bool). cond b None (Some s)) (ne_eqb s 0xffff (λ e. absurd (omega (arith, e, lt))))

structure_back : (a : Alloc) → FitsStructure a → structure_of (structure_payload a) ≡ a
structure_back a fits =
    let p : ℕ = structure_payload a in
    let d = flag_small a.dbru in
    let m = flag_small a.ploam in
    let w = flag_small a.fwi in
    let s = start_small a.start fits.start in
    let id : p / 2 ^ 37 ≡ a.id = omega (arith, fits.grant, fits.profile, d, m, w, s) in
    let dbru : p / 2 ^ 36 % 2 ≡ flag_bit a.dbru = omega (arith, fits.grant, fits.profile, d, m, w, s) in
    let ploam : p / 2 ^ 35 % 2 ≡ flag_bit a.ploam = omega (arith, fits.grant, fits.profile, d, m, w, s) in
    let field : p / 2 ^ 19 % 2 ^ 16 ≡ start_field a.start = omega (arith, fits.grant, fits.profile, d, m, w, s) in
    let grants : p / 2 ^ 3 % 2 ^ 16 ≡ a.grant = omega (arith, fits.grant, fits.profile, d, m, w, s) in
    let fwi : p / 2 ^ 2 % 2 ≡ flag_bit a.fwi = omega (arith, fits.profile, d, m, w, s) in
    let profile : p % 2 ^ 2 ≡ a.profile = omega (arith, fits.profile, d, m, w, s) in
    let started : start_of (p / 2 ^ 19 % 2 ^ 16) ≡ a.start = ap start_of field ∙ start_same a.start fits.start in
    (λ i. record {
      id = id i;
      dbru = flag_back (p / 2 ^ 36 % 2) a.dbru dbru i;
      ploam = flag_back (p / 2 ^ 35 % 2) a.ploam ploam i;
      start = started i;
      grant = grants i;
      fwi = flag_back (p / 2 ^ 2 % 2) a.fwi fwi i;
      profile = profile i;
    })

payload_small : (a : Alloc) → FitsStructure a → structure_payload a < 2 ^ 51
payload_small a fits = omega (arith, fits.id, fits.grant, fits.profile, flag_small a.dbru, flag_small a.ploam, flag_small a.fwi, start_small a.start fits.start)

structure_fits : (a : Alloc) → FitsStructure a → structure.Fits a
structure_fits a fits =
    let lt = payload_small a fits in
    let code = sealed_codeword (2 ^ 64) (structure_payload a) lt (omega (arith, lt)) in
    let word : ℕ = structure_code a in
    let same : eqb (sealed (word / 2 ^ 13)) word ≡ true = eq-eqb (sealed (word / 2 ^ 13)) word (ap sealed code.1) in (
      code.0.below,
      ap (λ (b : Bool). cond b (Some (structure_of (word / 2 ^ 13))) None) same
          ∙ ap (λ (p : ℕ). Some (structure_of p)) code.1
          ∙ ap (λ (t : Alloc). Some t) (structure_back a fits),
    )

-- ---- the structures of a map

-- the fields except the start are in range
record FitsRest (a : Alloc) : Type 0 where
  id : a.id ≤ MAX_ALLOC_ID
  grants : a.grant ≤ 65535
  profile : a.profile ≤ 3

each_at : {A : Type 0} (P : A → Type 0) (xs : List A) (k : ℕ) (x : A) → AllByRecursion P xs → slice_get xs k ≡ Some x → P x
each_at P [] k x h e = absurd cc
each_at P (y ∷ xs) zero x h e = let same : y ≡ x = cc in subst P same h.0
each_at P (y ∷ xs) (suc k) x h e = each_at P xs k x h.1 e

pub from_places : {A : Type 0} (P : A → Type 0) (xs : List A) → ((k : ℕ) (x : A) → slice_get xs k ≡ Some x → P x) → AllByRecursion P xs
from_places P [] h = tt
from_places P (x ∷ xs) h = (h 0 x refl, from_places P xs (λ k y e. h (suc k) y e))

-- if a sum is at most n, so is each summand
each_below : {A : Type 0} (f : A → ℕ) (xs : List A) (n : ℕ) → sum_by f xs ≤ n → AllByRecursion (λ x. f x ≤ n) xs
each_below f [] n le = tt
each_below f (x ∷ xs) n le =
    let parts : sum_by f (x ∷ xs) ≡ f x + sum_by f xs = sum_by-cons f x xs in
    (omega (arith, parts, le), each_below f xs n (omega (arith, parts, le)))

rest_fits : (gap profile : ℕ) (all gs : List Granted) → profile ≤ 3 → AllByRecursion (λ (g : Granted). g.alloc_id ≤ MAX_ALLOC_ID) gs → AllByRecursion (λ (g : Granted). grant g ≤ FRAME_WORDS) gs → AllByRecursion FitsRest (map (structure_granting gap profile all) gs)
rest_fits gap profile all [] p i w = tt
rest_fits gap profile all (g ∷ gs) p i w = (record { id = i.0; grants = omega (arith, w.0); profile = p }, rest_fits gap profile all gs p i.1 w.1)

start_fits : (rows : List Alloc) → IsMap rows → (k : ℕ) (a : Alloc) → slice_get rows k ≡ Some a → (o : Option ℕ) → a.start ≡ o → IfSome o (λ s. s < 0xffff)
start_fits rows m k a at None e = tt
start_fits rows m k a at (Some s) e = let lt : s < FRAME_WORDS = ((map_rules rows).0 m).starts k s a at e in omega (arith, lt)

rows_fit : (rows : List Alloc) → IsMap rows → AllByRecursion FitsRest rows → AllByRecursion structure.Fits rows
rows_fit rows m rest = from_places structure.Fits rows (λ k a at.
    let r = each_at FitsRest rows k a rest at in
    structure_fits a (record { id = r.id; start = start_fits rows m k a at a.start refl; grant = r.grants; profile = r.profile }))

ids_fit : (s : Input) (surplus : Row → Frac) (carry : Row → ℕ) (rows : List Row) → AllByRecursion IsInRange rows → AllByRecursion (λ (g : Granted). g.alloc_id ≤ MAX_ALLOC_ID) (map (λ (r : Row). record { onu = r.onu; alloc_id = r.alloc_id; words = payload s surplus carry r }) rows)
ids_fit s surplus carry [] a = tt
ids_fit s surplus carry (r ∷ rows) a = (a.0.alloc_id, ids_fit s surplus carry rows a.1)

-- a fair map of an admitted set fits the format
pub made_fits : (s : State) (made : MadeMap) → IsAdmitted s.rule s.gap s.roster → AreCarries s.rule s.roster s.carries → s.profile ≤ 3 → s.next < 2 ^ 64 → IsFairMap s made → made_map.Fits made
made_fits s made k carries p next f =
    let t : Input = input_of s in
    let gs : List Granted = planned_grants t (surplus_rate t made.cert) (carry_at s) in
    let one : AreOneMap s.gap gs = one_map t made.cert (carry_at s) k f.certificate (λ r. carry_within (max_carry s.rule) s.roster s.carries r.alloc_id carries.range) in
    let m : IsMap (map_granting s.gap s.profile gs) = is_map_of_rising s.gap s.profile gs one.in_map_order one.short_series one.few one.fitting in
    let grants : sum_by grant gs ≤ FRAME_WORDS = omega (arith, one.fitting) in
    let each = rest_fits s.gap s.profile gs gs p (ids_fit t (surplus_rate t made.cert) (carry_at s) s.roster (recursion_from_All IsInRange s.roster k.in_range)) (each_below grant gs FRAME_WORDS grants) in
    let is_map : IsMap made.map = subst IsMap (sym f.map) m in
    let fit : AllByRecursion structure.Fits made.map = subst (λ (rows : List Alloc). AllByRecursion structure.Fits rows) (sym f.map) (rows_fit (map_granting s.gap s.profile gs) m each) in (
      (
        subst (λ (n : ℕ). n < 2 ^ 64) (sym f.frame) next,
        (
          ((head_fits (length made.map) is_map.count, is_map.count, fit), passes made.map is_map),
          record {
            non_assured = class_cert_fits _ _ made.cert.na f.non_assured_problem f.certificate.non_assured;
            best_effort = class_cert_fits _ _ made.cert.be f.best_effort_problem f.certificate.best_effort;
          },
        ),
      ),
      refl,
    )
