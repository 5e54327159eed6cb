-- The grants of an admitted set fit one map.
use Rattle.std.proofs.Common.{◌≡◌, ℕ, ◌+◌, ◌*◌, ◌/◌, ◌≤◌, true, List, [], ◌∷◌, map, length, refl, ap, sym, subst, arith, inl, inr}
use Rattle.std.specs.Prelude.{◌==◌, sum_by, cond}
use Rattle.std.proofs.Math.Nat.{mul-le-mul_left}
use Rattle.std.proofs.lemmas.List.{length-map}
use Rattle.std.proofs.lemmas.List.Elements.{All-map, All-weaker}
use Rattle.std.proofs.lemmas.List.Sums.{sum_by-cons}
use Rattle.pon_units.specs.declared.limits.TheConstants.{FRAME_WORDS, MAX_SERIES}
use Rattle.pon_units.specs.Granted.{AreInMapOrder, ComesBefore, onus_granted}
use Rattle.pon_units.specs.declared.granted.Granted.{Granted}
use Rattle.pon_lists.specs.Distinct.{distinct}
use Rattle.pon_units.specs.Frac.{Frac}
use Rattle.pon_lists.proofs.Lists.{map-map, sum_by-map}
use Rattle.pon_burst.specs.Bursts.{AreSound}
use Rattle.pon_burst.specs.Maps.{frame_words}
use Rattle.pon_burst.proofs.MapRules.{sound_of_rising}
use Rattle.pon_descr.specs.Descriptor.{promised}
use Rattle.pon_admit.specs.Roster.{IsAdmitted, IsInMapOrder, capacity, comes_before, max_carry, onus_of, overhead, overhead_words, promised_sum}
use Rattle.pon_admit.specs.declared.row.Row.{Row}
use Rattle.pon_admit.proofs.AdmittedSets.{fits_parts, precedes}
use Rattle.pon_admit.proofs.Rules.{few_allowed, room_for_carry}
use Rattle.pon_demand.specs.Input.{Input}
use Rattle.pon_cert.specs.declared.cert.MapCert.{MapCert}
use Rattle.pon_cert.specs.Certificate.{left_surplus}
use Rattle.pon_descr.specs.declared.class.Class.TheVariants.{NonAssured, BestEffort}
use Rattle.pon_demand.specs.Rates.{planned_grants, guaranteed_rate, payload}
use Rattle.pon_demand.specs.Sharing.{IsCertified, items, members, spelled_rate, surplus, surplus_rate}
use Rattle.pon_demand.proofs.Surplus.{by_class, shared, whole_share}
use Rattle.pon_demand.specs.Maps.{map_of}
use Rattle.pon_demand.specs.Packing.{AreOneMap}

module _ (s : Input) (surplus : Row → Frac) (carry : Row → ℕ) where
  -- the grant of a row
  abbrev pub granted_to_row : Row → Granted
  granted_to_row r = record { onu = r.onu; alloc_id = r.alloc_id; words = payload s surplus carry r }

  pub in_order : (rows : List Row) → IsInMapOrder rows → AreInMapOrder (map granted_to_row rows)
  in_order [] h = tt
  in_order (r ∷ rows) h = (
    All-map (ComesBefore (granted_to_row r)) granted_to_row rows
        (All-weaker (λ q. comes_before r q ≡ true) (λ q. ComesBefore (granted_to_row r) (granted_to_row q))
        (λ q k. elim (precedes r q k) [
          | inl b ↦ (omega (arith, b), λ e. absurd (omega (arith, b, e)))
          | inr b ↦ (omega (arith, b.0), λ e. b.1)
        ]) rows h.0),
    in_order rows h.1,
  )

  -- the ONUs of the grants are those of the roster
  onus_same : onus_granted (planned_grants s surplus carry) ≡ onus_of s.roster
  onus_same = ap distinct (map-map (λ g. g.onu) granted_to_row s.roster)

  grant_words : (rows : List Row) → sum_by (λ g. 1 + g.words) (map granted_to_row rows) ≡ length rows + sum_by (payload s surplus carry) rows
  grant_words [] = refl
  grant_words (r ∷ rows) = omega (arith, sum_by-cons (λ g. 1 + g.words) (granted_to_row r) (map granted_to_row rows), sum_by-cons (payload s surplus carry) r rows, grant_words rows)

  -- the bursts fit a frame if the payload fits the capacity and the carries
  pub fitting_with : IsAdmitted s.rule s.gap s.roster → 256 * sum_by (payload s surplus carry) s.roster ≤ 256 * capacity s.rule s.gap s.roster + length s.roster * max_carry s.rule →
      frame_words s.gap (planned_grants s surplus carry) ≤ FRAME_WORDS
  fitting_with k fitting =
      let n : ℕ = length s.roster in
      let room : overhead s.rule s.gap s.roster ≤ FRAME_WORDS = (fits_parts s.rule s.gap s.roster k.fitting).0 in
      let reports : n * (256 + max_carry s.rule) ≤ n * (256 * overhead_words s.rule) = mul-le-mul_left n (room_for_carry s.rule) in
      let gaps : (s.gap + 2) * length (onus_granted (planned_grants s surplus carry)) ≡ (s.gap + 2) * length (onus_of s.roster) = ap (λ us. (s.gap + 2) * length us) onus_same in
      omega (arith, room, reports, gaps, fitting, grant_words s.roster)

  -- the grants fit one map if the payload fits the capacity and the carries
  pub one_map_with : IsAdmitted s.rule s.gap s.roster → 256 * sum_by (payload s surplus carry) s.roster ≤ 256 * capacity s.rule s.gap s.roster + length s.roster * max_carry s.rule →
      AreOneMap s.gap (planned_grants s surplus carry)
  one_map_with k fitting = record {
    in_map_order = in_order s.roster k.in_map_order;
    short_series = λ u. subst (λ m. m ≤ MAX_SERIES) (sym (sum_by-map (λ g. cond (g.onu == u) 1 0) granted_to_row s.roster)) (k.short_series u);
    few = omega (arith, length-map s.roster granted_to_row, k.few_allocs, few_allowed s.rule);
    fitting = fitting_with k fitting;
  }

-- The payload words of guaranteed and surplus rates.

-- the whole words are at most the rates and the carries
payload_sum : (s : Input) (surplus : Row → Frac) (carry : Row → ℕ) (rows : List Row) →
    256 * sum_by (payload s surplus carry) rows ≤ sum_by carry rows + (sum_by (guaranteed_rate s) rows + sum_by (λ r. (surplus r).num / (surplus r).den) rows)
payload_sum s surplus carry [] = omega arith
payload_sum s surplus carry (r ∷ rows) =
    let here : 256 * payload s surplus carry r ≤ carry r + (guaranteed_rate s r + (surplus r).num / (surplus r).den) = omega arith in
    omega (
      arith,
      sum_by-cons (payload s surplus carry) r rows,
      sum_by-cons carry r rows,
      sum_by-cons (guaranteed_rate s) r rows,
      sum_by-cons (λ r. (surplus r).num / (surplus r).den) r rows,
      here,
      payload_sum s surplus carry rows,
    )

-- carries in range add up to less than a word for each row
carry_sum : (most : ℕ) (carry : Row → ℕ) (rows : List Row) → ((r : Row) → carry r ≤ most) → sum_by carry rows ≤ length rows * most
carry_sum most carry [] h = omega arith
carry_sum most carry (r ∷ rows) h = omega (arith, sum_by-cons carry r rows, h r, carry_sum most carry rows h)

pub guaranteed_promised : (s : Input) (rows : List Row) → sum_by (guaranteed_rate s) rows ≤ promised_sum rows
guaranteed_promised s [] = omega arith
guaranteed_promised s (r ∷ rows) =
    let least : guaranteed_rate s r ≤ promised r.descriptor = omega arith in
    omega (arith, sum_by-cons (guaranteed_rate s) r rows, sum_by-cons (λ r. promised r.descriptor) r rows, least, guaranteed_promised s rows)

-- the guaranteed rates fit the capacity
pub guaranteed_fits : (s : Input) → IsAdmitted s.rule s.gap s.roster → sum_by (guaranteed_rate s) s.roster ≤ 256 * capacity s.rule s.gap s.roster
guaranteed_fits s k =
    let held : promised_sum s.roster ≤ 256 * capacity s.rule s.gap s.roster = (fits_parts s.rule s.gap s.roster k.fitting).1 in
    omega (arith, held, guaranteed_promised s s.roster)

-- The map of an input, under an accepted certificate and carries in range.
module _ (s : Input) (cert : MapCert) (carry : Row → ℕ) (k : IsAdmitted s.rule s.gap s.roster) (c : IsCertified s cert) (small : (r : Row) → carry r ≤ max_carry s.rule) where
  -- the surplus rates add up to at most the surplus
  surplus_shared : sum_by (λ r. (surplus_rate s cert r).num / (surplus_rate s cert r).den) s.roster ≤ surplus s
  surplus_shared =
      let left : ℕ = left_surplus cert.na.level (items NonAssured s) (surplus s) in
      let parts : sum_by (λ r. (surplus_rate s cert r).num / (surplus_rate s cert r).den) s.roster ≡ sum_by (whole_share s NonAssured cert.na (surplus s) k.apart c.non_assured) (members NonAssured s.roster) + sum_by (whole_share s BestEffort cert.be left k.apart c.best_effort) (members BestEffort s.roster)
      = by_class (spelled_rate s NonAssured cert.na) (spelled_rate s BestEffort cert.be) s.roster in
      let na = shared s NonAssured cert.na (surplus s) k.apart c.non_assured in
      let be = shared s BestEffort cert.be left k.apart c.best_effort in
      omega (arith, parts, na, be)

  payload_fits : 256 * sum_by (payload s (surplus_rate s cert) carry) s.roster ≤ 256 * capacity s.rule s.gap s.roster + length s.roster * max_carry s.rule
  payload_fits = omega (arith, guaranteed_fits s k, payload_sum s (surplus_rate s cert) carry s.roster, surplus_shared, carry_sum (max_carry s.rule) carry s.roster small)

  -- the grants fit one map
  pub one_map : AreOneMap s.gap (planned_grants s (surplus_rate s cert) carry)
  one_map = one_map_with s (surplus_rate s cert) carry k payload_fits

  -- the bursts of the map are sound
  pub admitted_map_is_sound : (profile : ℕ) → AreSound s.gap (map_of profile s (surplus_rate s cert) carry)
  admitted_map_is_sound profile =
      sound_of_rising s.gap profile (planned_grants s (surplus_rate s cert) carry) (in_order s (surplus_rate s cert) carry s.roster k.in_map_order) (fitting_with s (surplus_rate s cert) carry k payload_fits)
