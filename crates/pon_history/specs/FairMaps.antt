-- The promise of a map: guaranteed rates by the reference model, the fairest share of the rest, words that are the
-- whole parts of these rates, and bursts that do not overlap (ITU-T G.987.3).
use Rattle.std.specs.Prelude.{◌≡◌, ◌+◌, ◌*◌, All, map, max, min, sum, sum_by}
use Rattle.pon_units.specs.declared.limits.TheConstants.{WORD_RATE}
use Rattle.pon_burst.specs.Bursts.{AreSound}
use Rattle.pon_descr.specs.declared.class.Class.TheVariants.{NonAssured, BestEffort}
use Rattle.pon_descr.specs.Descriptor.{promised}
use Rattle.pon_admit.specs.Roster.{capacity}
use Rattle.pon_guar.specs.Book.{load_of}
use Rattle.pon_cert.specs.declared.cert.ClassCert.{ClassCert}
use Rattle.pon_cert.specs.Problem.{IsFairest, IsProblem}
use Rattle.pon_cert.specs.Certificate.{IsCertificate}
use Rattle.pon_demand.specs.ClassShares.{best_effort_share, best_effort_surplus, non_assured_share, non_assured_surplus, rates_of}
use Rattle.pon_demand.specs.Maps.{map_of}
use Rattle.pon_demand.specs.Rates.{planned_grants, guaranteed_rate}
use Rattle.pon_demand.specs.Sharing.{IsCertified, items, members, surplus_rate}
use Rattle.pon_state.specs.State.{State, carry_at, input_of}
use Rattle.pon_state.specs.Maps.{grants_in_map}
use Rattle.pon_state.specs.declared.reply.Reply.{Reply}
use Rattle.pon_state.specs.declared.reply.Reply.TheVariants.{Taken, Map}
use Rattle.pon_state.specs.declared.reply.MadeMap.{MadeMap}

-- the map of a state, which is the replay of all entries that its port took before
pub record IsFairMap (s : State) (made : MadeMap) : Type 0 where
  -- the map is of the state's next frame
  pub frame : made.frame ≡ s.next
  -- each guaranteed rate is the reference model's: the fixed rate, or the load up to fixed and assured rate together
  pub reference : All (λ r. guaranteed_rate (input_of s) r ≡ min (promised r.descriptor) (max r.descriptor.fixed (load_of s.book r.alloc_id))) s.roster
  -- the guaranteed rates fit the capacity, and the non-assured class shares the rest of it
  pub guaranteed : sum_by (guaranteed_rate (input_of s)) s.roster + non_assured_surplus (input_of s) ≡ WORD_RATE * capacity s.rule s.gap s.roster
  -- best effort shares what the rates of the non-assured class leave of that
  pub left : sum (non_assured_share (input_of s) made.cert).amounts + (non_assured_share (input_of s) made.cert).over * best_effort_surplus (input_of s) made.cert
      ≡ (non_assured_share (input_of s) made.cert).over * non_assured_surplus (input_of s)
  -- level and saturated set are accepted for the problem of each class
  pub certificate : IsCertified (input_of s) made.cert
  -- and neither problem has another certificate
  pub only_non_assured : (other : ClassCert) → IsCertificate (items NonAssured (input_of s)) (non_assured_surplus (input_of s)) other → other ≡ made.cert.na
  pub only_best_effort : (other : ClassCert) → IsCertificate (items BestEffort (input_of s)) (best_effort_surplus (input_of s) made.cert) other → other ≡ made.cert.be
  -- no assignment within capacity and demand has a better least-first list of weighted shares than that of the
  -- certificate, and each other one has a worse list
  pub fairest_non_assured : IsFairest (items NonAssured (input_of s)) (non_assured_surplus (input_of s)) (non_assured_share (input_of s) made.cert)
  pub fairest_best_effort : IsFairest (items BestEffort (input_of s)) (best_effort_surplus (input_of s) made.cert) (best_effort_share (input_of s) made.cert)
  -- the surplus rates of a class, in map order, are those of the certificate's assignment
  pub non_assured_rates : map (surplus_rate (input_of s) made.cert) (members NonAssured s.roster) ≡ rates_of (non_assured_share (input_of s) made.cert)
  pub best_effort_rates : map (surplus_rate (input_of s) made.cert) (members BestEffort s.roster) ≡ rates_of (best_effort_share (input_of s) made.cert)
  -- each Alloc-ID is granted the whole words of its guaranteed and its surplus rate and its carry
  pub words : grants_in_map s.roster made.map ≡ planned_grants (input_of s) (surplus_rate (input_of s) made.cert) (carry_at s)
  -- each burst lies in the frame, and no two overlap
  pub bursts : AreSound s.gap made.map
  -- the two problems are of the size that a checker takes
  pub non_assured_problem : IsProblem (items NonAssured (input_of s)) (non_assured_surplus (input_of s))
  pub best_effort_problem : IsProblem (items BestEffort (input_of s)) (best_effort_surplus (input_of s) made.cert)
  -- its structures are those of the admitted Alloc-IDs and of no other, each in the burst of its ONU, with the DBRu
  -- flag and the port's profile
  pub map : made.map ≡ map_of s.profile (input_of s) (surplus_rate (input_of s) made.cert) (carry_at s)

-- a reply with a map has a fair map
abbrev pub TellsFairMap : State → Reply → Type 0
TellsFairMap s Taken = Unit {0}
TellsFairMap s (Map made) = IsFairMap s made
