-- The map of an admitted set is fair.
use Rattle.std.proofs.Common.{◌≡◌, ℕ, refl, sym, ◌∙◌, subst, arith}
use Rattle.std.specs.Prelude.{Some, slice_get}
use Rattle.pon_burst.specs.Bursts.{AreSound}
use Rattle.pon_descr.specs.declared.class.Class.TheVariants.{NonAssured, BestEffort}
use Rattle.pon_admit.specs.Roster.{IsAdmitted, max_carry}
use Rattle.pon_cert.proofs.Fairness.{is_fairest}
use Rattle.pon_cert.proofs.LeftSurplus.{left_rest}
use Rattle.pon_cert.proofs.OneCertificate.{one_certificate}
use Rattle.pon_demand.specs.Carries.{AreCarries}
use Rattle.pon_demand.proofs.Carries.{carry_within}
use Rattle.pon_state.specs.State.{State, carry_at, input_of}
use Rattle.pon_demand.specs.Input.{Input}
use Rattle.pon_demand.specs.Sharing.{items, spelled_rate, surplus, surplus_rate}
use Rattle.pon_state.specs.Legal.{IsMade, IsReply}
use Rattle.pon_history.specs.Chapters.{Chapter, IsLawfulChapter, state_before}
use Rattle.pon_history.specs.FairMaps.{IsFairMap, TellsFairMap}
use Rattle.pon_admit.specs.declared.event.Event.{Event}
use Rattle.pon_state.specs.declared.reply.Reply.{Reply}
use Rattle.pon_state.specs.declared.reply.Reply.TheVariants.{Taken, Map}
use Rattle.pon_state.specs.declared.reply.MadeMap.{MadeMap}
use Rattle.pon_state.specs.Entry.{Entry}
use Rattle.pon_demand.specs.ClassShares.{best_effort_surplus}
use Rattle.pon_demand.proofs.ClassShares.{best_effort_alone, left_within, members_agree, non_assured_alone, spelled_rates, weighted}
use Rattle.pon_demand.proofs.ClassItems.{problem_of, surplus_range}
use Rattle.pon_history.proofs.LawfulChapters.{lawful_before}
use Rattle.pon_demand.proofs.RosterMaps.{admitted_map_is_sound, guaranteed_fits}
use Rattle.pon_state.proofs.Replies.{gets_reply}
use Rattle.pon_state.proofs.KeptMaps.{planned}

module _ (s : State) (k : IsAdmitted s.rule s.gap s.roster) (carries : AreCarries s.rule s.roster s.carries) where
  pub fair_map : (made : MadeMap) → IsMade s made → IsFairMap s made
  fair_map made m =
      let i : Input = input_of s in
      record {
        frame = m.frame;
        reference = λ n d lt. refl;
        guaranteed = omega (arith, guaranteed_fits i k);
        left = left_rest (items NonAssured i) (surplus i) made.cert.na.level made.cert.na.saturated m.certified.non_assured;
        certificate = m.certified;
        only_non_assured = λ other h. one_certificate (items NonAssured i) (surplus i) other made.cert.na (weighted i k NonAssured refl) h m.certified.non_assured;
        only_best_effort = λ other h. one_certificate (items BestEffort i) (best_effort_surplus i made.cert) other made.cert.be (weighted i k BestEffort refl) h m.certified.best_effort;
        fairest_non_assured = is_fairest (items NonAssured i) (surplus i) made.cert.na (weighted i k NonAssured refl) m.certified.non_assured;
        fairest_best_effort = is_fairest (items BestEffort i) (best_effort_surplus i made.cert) made.cert.be (weighted i k BestEffort refl) m.certified.best_effort;
        non_assured_rates =
            members_agree NonAssured (surplus_rate i made.cert) (spelled_rate i NonAssured made.cert.na)
            (λ r e. non_assured_alone r.descriptor.class (spelled_rate i NonAssured made.cert.na r) (spelled_rate i BestEffort made.cert.be r) e) s.roster
            ∙ spelled_rates i NonAssured made.cert.na (surplus i) k m.certified.non_assured;
        best_effort_rates =
            members_agree BestEffort (surplus_rate i made.cert) (spelled_rate i BestEffort made.cert.be)
            (λ r e. best_effort_alone r.descriptor.class (spelled_rate i NonAssured made.cert.na r) (spelled_rate i BestEffort made.cert.be r) e) s.roster
            ∙ spelled_rates i BestEffort made.cert.be (best_effort_surplus i made.cert) k m.certified.best_effort;
        words = sym (planned s made m);
        bursts = subst (AreSound s.gap) (sym m.map) (admitted_map_is_sound i made.cert (carry_at s) k m.certified (λ r. carry_within (max_carry s.rule) s.roster s.carries r.alloc_id carries.range) s.profile);
        non_assured_problem = problem_of i NonAssured (surplus i) refl k.few_allocs k.in_range (surplus_range i);
        best_effort_problem = problem_of i BestEffort (best_effort_surplus i made.cert) refl k.few_allocs k.in_range (left_within made.cert.na.level (items NonAssured i) (surplus i) (surplus_range i));
        map = m.map;
      }

-- each map of a lawful chapter is a fair map of the state before it
pub maps_are_fair : (c : Chapter) → IsLawfulChapter c → (n : ℕ) (e : Entry) → slice_get c.entries n ≡ Some e → TellsFairMap (state_before c n) e.reply
maps_are_fair c l n e at = told e.event e.reply (l.legal n e at).reply
  where
    told : (v : Event) (reply : Reply) → IsReply (state_before c n) v reply → TellsFairMap (state_before c n) reply
    told v Taken h = tt
    told v (Map made) h =
        fair_map (state_before c n) (lawful_before c l n).admitted (lawful_before c l n).carries made (subst (λ v. IsReply (state_before c n) v (Map made)) (gets_reply (state_before c n) v (Map made) h) h)
