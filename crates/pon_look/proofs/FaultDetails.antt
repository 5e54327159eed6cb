-- What is wrong with the entry at an index of a chapter, from what is wrong with it in the state before it.
use Rattle.std.proofs.Common.{◌≡◌, ◌∙◌, ◌<◌, ℕ, IfOk, IfSome, None, Option, Result, Ok, Err, Some, ap, get_or, length, subst, sym}
use Rattle.std.proofs.lemmas.Option.{slice_get-get_or}
use Rattle.pon_state.specs.State.{State}
use Rattle.pon_state.specs.Entry.{Entry}
use Rattle.pon_state.specs.declared.reply.MadeMap.{MadeMap}
use Rattle.pon_state.specs.declared.reply.Reply.TheVariants.{Map}
use Rattle.pon_history.specs.Chapters.{Chapter, cut_at}
use Rattle.pon_history.specs.Taking.{IsKept}
use Rattle.pon_look.specs.FaultDetails.{IsDetail, IsDetailAt, IsMapDetail}
use Rattle.pon_look.specs.declared.fault.FaultDetail.{FaultDetail}
use Rattle.pon_look.specs.declared.fault.FaultDetail.TheVariants.{Refused, Certificate, Grant, Structure, Frame}

module _ (c : Chapter) (k : ℕ) (e : Entry) (s : State) (lt : k < length c.entries) (here : e ≡ get_or c.entries k e) (kept : IsKept (cut_at c k) s) where
  pub detail_here : (d : FaultDetail) → IsDetail k s e d → IsDetailAt c k d
  detail_here d wrong = record {
    entry = e;
    here = slice_get-get_or c.entries k e lt ∙ ap Option.Some (sym here);
    lawful = kept.lawful;
    wrong = subst (λ (t : State). IsDetail k t e d) kept.replayed wrong;
  }

  of_map : (m : MadeMap) → e.reply ≡ Map m → (d : FaultDetail) → IsMapDetail s m d → IsDetail k s e d
  of_map m is (Refused refusal) wrong = absurd wrong
  of_map m is (Certificate fault) wrong = (m, is, wrong)
  of_map m is (Grant id wanted found) wrong = (m, is, wrong)
  of_map m is (Structure place wanted found) wrong = (m, is, wrong)
  of_map m is (Frame next) wrong = (m, is, wrong)

  pub map_details : {E : Type 0} (m : MadeMap) → e.reply ≡ Map m → (r : Result (Option FaultDetail) E) → IfOk r (λ found. IfSome found (IsMapDetail s m)) → IfOk r (λ found. IfSome found (IsDetailAt c k))
  map_details m is (Ok (Some d)) wrong = detail_here d (of_map m is d wrong)
  map_details m is (Ok None) wrong = tt
  map_details m is (Err fault) wrong = tt
