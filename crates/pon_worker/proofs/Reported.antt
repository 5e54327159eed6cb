-- The report of a record that was posted, and how it is counted.
use Rattle.std.proofs.Common.{◌≡◌, ◌≢◌, ℕ, ◌+◌, ◌<◌, ◌≤◌, ◌^◌, Bool, true, false, [], ◌∷◌, ap, subst, arith}
use Rattle.std.specs.Prelude.{IfErr, IfSome, MatchBool, OnErr, OnOk, Result, Ok, Err, slice_index}
use Rattle.std.proofs.lemmas.List.Elements.{All-cons, All-nil}
use Rattle.pon_admit.specs.declared.event.Event.{Event}
use Rattle.pon_admit.specs.declared.event.Event.TheVariants.{Report}
use Rattle.pon_descr.specs.declared.refusal.Refusal.{Refusal}
use Rattle.pon_descr.specs.declared.refusal.Refusal.TheVariants.{OutOfMemory}
use Rattle.pon_plant.specs.declared.fault.StepFault.{StepFault}
use Rattle.pon_plant.specs.declared.fault.StepFault.TheVariants.{NoSuchPort, Refused}
use Rattle.pon_desk.specs.Counts.{SeatState}
use Rattle.pon_desk.specs.Faults.{IsNoSuchPort, TellsRefusal}
use Rattle.pon_desk.specs.Posts.{IsSomeRefusal}
use Rattle.pon_link.specs.declared.record.UpRecord.{UpRecord}
use Rattle.pon_worker.specs.Records.{after_report, is_nobodys}
use Rattle.pon_worker.specs.Turns.{CoversCounts, IsNotMemory, KeepsPost, LacksReport, PostsAt, PostsRecord, RefusesReport, TakesReport}
use Rattle.pon_worker.specs.declared.counts.PortCounts.{PortCounts}
use Rattle.pon_worker.specs.declared.counts.TheConstants.{MAX_COUNT}
use Rattle.pon_worker.proofs.Bursts.{counted_refused, counted_taken}
use Rattle.pon_worker.proofs.Posted.{posts_refused, posts_taken}
use Rattle.pon_worker.proofs.Receipts.{keeps_one, keeps_same, takes_one, takes_refused}

-- one more report can be counted
pub fits_one : (port : ℕ) (event : Event) (r : Result (Unit {0}) StepFault) (a b : SeatState) (old : PortCounts) → CoversCounts port a old → OnOk r (KeepsPost port event a b) → OnOk r (slice_index b.counts port < 2 ^ 64) → OnOk r (old.reports + 1 < 2 ^ 64)
fits_one port event (Ok v) a b old covers kept fits = omega (arith, covers, kept.raised.here, fits)
fits_one port event (Err fault) a b old covers kept fits = tt

reported_taken : (port : ℕ) (burst : UpRecord) (onu : ℕ) (old new : PortCounts) (a b : SeatState) → is_nobodys burst.head ≡ false → IfSome burst.head (λ h. h.onu_raw ≡ onu)
    → KeepsPost port (Report burst.frame onu burst.occ) a b → new ≡ after_report (Ok tt) old → old.garbled ≤ MAX_COUNT → old.unowned ≤ MAX_COUNT → old.refused ≤ MAX_COUNT → PostsRecord port burst old new a b
reported_taken port burst onu old new a b sender sent_by post counts garbled unowned refused =
    let took : TakesReport port burst post.receipt = record { onu = onu; sent_by = sent_by; sender = sender; is_post = post.is_post } in record {
      reports = post.receipt ∷ [];
      refusals = [];
      takes = takes_one port burst post.receipt took;
      memory = All-nil IsNotMemory;
      counted = counted_taken burst old new sender counts garbled unowned refused;
      kept = keeps_one a.receipts b.receipts post.receipt post.kept;
    }

refuses : (burst : UpRecord) (onu : ℕ) (told : Refusal) → is_nobodys burst.head ≡ false → IfSome burst.head (λ h. h.onu_raw ≡ onu) → IsSomeRefusal (Report burst.frame onu burst.occ) told → RefusesReport burst told
refuses burst onu told sender sent_by refused = record { onu = onu; sent_by = sent_by; sender = sender; refused = refused }

-- the record is counted, as its report was taken or refused
pub reported : (port : ℕ) (burst : UpRecord) (onu : ℕ) (event : Event) (r : Result (Unit {0}) StepFault) (more : Bool) (old new : PortCounts) (a b : SeatState) → event ≡ Report burst.frame onu burst.occ → is_nobodys burst.head ≡ false → IfSome burst.head (λ h. h.onu_raw ≡ onu)
    → OnOk r (KeepsPost port event a b) → (IsNoSuchPort r → ⊥) → IfErr r (λ fault. TellsRefusal event fault) → OnErr r (b ≡ a) → new ≡ after_report r old → MatchBool more (r ≢ Err (Refused OutOfMemory)) (r ≡ Err (Refused OutOfMemory)) → old.garbled ≤ MAX_COUNT → old.unowned ≤ MAX_COUNT → old.refused ≤ MAX_COUNT
    → MatchBool more (PostsRecord port burst old new a b) (LacksReport burst old new a b)
reported port burst onu event (Ok v) true old new a b is sender sent_by kept there refused same counts memory small_garbled small_unowned small_refused =
    reported_taken port burst onu old new a b sender sent_by (subst (λ (e : Event). KeepsPost port e a b) is kept) counts small_garbled small_unowned small_refused
reported port burst onu event (Ok v) false old new a b is sender sent_by kept there refused same counts memory small_garbled small_unowned small_refused = absurd (cc memory)
reported port burst onu event (Err (Refused told)) true old new a b is sender sent_by kept there refused same counts memory small_garbled small_unowned small_refused = record {
  reports = [];
  refusals = told ∷ [];
  takes = takes_refused port burst told (refuses burst onu told sender sent_by (subst (λ (e : Event). IsSomeRefusal e told) is refused));
  memory = All-cons IsNotMemory told [] (λ e. memory (ap (λ (t : Refusal). Err (Refused t)) e)) (All-nil IsNotMemory);
  counted = counted_refused burst (Refused told) old new sender counts small_garbled small_unowned;
  kept = keeps_same a b same;
}
reported port burst onu event (Err (Refused told)) false old new a b is sender sent_by kept there refused same counts memory small_garbled small_unowned small_refused =
    let out : told ≡ OutOfMemory = cc memory in record {
      refused = subst (RefusesReport burst) out (refuses burst onu told sender sent_by (subst (λ (e : Event). IsSomeRefusal e told) is refused));
      counted = counted_refused burst (Refused told) old new sender counts small_garbled small_unowned;
      same = same;
    }
reported port burst onu event (Err NoSuchPort) more old new a b is sender sent_by kept there refused same counts memory small_garbled small_unowned small_refused = absurd (there tt)

-- no map is counted
pub reported_maps : (r : Result (Unit {0}) StepFault) (old new : PortCounts) → new ≡ after_report r old → new.maps ≡ old.maps
reported_maps (Ok v) old new counts = ap (λ (k : PortCounts). k.maps) counts
reported_maps (Err fault) old new counts = ap (λ (k : PortCounts). k.maps) counts

-- the post, if it was accepted, is counted as a report
pub reported_posts : (port : ℕ) (event : Event) (r : Result (Unit {0}) StepFault) (old new : PortCounts) (a b : SeatState) → OnOk r (KeepsPost port event a b) → OnErr r (b ≡ a) → new ≡ after_report r old → PostsAt port 0 a b old new
reported_posts port event (Ok v) old new a b kept same counts = posts_taken port a b old new kept.raised (ap (λ (k : PortCounts). k.maps) counts) (ap (λ (k : PortCounts). k.reports) counts)
reported_posts port event (Err fault) old new a b kept same counts = posts_refused port a b old new same (ap (λ (k : PortCounts). k.maps) counts) (ap (λ (k : PortCounts). k.reports) counts)
