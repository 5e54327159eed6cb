-- Turns one after another.
use Rattle.std.proofs.Common.{◌≡◌, ℕ, ◌+◌, ◌≤◌, List, [], ◌∷◌, ◌++◌, inl, inr, Option, flat_map, length, refl, sym, ap, subst, ◌∙◌, arith, append_assoc, append-nil, length-append}
use Rattle.std.specs.Prelude.{IfErr, MatchResult, OnOk, Result, Ok, Err}
use Rattle.std.proofs.KnownBytes.{Appends-nil, Appends-trans}
use Rattle.std.proofs.lemmas.Grind.{flat_map-append}
use Rattle.std.proofs.lemmas.List.Elements.{All-append, All-cons, All-nil}
use Rattle.pon_device.specs.Device.{Appends}
use Rattle.pon_desk.specs.Counts.{SeatState}
use Rattle.pon_desk.specs.Receipts.{Receipt}
use Rattle.pon_link.specs.declared.record.UpRecord.{UpRecord}
use Rattle.pon_worker.specs.Records.{CountsRecords, HasRead}
use Rattle.pon_worker.specs.declared.counts.StopReason.{StopReason}
use Rattle.pon_worker.specs.declared.counts.StopReason.TheVariants.{Finished, Gave, GateLimit, Refused}
use Rattle.pon_worker.specs.Turns.{CutsReading, CutsSending, EndsAs, IsTurn, IsWholeTurn, KeepsAll, Stopped, Turn, Turned, Worked, receipts_in}
use Rattle.pon_worker.specs.declared.counts.PortCounts.{PortCounts}
use Rattle.pon_worker.specs.declared.counts.TheConstants.{MAX_COUNT}
use Rattle.pon_worker.proofs.Bursts.{counted_more, counted_none, read_more, read_none}
use Rattle.pon_worker.proofs.Receipts.{keeps_more, keeps_none}

abbrev sent_of : Turn → List ℕ
sent_of t = t.sent

abbrev records_of : Turn → List UpRecord
records_of t = t.records

abbrev reports_of : Turn → List Receipt
reports_of t = t.reports

-- turns, followed by others
pub worked_more : (port : ℕ) (xs ys : List Turn) (held : List ℕ) (a b c : PortCounts) (s t u : SeatState) (wa wb wc ra rb rc : Option (List ℕ))
    → Worked port xs [] a b s t wa wb ra rb → Worked port ys held b c t u wb wc rb rc → Worked port (xs ++ ys) held a c s u wa wc ra rc
worked_more port xs ys held a b c s t u wa wb wc ra rb rc p q =
    let reports : length (flat_map reports_of (xs ++ ys)) ≡ length (flat_map reports_of xs) + length (flat_map reports_of ys)
    = ap (λ (l : List Receipt). length l) (flat_map-append reports_of xs ys) ∙ length-append (flat_map reports_of xs) (flat_map reports_of ys) in record {
      each = All-append (IsTurn port) xs ys p.each q.each;
      maps = omega (arith, p.maps, q.maps, length-append xs ys);
      wrote = subst (Appends wa wc) (sym (flat_map-append sent_of xs ys)) (Appends-trans wa wb wc (flat_map sent_of xs) (flat_map sent_of ys) p.wrote q.wrote);
      counted = subst (λ k. CountsRecords (flat_map records_of (xs ++ ys)) k a c) (sym reports)
          (subst (λ (rs : List UpRecord). CountsRecords rs (length (flat_map reports_of xs) + length (flat_map reports_of ys)) a c) (sym (flat_map-append records_of xs ys))
          (counted_more (flat_map records_of xs) (flat_map records_of ys) (length (flat_map reports_of xs)) (length (flat_map reports_of ys)) a b c p.counted q.counted));
      read = subst (λ (rs : List UpRecord). HasRead rs held ra rc) (sym (flat_map-append records_of xs ys)) (read_more (flat_map records_of xs) (flat_map records_of ys) held ra rb rc p.read q.read);
      kept = subst (λ (rs : List Receipt). KeepsAll s.receipts rs u.receipts) (sym (flat_map-append receipts_in xs ys)) (keeps_more s.receipts t.receipts u.receipts (flat_map receipts_in xs) (flat_map receipts_in ys) p.kept q.kept);
    }

pub turned_more : (port : ℕ) (a b c : PortCounts) (s t u : SeatState) (wa wb wc ra rb rc : Option (List ℕ)) → Turned port a b s t wa wb ra rb → Turned port b c t u wb wc rb rc → Turned port a c s u wa wc ra rc
turned_more port a b c s t u wa wb wc ra rb rc p q = record {
  turns = p.turns ++ q.turns;
  worked = worked_more port p.turns q.turns [] a b c s t u wa wb wc ra rb rc p.worked q.worked;
  whole = All-append IsWholeTurn p.turns q.turns p.whole q.whole;
}

stopped_more : (port : ℕ) (why : StopReason) (a b c : PortCounts) (s t u : SeatState) (wa wb wc ra rb rc : Option (List ℕ)) → Turned port a b s t wa wb ra rb → Stopped port why b c t u wb wc rb rc → Stopped port why a c s u wa wc ra rc
stopped_more port why a b c s t u wa wb wc ra rb rc p q = record {
  turns = p.turns ++ q.turns;
  last = q.last;
  held = q.held;
  worked = subst (λ (ts : List Turn). Worked port ts q.held a c s u wa wc ra rc) (sym (append_assoc p.turns q.turns (q.last ∷ [])))
      (worked_more port p.turns (q.turns ++ q.last ∷ []) q.held a b c s t u wa wb wc ra rb rc p.worked q.worked);
  whole = All-append IsWholeTurn p.turns q.turns p.whole q.whole;
  cut = q.cut;
}

-- whole turns, followed by others that end for this reason
pub ends_more : (port ports : ℕ) (why : StopReason) (a b c : PortCounts) (s t u : SeatState) (wa wb wc ra rb rc : Option (List ℕ)) → Turned port a b s t wa wb ra rb → EndsAs port ports why b c t u wb wc rb rc → EndsAs port ports why a c s u wa wc ra rc
ends_more port ports Finished a b c s t u wa wb wc ra rb rc p q = turned_more port a b c s t u wa wb wc ra rb rc p q
ends_more port ports (Gave cause) a b c s t u wa wb wc ra rb rc p q = stopped_more port (Gave cause) a b c s t u wa wb wc ra rb rc p q
ends_more port ports GateLimit a b c s t u wa wb wc ra rb rc p q = stopped_more port GateLimit a b c s t u wa wb wc ra rb rc p q
ends_more port ports (Refused fault) a b c s t u wa wb wc ra rb rc p (inl q) = inl (q.0, turned_more port a b c s t u wa wb wc ra rb rc p q.1)
ends_more port ports (Refused fault) a b c s t u wa wb wc ra rb rc p (inr q) = inr (stopped_more port (Refused fault) a b c s t u wa wb wc ra rb rc p q)

-- no turn
pub turned_none : (port : ℕ) (a : PortCounts) (s : SeatState) (wa ra : Option (List ℕ)) → a.garbled ≤ MAX_COUNT → a.unowned ≤ MAX_COUNT → a.refused ≤ MAX_COUNT → Turned port a a s s wa wa ra ra
turned_none port a s wa ra garbled unowned refused = record {
  turns = [];
  worked = record {
    each = All-nil (IsTurn port);
    maps = omega arith;
    wrote = Appends-nil wa;
    counted = counted_none a garbled unowned refused;
    read = read_none ra;
    kept = keeps_none s.receipts;
  };
  whole = All-nil IsWholeTurn;
}

-- one turn
pub worked_one : (port : ℕ) (t : Turn) (held : List ℕ) (a b : PortCounts) (s u : SeatState) (wa wb ra rb : Option (List ℕ))
    → IsTurn port t → b.maps ≡ a.maps + 1 → Appends wa wb t.sent → CountsRecords t.records (length t.reports) a b → HasRead t.records held ra rb → KeepsAll s.receipts (receipts_in t) u.receipts → Worked port (t ∷ []) held a b s u wa wb ra rb
worked_one port t held a b s u wa wb ra rb is maps wrote counted read kept = record {
  each = All-cons (IsTurn port) t [] is (All-nil (IsTurn port));
  maps = maps;
  wrote = subst (Appends wa wb) (sym (append-nil t.sent)) wrote;
  counted = subst (λ (rs : List UpRecord). CountsRecords rs (length (t.reports ++ [])) a b) (sym (append-nil t.records))
      (subst (λ (rs : List Receipt). CountsRecords t.records (length rs) a b) (sym (append-nil t.reports)) counted);
  read = subst (λ (rs : List UpRecord). HasRead rs held ra rb) (sym (append-nil t.records)) read;
  kept = subst (λ (rs : List Receipt). KeepsAll s.receipts rs u.receipts) (sym (append-nil (receipts_in t))) kept;
}

pub turned_one : (port : ℕ) (t : Turn) (a b : PortCounts) (s u : SeatState) (wa wb ra rb : Option (List ℕ)) → Worked port (t ∷ []) [] a b s u wa wb ra rb → IsWholeTurn t → Turned port a b s u wa wb ra rb
turned_one port t a b s u wa wb ra rb worked whole = record { turns = t ∷ []; worked = worked; whole = All-cons IsWholeTurn t [] whole (All-nil IsWholeTurn) }

-- a turn that was cut short before any burst was read
pub sending_ends : (port ports : ℕ) (why : StopReason) (t : Turn) (a b : PortCounts) (s u : SeatState) (wa wb ra rb : Option (List ℕ)) → Worked port (t ∷ []) [] a b s u wa wb ra rb → CutsSending why t.made t.sent → t.records ≡ [] → EndsAs port ports why a b s u wa wb ra rb
sending_ends port ports Finished t a b s u wa wb ra rb worked cut none = absurd cut
sending_ends port ports (Gave cause) t a b s u wa wb ra rb worked cut none = record { turns = []; last = t; held = []; worked = worked; whole = All-nil IsWholeTurn; cut = inl (cut, none, refl) }
sending_ends port ports GateLimit t a b s u wa wb ra rb worked cut none = record { turns = []; last = t; held = []; worked = worked; whole = All-nil IsWholeTurn; cut = inl (cut, none, refl) }
sending_ends port ports (Refused fault) t a b s u wa wb ra rb worked cut none = absurd cut

-- a turn that was cut short while its bursts were read
pub reading_ends : (port ports : ℕ) (why : StopReason) (t : Turn) (held : List ℕ) (a b : PortCounts) (s u : SeatState) (wa wb ra rb : Option (List ℕ)) → Worked port (t ∷ []) held a b s u wa wb ra rb → CutsReading port why t held rb → EndsAs port ports why a b s u wa wb ra rb
reading_ends port ports Finished t held a b s u wa wb ra rb worked cut = absurd cut.stops
reading_ends port ports (Gave cause) t held a b s u wa wb ra rb worked cut = record { turns = []; last = t; held = held; worked = worked; whole = All-nil IsWholeTurn; cut = inr cut }
reading_ends port ports GateLimit t held a b s u wa wb ra rb worked cut = absurd cut.stops
reading_ends port ports (Refused fault) t held a b s u wa wb ra rb worked cut = inr (record { turns = []; last = t; held = held; worked = worked; whole = All-nil IsWholeTurn; cut = inr cut })

-- what follows from each case of a result
pub on_ok : {T E X Z : Type 0} (A : T → Type 0) (B : E → Type 0) (r : Result T E) → MatchResult r A B → OnOk r Z → ((v : T) → A v → Z → X) → OnOk r X
on_ok A B (Ok v) m z f = f v m z
on_ok A B (Err e) m z f = tt

pub if_err : {T E : Type 0} (A : T → Type 0) (B Y : E → Type 0) (r : Result T E) → MatchResult r A B → ((e : E) → B e → Y e) → IfErr r Y
if_err A B Y (Ok v) m f = tt
if_err A B Y (Err e) m f = f e m

-- the same end, given by its fields
pub ends_with : (port ports : ℕ) (why told : StopReason) (a b end : PortCounts) (s u : SeatState) (wa wb ra rb : Option (List ℕ)) → told ≡ why → end ≡ b → EndsAs port ports why a b s u wa wb ra rb → EndsAs port ports told a end s u wa wb ra rb
ends_with port ports why told a b end s u wa wb ra rb same counts ends =
    subst (λ (v : StopReason). EndsAs port ports v a end s u wa wb ra rb) (sym same) (subst (λ (k : PortCounts). EndsAs port ports why a k s u wa wb ra rb) (sym counts) ends)
