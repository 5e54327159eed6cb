-- Records that are read and counted, one after another.
use Rattle.std.proofs.Common.{◌≡◌, ℕ, All, Bool, true, false, ◌+◌, ◌<◌, ◌≤◌, min, ◌&&◌, List, [], ◌∷◌, ◌++◌, ◌⊎◌, inl, inr, Option, Some, None, is_some, cond, count_by, length, refl, sym, subst, ap, ◌∙◌, arith, append_assoc, append-nil, length-append}
use Rattle.std.proofs.KnownBytes.{Consumes-nil, Consumes-trans}
use Rattle.std.proofs.lemmas.List.Elements.{All-append, All-nil}
use Rattle.std.proofs.lemmas.List.Sums.{sum_by-append}
use Rattle.pon_device.specs.Device.{Consumes, IsAtEnd, Keeps}
use Rattle.pon_link.specs.Reading.{ReaderState, HasFault, IsOpen, IsReady, MayBecomeRecord, longest}
use Rattle.pon_link.specs.declared.direction.Direction.{Direction}
use Rattle.pon_link.specs.declared.direction.Direction.TheVariants.{Up, Down}
use Rattle.pon_link.specs.declared.fault.LinkFault.{LinkFault}
use Rattle.pon_link.proofs.Outcomes.{faultless}
use Rattle.pon_link.proofs.Sizes.{begun_limit}
use Rattle.pon_link.specs.Runs.{AreRecords}
use Rattle.pon_link.specs.UpRecords.{IsRecord}
use Rattle.pon_link.specs.declared.record.UpRecord.{UpRecord}
use Rattle.std.specs.Prelude.{Ok, Err}
use Rattle.pon_descr.specs.declared.refusal.Refusal.{Refusal}
use Rattle.pon_plant.specs.declared.fault.StepFault.{StepFault}
use Rattle.pon_descr.specs.declared.refusal.Refusal.TheVariants.{OutOfMemory}
use Rattle.pon_desk.specs.Receipts.{Receipt}
use Rattle.pon_worker.specs.Turns.{IsNotMemory, KeepsAll, LacksMemory, RefusesReport, TakesReports}
use Rattle.pon_worker.proofs.Receipts.{keeps_more, keeps_none, takes_more, takes_refused}
use Rattle.pon_worker.specs.Records.{CountsRecords, HasRead, after_garbled, after_report, is_garbled, is_unowned}
use Rattle.pon_worker.specs.declared.counts.PortCounts.{PortCounts}
use Rattle.pon_worker.proofs.Posted.{with_map}
use Rattle.pon_worker.specs.declared.counts.TheConstants.{MAX_COUNT}

-- this number of records was read, posted and counted, and bytes of the next one were read
pub record ReadSoFar (port number : ℕ) (held : List ℕ) (old new : PortCounts) (kept_old kept_new : Option (List Receipt)) (left_old left_new : Option (List ℕ)) : Type 0 where
  pub records : List UpRecord
  pub reports : List Receipt
  pub refusals : List Refusal
  pub takes : TakesReports port records reports refusals
  pub memory : All IsNotMemory refusals
  pub counted : CountsRecords records (length reports) old new
  pub read : HasRead records held left_old left_new
  pub size : length records ≡ number
  pub kept : KeepsAll kept_old reports kept_new

-- two additions to a count that stays at its greatest value
count_twice : (most a x y b c : ℕ) → b ≡ min (a + x) most → c ≡ min (b + y) most → c ≡ min (a + (x + y)) most
count_twice most a x y b c p q = omega (arith, p, q)

count_append : (xs ys : List UpRecord) → count_by is_garbled (xs ++ ys) ≡ count_by is_garbled xs + count_by is_garbled ys
count_append xs ys = sum_by-append (λ (r : UpRecord). cond (is_garbled r) 1 0) xs ys

count_append_unowned : (xs ys : List UpRecord) → count_by is_unowned (xs ++ ys) ≡ count_by is_unowned xs + count_by is_unowned ys
count_append_unowned xs ys = sum_by-append (λ (r : UpRecord). cond (is_unowned r) 1 0) xs ys

-- the counts of records, followed by those of other records
pub counted_more : (xs ys : List UpRecord) (n m : ℕ) (a b c : PortCounts) → CountsRecords xs n a b → CountsRecords ys m b c → CountsRecords (xs ++ ys) (n + m) a c
counted_more xs ys n m a b c p q =
    let split = count_append xs ys in
    let split_unowned = count_append_unowned xs ys in record {
      refusals = p.refusals + q.refusals;
      all = omega (arith, p.all, q.all, split, length-append xs ys);
      taken = omega (arith, p.taken, q.taken);
      garbled = count_twice MAX_COUNT a.garbled (count_by is_garbled xs) (count_by is_garbled ys) b.garbled c.garbled p.garbled q.garbled ∙ ap (λ k. min (a.garbled + k) MAX_COUNT) (sym split);
      unowned = count_twice MAX_COUNT a.unowned (count_by is_unowned xs) (count_by is_unowned ys) b.unowned c.unowned p.unowned q.unowned ∙ ap (λ k. min (a.unowned + k) MAX_COUNT) (sym split_unowned);
      refused = count_twice MAX_COUNT a.refused p.refusals q.refusals b.refused c.refused p.refused q.refused;
    }

-- nothing to count
pub counted_none : (a : PortCounts) → a.garbled ≤ MAX_COUNT → a.unowned ≤ MAX_COUNT → a.refused ≤ MAX_COUNT → CountsRecords [] 0 a a
counted_none a garbled unowned refused = record {
  refusals = 0;
  all = refl;
  taken = omega arith;
  garbled = omega (arith, garbled);
  unowned = omega (arith, unowned);
  refused = omega (arith, refused);
}

-- records one after another, followed by others
pub are_more : (xs : List UpRecord) (ys : List UpRecord) (a b held : List ℕ) → AreRecords IsRecord a xs [] → AreRecords IsRecord b ys held → AreRecords IsRecord (a ++ b) (xs ++ ys) held
are_more [] ys a b held p q = subst (λ t. AreRecords IsRecord (t ++ b) ys held) (sym p) q
are_more (x ∷ xs) ys a b held p q = (p.0, p.1 ++ b, ap (λ t. t ++ b) p.2 ∙ append_assoc p.0 p.1 b, p.3, are_more xs ys p.1 b held p.4 q)

pub read_more : (xs ys : List UpRecord) (held : List ℕ) (a b c : Option (List ℕ)) → HasRead xs [] a b → HasRead ys held b c → HasRead (xs ++ ys) held a c
read_more xs ys held a b c p q = record {
  input = p.input ++ q.input;
  read = Consumes-trans a b c p.input q.input p.read q.read;
  are = are_more xs ys p.input q.input held p.are q.are;
}

pub read_none : (a : Option (List ℕ)) → HasRead [] [] a a
read_none a = record { input = []; read = Consumes-nil a; are = refl }

-- one record, of these bytes
pub read_one : (burst : UpRecord) (bytes : List ℕ) (a b : Option (List ℕ)) → IsRecord bytes burst → Consumes a b bytes → HasRead (burst ∷ []) [] a b
read_one burst bytes a b is read = record { input = bytes; read = read; are = (bytes, [], sym (append-nil bytes), is, refl) }

-- only bytes of a next record
pub read_part : (held : List ℕ) (a b : Option (List ℕ)) → Consumes a b held → HasRead [] held a b
read_part held a b read = record { input = held; read = read; are = refl }

-- one more record is read and counted
pub so_far_more : (port number : ℕ) (burst : UpRecord) (bytes : List ℕ) (reports : List Receipt) (refusals : List Refusal) (a b c : PortCounts) (ka kb kc : Option (List Receipt)) (ra rb rc : Option (List ℕ))
    → ReadSoFar port number [] a b ka kb ra rb → IsRecord bytes burst → Consumes rb rc bytes → TakesReports port (burst ∷ []) reports refusals → All IsNotMemory refusals → CountsRecords (burst ∷ []) (length reports) b c → KeepsAll kb reports kc → ReadSoFar port (number + 1) [] a c ka kc ra rc
so_far_more port number burst bytes reports refusals a b c ka kb kc ra rb rc far is read takes memory counted kept = record {
  records = far.records ++ burst ∷ [];
  reports = far.reports ++ reports;
  refusals = far.refusals ++ refusals;
  takes = takes_more port far.records (burst ∷ []) far.reports reports far.refusals refusals far.takes takes;
  memory = All-append IsNotMemory far.refusals refusals far.memory memory;
  counted = subst (λ k. CountsRecords (far.records ++ burst ∷ []) k a c) (sym (length-append far.reports reports)) (counted_more far.records (burst ∷ []) (length far.reports) (length reports) a b c far.counted counted);
  kept = keeps_more ka kb kc far.reports reports far.kept kept;
  read = read_more far.records (burst ∷ []) [] ra rb rc far.read (read_one burst bytes rb rc is read);
  size = omega (arith, far.size, length-append far.records (burst ∷ []));
}

-- one more record is read, whose report is refused since memory is: what was taken and refused, why reading stops, the
-- counts, and the bytes
pub so_far_lacks : (port number : ℕ) (burst : UpRecord) (ka kb : Option (List Receipt)) (a b : PortCounts) (ra rb : Option (List ℕ)) (far : ReadSoFar port number [] a b ka kb ra rb) → RefusesReport burst OutOfMemory → LacksMemory port (far.records ++ burst ∷ []) far.reports
so_far_lacks port number burst ka kb a b ra rb far refused = record {
  before = far.records;
  last = burst;
  refusals = far.refusals;
  are = refl;
  takes = far.takes;
  others = far.memory;
  refused = refused;
}

pub so_far_refused : (port number : ℕ) (burst : UpRecord) (ka kb : Option (List Receipt)) (a b : PortCounts) (ra rb : Option (List ℕ)) (far : ReadSoFar port number [] a b ka kb ra rb) → RefusesReport burst OutOfMemory
    → TakesReports port (far.records ++ burst ∷ []) far.reports (far.refusals ++ OutOfMemory ∷ [])
so_far_refused port number burst ka kb a b ra rb far refused =
    subst (λ (rs : List Receipt). TakesReports port (far.records ++ burst ∷ []) rs (far.refusals ++ OutOfMemory ∷ [])) (append-nil far.reports)
    (takes_more port far.records (burst ∷ []) far.reports [] far.refusals (OutOfMemory ∷ []) far.takes (takes_refused port burst OutOfMemory refused))

pub so_far_counted : (port number : ℕ) (burst : UpRecord) (ka kb : Option (List Receipt)) (a b c : PortCounts) (ra rb : Option (List ℕ)) (far : ReadSoFar port number [] a b ka kb ra rb) → CountsRecords (burst ∷ []) 0 b c → CountsRecords (far.records ++ burst ∷ []) (length far.reports) a c
so_far_counted port number burst ka kb a b c ra rb far counted =
    subst (λ k. CountsRecords (far.records ++ burst ∷ []) k a c) (omega arith) (counted_more far.records (burst ∷ []) (length far.reports) 0 a b c far.counted counted)

pub so_far_read : (port number : ℕ) (burst : UpRecord) (bytes : List ℕ) (ka kb : Option (List Receipt)) (a b : PortCounts) (ra rb rc : Option (List ℕ)) (far : ReadSoFar port number [] a b ka kb ra rb) → IsRecord bytes burst → Consumes rb rc bytes → HasRead (far.records ++ burst ∷ []) [] ra rc
so_far_read port number burst bytes ka kb a b ra rb rc far is read = read_more far.records (burst ∷ []) [] ra rb rc far.read (read_one burst bytes rb rc is read)

-- after records, bytes of the next one are read
pub so_far_part : (port number : ℕ) (held : List ℕ) (a b : PortCounts) (ka kb : Option (List Receipt)) (ra rb rc : Option (List ℕ)) (far : ReadSoFar port number [] a b ka kb ra rb) → Consumes rb rc held
    → HasRead far.records held ra rc
so_far_part port number held a b ka kb ra rb rc far read =
    subst (λ (xs : List UpRecord). HasRead xs held ra rc) (append-nil far.records) (read_more far.records [] held ra rb rc far.read (read_part held rb rc read))

-- no bytes were read, and then these
pub kept_read : (a b c : Option (List ℕ)) (bytes : List ℕ) → Keeps a b → Consumes b c bytes → Consumes a c bytes
kept_read None b c bytes p q = tt
kept_read (Some x) None c bytes p q = absurd p
kept_read (Some x) (Some y) None bytes p q = absurd q
kept_read (Some x) (Some y) (Some z) bytes p q = sym p ∙ q

pub none_so_far : (port : ℕ) (a : PortCounts) (ka : Option (List Receipt)) (ra : Option (List ℕ)) → a.garbled ≤ MAX_COUNT → a.unowned ≤ MAX_COUNT → a.refused ≤ MAX_COUNT → ReadSoFar port 0 [] a a ka ka ra ra
none_so_far port a ka ra garbled unowned refused = record {
  records = [];
  reports = [];
  refusals = [];
  takes = (refl, refl);
  memory = All-nil IsNotMemory;
  counted = counted_none a garbled unowned refused;
  read = read_none ra;
  size = refl;
  kept = keeps_none ka;
}

-- an open reader has no fault, so a pull that returns one found the end of the input
pub ends_here : (old new : ReaderState) (rest : Option (List ℕ)) (fault : LinkFault) → old.direction ≡ Up → IsOpen old → (HasFault old fault × (new ≡ old)) ⊎ (IsOpen old × IsAtEnd rest) → IsAtEnd rest
ends_here old new rest fault up is_open (inl faulty) = absurd (faultless old fault (λ down. let both : Up ≡ Down = sym up ∙ down in cc) is_open faulty.0)
ends_here old new rest fault up is_open (inr ended) = ended.1

-- an open reader holds no whole record, so a pull that succeeds adds a byte
pub more_held : (s : ReaderState) (n : ℕ) (bytes : List ℕ) → s.direction ≡ Up → IsOpen s → length bytes ≡ n → (IsReady s.direction s.held × (n ≡ 0)) ⊎ (IsOpen s × (0 < n)) → 0 < length bytes
more_held s n bytes up is_open count (inr more) = omega (arith, count, more.1)
more_held s n bytes up is_open count (inl ready) =
    let begins : MayBecomeRecord Up s.held = subst (λ (d : Direction). MayBecomeRecord d s.held) up is_open.beginning in
    let whole : IsReady Up s.held = subst (λ (d : Direction). IsReady d s.held) up ready.0 in
    let size = begins.more whole.told in
    absurd (omega (arith, size.1.2, size.2, whole.size.2))

-- it holds fewer bytes than the longest record
pub held_within : (s : ReaderState) → s.direction ≡ Up → IsOpen s → length s.held < longest Up
held_within s up is_open = begun_limit Up s.held (subst (λ (d : Direction). MayBecomeRecord d s.held) up is_open.beginning)

-- an open reader holds the beginning of a record, and so does one with the same bytes
pub begins_still : (old new : ReaderState) → old.direction ≡ Up → IsOpen old → new.held ≡ old.held → MayBecomeRecord Up new.held
begins_still old new up is_open same =
    subst (λ (h : List ℕ). MayBecomeRecord Up h) (sym same) (subst (λ (d : Direction). MayBecomeRecord d old.held) up is_open.beginning)

-- no record was counted, and the counts of records are unchanged
pub counted_kept : (a b : PortCounts) → b.reports ≡ a.reports → b.garbled ≡ a.garbled → b.unowned ≡ a.unowned → b.refused ≡ a.refused → a.garbled ≤ MAX_COUNT → a.unowned ≤ MAX_COUNT → a.refused ≤ MAX_COUNT → CountsRecords [] 0 a b
counted_kept a b reports garbled unowned refused small_garbled small_unowned small_refused = record {
  refusals = 0;
  all = refl;
  taken = omega (arith, reports);
  garbled = omega (arith, garbled, small_garbled);
  unowned = omega (arith, unowned, small_unowned);
  refused = omega (arith, refused, small_refused);
}

-- an earlier count of a map changes no count of records
pub counted_on : (a : PortCounts) (records : List UpRecord) (reports : ℕ) (b : PortCounts) → CountsRecords records reports (with_map a) b → CountsRecords records reports a b
counted_on a records reports b p = record { refusals = p.refusals; all = p.all; taken = p.taken; garbled = p.garbled; unowned = p.unowned; refused = p.refused }

count_garbled : (burst : UpRecord) (b : Bool) → is_garbled burst ≡ b → count_by is_garbled (burst ∷ []) ≡ cond b 1 0
count_garbled burst b is =
    let one : ◌≡◌ {A = ℕ} (cond (is_garbled burst) 1 0) (cond b 1 0) = ap (λ (v : Bool). cond v 1 0) is in
    omega (arith, one)

count_unowned : (burst : UpRecord) (b : Bool) → is_unowned burst ≡ b → count_by is_unowned (burst ∷ []) ≡ cond b 1 0
count_unowned burst b is =
    let one : ◌≡◌ {A = ℕ} (cond (is_unowned burst) 1 0) (cond b 1 0) = ap (λ (v : Bool). cond v 1 0) is in
    omega (arith, one)

-- one record without a sender
pub counted_garbled : (burst : UpRecord) (a b : PortCounts) → is_garbled burst ≡ true → b ≡ after_garbled burst.head a → a.refused ≤ MAX_COUNT → CountsRecords (burst ∷ []) 0 a b
counted_garbled burst a b is counts small =
    let one : count_by is_garbled (burst ∷ []) ≡ 1 = count_garbled burst true is in
    let owner : is_unowned burst ≡ is_some burst.head = ap (λ (g : Bool). g && is_some burst.head) is in
    let unowned : count_by is_unowned (burst ∷ []) ≡ cond (is_some burst.head) 1 0 = count_unowned burst (is_some burst.head) owner in record {
      refusals = 0;
      all = omega (arith, one);
      taken = omega (arith, ap (λ (k : PortCounts). k.reports) counts);
      garbled = omega (arith, one, ap (λ (k : PortCounts). k.garbled) counts);
      unowned = ap (λ (k : PortCounts). k.unowned) counts ∙ ap (λ k. min (a.unowned + k) MAX_COUNT) (sym unowned);
      refused = omega (arith, ap (λ (k : PortCounts). k.refused) counts, small);
    }

-- one record that the port took as a report
pub counted_taken : (burst : UpRecord) (a b : PortCounts) → is_garbled burst ≡ false → b ≡ after_report (Ok tt) a → a.garbled ≤ MAX_COUNT → a.unowned ≤ MAX_COUNT → a.refused ≤ MAX_COUNT → CountsRecords (burst ∷ []) 1 a b
counted_taken burst a b is counts small_garbled small_unowned small_refused =
    let none : count_by is_garbled (burst ∷ []) ≡ 0 = count_garbled burst false is in
    let owned : count_by is_unowned (burst ∷ []) ≡ 0 = count_unowned burst false (ap (λ (g : Bool). g && is_some burst.head) is) in record {
      refusals = 0;
      all = omega (arith, none);
      taken = omega (arith, ap (λ (k : PortCounts). k.reports) counts);
      garbled = omega (arith, none, ap (λ (k : PortCounts). k.garbled) counts, small_garbled);
      unowned = omega (arith, owned, ap (λ (k : PortCounts). k.unowned) counts, small_unowned);
      refused = omega (arith, ap (λ (k : PortCounts). k.refused) counts, small_refused);
    }

-- one report that the port refused
pub counted_refused : (burst : UpRecord) (fault : StepFault) (a b : PortCounts) → is_garbled burst ≡ false → b ≡ after_report (Err fault) a → a.garbled ≤ MAX_COUNT → a.unowned ≤ MAX_COUNT → CountsRecords (burst ∷ []) 0 a b
counted_refused burst fault a b is counts small_garbled small_unowned =
    let none : count_by is_garbled (burst ∷ []) ≡ 0 = count_garbled burst false is in
    let owned : count_by is_unowned (burst ∷ []) ≡ 0 = count_unowned burst false (ap (λ (g : Bool). g && is_some burst.head) is) in record {
      refusals = 1;
      all = omega (arith, none);
      taken = omega (arith, ap (λ (k : PortCounts). k.reports) counts);
      garbled = omega (arith, none, ap (λ (k : PortCounts). k.garbled) counts, small_garbled);
      unowned = omega (arith, owned, ap (λ (k : PortCounts). k.unowned) counts, small_unowned);
      refused = omega (arith, ap (λ (k : PortCounts). k.refused) counts);
    }
