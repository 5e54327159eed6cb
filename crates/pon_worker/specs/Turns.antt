-- The work of a worker at its port and on its link: the maps that it had made and sent, and the bursts that it read.
use Rattle.std.specs.Prelude.{ℕ, ◌≡◌, ◌≢◌, ◌+◌, ◌<◌, ◌≤◌, ◌↔◌, ◌⊎◌, Bool, false, true, List, [], ◌∷◌, ◌++◌, All, IfSome, count_by, flat_map, is_some, length, slice_index, MatchResult, Option, None, Some, Result, Err}
use Rattle.pon_device.specs.Device.{Appends}
use Rattle.pon_bwmap.specs.Alloc.{Alloc}
use Rattle.pon_admit.specs.declared.event.Event.{Event}
use Rattle.pon_admit.specs.declared.event.Event.TheVariants.{Fail, MakeMap, Report}
use Rattle.pon_state.specs.declared.reply.Reply.TheVariants.{Map}
use Rattle.pon_state.specs.declared.reply.MadeMap.{MadeMap}
use Rattle.pon_descr.specs.declared.refusal.Refusal.{Refusal}
use Rattle.pon_descr.specs.declared.refusal.Refusal.TheVariants.{OutOfMemory}
use Rattle.pon_plant.specs.declared.fault.StepFault.{StepFault}
use Rattle.pon_plant.specs.declared.fault.StepFault.TheVariants as step
use Rattle.pon_device.specs.Streams.{IsBeginning}
use Rattle.pon_desk.specs.Counts.{SeatState}
use Rattle.pon_desk.specs.Faults.{IsNoSuchPort, TellsRefusal}
use Rattle.pon_lists.specs.Kept.{AddsTo}
use Rattle.pon_desk.specs.Posts.{IsSomePost, IsSomeRefusal}
use Rattle.pon_desk.specs.Receipts.{Receipt}
use Rattle.pon_link.specs.DownRecords.{down_bytes}
use Rattle.pon_link.specs.declared.record.UpRecord.{UpRecord}
use Rattle.pon_link.specs.Reading.{ReaderState}
use Rattle.pon_worker.specs.Records.{CountsRecords, FailsInRow, HasRead, StopsFor, is_garbled, is_nobodys}
use Rattle.pon_worker.specs.declared.causes.TheConstants.{WRITE_FAILED}
use Rattle.pon_worker.specs.declared.counts.PortCounts.{PortCounts}
use Rattle.pon_worker.specs.declared.counts.StopReason.{StopReason}
use Rattle.pon_worker.specs.declared.counts.StopReason.TheVariants.{Finished, Gave, GateLimit, Refused}

-- the number of posts at a port increased by n, and at no other port
pub record RaisedAt (port n : ℕ) (old new : SeatState) : Type 0 where
  pub size : length new.counts ≡ length old.counts
  pub here : slice_index new.counts port ≡ slice_index old.counts port + n
  pub others : (p : ℕ) → p ≢ port → slice_index new.counts p ≡ slice_index old.counts p

-- a port with a lawful chapter accepted this event, by a receipt that names this port
pub record IsPostAt (port : ℕ) (event : Event) (receipt : Receipt) : Type 0 where
  pub at_port : receipt.port ≡ port
  pub accepted : IsSomePost event receipt

-- an event was posted at a port and accepted, and the seat was given its receipt
pub record KeepsPost (port : ℕ) (event : Event) (old new : SeatState) : Type 0 where
  pub receipt : Receipt
  pub is_post : IsPostAt port event receipt
  pub raised : RaisedAt port 1 old new
  pub kept : AddsTo old.receipts receipt new.receipts

-- these receipts are kept after the others, in order, or all are given up since memory is refused; if none are kept,
-- none are
abbrev pub KeepsAll : Option (List Receipt) → List Receipt → Option (List Receipt) → Type 0
KeepsAll None given new = new ≡ None
KeepsAll (Some kept) given new = (new ≡ Some (kept ++ given)) ⊎ ((new ≡ None) × (0 < length given))

-- the port took a record as the report of its sender, by this receipt
pub record TakesReport (port : ℕ) (burst : UpRecord) (receipt : Receipt) : Type 0 where
  pub onu : ℕ
  pub sent_by : IfSome burst.head (λ h. h.onu_raw ≡ onu)
  pub sender : is_nobodys burst.head ≡ false
  pub is_post : IsPostAt port (Report burst.frame onu burst.occ) receipt

-- the port refused a record as the report of its sender, for this reason
pub record RefusesReport (burst : UpRecord) (told : Refusal) : Type 0 where
  pub onu : ℕ
  pub sent_by : IfSome burst.head (λ h. h.onu_raw ≡ onu)
  pub sender : is_nobodys burst.head ≡ false
  pub refused : IsSomeRefusal (Report burst.frame onu burst.occ) told

-- of these records the port took some as reports, by these receipts, and refused others, for these reasons, both in
-- order; the rest are without a sender
abbrev pub TakesReports : ℕ → List UpRecord → List Receipt → List Refusal → Type 0
TakesReports port [] receipts refusals = (receipts ≡ []) × (refusals ≡ [])
TakesReports port (burst ∷ bursts) receipts refusals =
    ((is_garbled burst ≡ true) × TakesReports port bursts receipts refusals)
    ⊎ ((first : Receipt) × (rest : List Receipt) × (receipts ≡ first ∷ rest) × TakesReport port burst first × TakesReports port bursts rest refusals)
    ⊎ ((first : Refusal) × (rest : List Refusal) × (refusals ≡ first ∷ rest) × RefusesReport burst first × TakesReports port bursts receipts rest)

-- a refusal by a check, while memory was there
abbrev pub IsNotMemory : Refusal → Type 0
IsNotMemory told = told ≢ OutOfMemory

-- the report of the last of these records was refused since memory was; of the records before it the port took these
-- reports, and refused none for that reason
pub record LacksMemory (port : ℕ) (records : List UpRecord) (reports : List Receipt) : Type 0 where
  pub before : List UpRecord
  pub last : UpRecord
  pub refusals : List Refusal
  pub are : records ≡ before ++ last ∷ []
  pub takes : TakesReports port before reports refusals
  pub others : All IsNotMemory refusals
  pub refused : RefusesReport last OutOfMemory

-- the seat counts at least as many posts at a port as maps and reports are counted
abbrev pub CoversCounts : ℕ → SeatState → PortCounts → Type 0
CoversCounts port seat counts = counts.maps + counts.reports ≤ slice_index seat.counts port

-- a record is counted: it is without a sender, or its report was posted, and the port took it or a check refused it
pub record PostsRecord (port : ℕ) (burst : UpRecord) (old new : PortCounts) (seat_old seat_new : SeatState) : Type 0 where
  pub reports : List Receipt
  pub refusals : List Refusal
  pub takes : TakesReports port (burst ∷ []) reports refusals
  pub memory : All IsNotMemory refusals
  pub counted : CountsRecords (burst ∷ []) (length reports) old new
  pub kept : KeepsAll seat_old.receipts reports seat_new.receipts

-- a record is counted whose report was refused since memory was
pub record LacksReport (burst : UpRecord) (old new : PortCounts) (seat_old seat_new : SeatState) : Type 0 where
  pub refused : RefusesReport burst OutOfMemory
  pub counted : CountsRecords (burst ∷ []) 0 old new
  pub same : seat_new ≡ seat_old

-- the bytes of the downstream record of a map
abbrev pub map_record : MadeMap → List ℕ
map_record made = down_bytes made.frame made.map

-- a structure that begins a burst
abbrev pub begins_burst : Alloc → Bool
begins_burst row = is_some row.start

-- the number of bursts of a map
abbrev pub bursts_of : MadeMap → ℕ
bursts_of made = count_by begins_burst made.map

-- a turn: the map, the receipt of its post, the bytes that were written of its record, the records that were read, the
-- receipts of those that the port took as reports, and the reasons why it refused others
pub record Turn : Type 0 where
  pub made : MadeMap
  pub receipt : Receipt
  pub sent : List ℕ
  pub records : List UpRecord
  pub reports : List Receipt
  pub refusals : List Refusal

-- the port made the map, with the whole promise of a map, and took and refused these reports
pub record IsTurn (port : ℕ) (turn : Turn) : Type 0 where
  pub is_post : IsPostAt port MakeMap turn.receipt
  pub reply : turn.receipt.placed.entry.reply ≡ Map turn.made
  pub takes : TakesReports port turn.records turn.reports turn.refusals

-- the receipts of the posts of a turn, in order
abbrev pub receipts_in : Turn → List Receipt
receipts_in turn = turn.receipt ∷ turn.reports

-- turns one after another: the bytes that were written and read, those of a further record last, the counts, and the
-- receipts that the seat was given
pub record Worked (port : ℕ) (turns : List Turn) (held : List ℕ) (old new : PortCounts) (seat_old seat_new : SeatState)
    (held_old held_new left_old left_new : Option (List ℕ)) : Type 0 where
  pub each : All (IsTurn port) turns
  pub maps : new.maps ≡ old.maps + length turns
  pub wrote : Appends held_old held_new (flat_map (λ t. t.sent) turns)
  pub counted : CountsRecords (flat_map (λ t. t.records) turns) (length (flat_map (λ t. t.reports) turns)) old new
  pub read : HasRead (flat_map (λ t. t.records) turns) held left_old left_new
  pub kept : KeepsAll seat_old.receipts (flat_map receipts_in turns) seat_new.receipts

-- the record of the map is written whole, a record is read for each of its bursts, and memory is refused for no report
pub record IsWholeTurn (turn : Turn) : Type 0 where
  pub wrote : turn.sent ≡ map_record turn.made
  pub read : length turn.records ≡ bursts_of turn.made
  pub memory : All IsNotMemory turn.refusals

-- whole turns
pub record Turned (port : ℕ) (old new : PortCounts) (seat_old seat_new : SeatState) (held_old held_new left_old left_new : Option (List ℕ)) : Type 0 where
  pub turns : List Turn
  pub worked : Worked port turns [] old new seat_old seat_new held_old held_new left_old left_new
  pub whole : All IsWholeTurn turns

-- why no burst of a map is read, and what was written of its record: nothing or all of it if the gate held the worker,
-- or a prefix if writes failed
abbrev pub CutsSending : StopReason → MadeMap → List ℕ → Type 0
CutsSending Finished made sent = ⊥
CutsSending (Gave cause) made sent = (cause ≡ WRITE_FAILED) × IsBeginning sent (map_record made)
CutsSending GateLimit made sent = (sent ≡ []) ⊎ (sent ≡ map_record made)
CutsSending (Refused fault) made sent = ⊥

-- if the link is given up, the writer failed in a row, after these bytes
abbrev pub FailsSending : StopReason → ℕ → ℕ → ℕ → Type 0
FailsSending (Gave cause) bytes old new = FailsInRow bytes old new
FailsSending _ bytes old new = Unit {0}

-- why no further one of this number of bursts is read, after these records with these reports and refusals: the next
-- record is not there, for this cause, or memory was refused for the report of the last one
abbrev pub StopsReading : ℕ → ℕ → StopReason → List UpRecord → List Receipt → List Refusal → ReaderState → Option (List ℕ) → Type 0
StopsReading port bursts Finished records reports refusals reader left = ⊥
StopsReading port bursts (Gave cause) records reports refusals reader left =
    (length records < bursts) × All IsNotMemory refusals × StopsFor cause reader left
StopsReading port bursts GateLimit records reports refusals reader left = ⊥
StopsReading port bursts (Refused fault) records reports refusals reader left =
    (fault ≡ step.Refused OutOfMemory) × (length records ≤ bursts) × (reader.held ≡ []) × LacksMemory port records reports

-- records were read and counted, and their reports posted: one record for each of this number of bursts, while memory was
-- refused for no report, or the reading ended for this reason
pub record ReadsBursts (port bursts : ℕ) (result : Result (Unit {0}) StopReason) (seat_old seat_new : SeatState) (old new : PortCounts) (reader : ReaderState) (left_old left_new : Option (List ℕ)) : Type 0 where
  pub records : List UpRecord
  pub reports : List Receipt
  pub refusals : List Refusal
  pub takes : TakesReports port records reports refusals
  pub counted : CountsRecords records (length reports) old new
  pub read : HasRead records reader.held left_old left_new
  pub kept : KeepsAll seat_old.receipts reports seat_new.receipts
  pub ends : MatchResult result (λ done. (length records ≡ bursts) × All IsNotMemory refusals)
      (λ why. StopsReading port bursts why records reports refusals reader left_new)

-- the record of the map is written whole, and the reading of its bursts ended for this reason
pub record CutsReading (port : ℕ) (why : StopReason) (turn : Turn) (held : List ℕ) (left : Option (List ℕ)) : Type 0 where
  pub wrote : turn.sent ≡ map_record turn.made
  pub reader : ReaderState
  pub holds : reader.held ≡ held
  pub stops : StopsReading port (bursts_of turn.made) why turn.records turn.reports turn.refusals reader left

-- a turn is cut short for this reason, after its map was made: before any burst is read, or while they are
abbrev pub IsCutBy : ℕ → StopReason → Turn → List ℕ → Option (List ℕ) → Type 0
IsCutBy port why turn held left =
    (CutsSending why turn.made turn.sent × (turn.records ≡ []) × (held ≡ [])) ⊎ CutsReading port why turn held left

-- whole turns, and one that was cut short for this reason
pub record Stopped (port : ℕ) (why : StopReason) (old new : PortCounts) (seat_old seat_new : SeatState) (held_old held_new left_old left_new : Option (List ℕ)) : Type 0 where
  pub turns : List Turn
  pub last : Turn
  pub held : List ℕ
  pub worked : Worked port (turns ++ last ∷ []) held old new seat_old seat_new held_old held_new left_old left_new
  pub whole : All IsWholeTurn turns
  pub cut : IsCutBy port why last held left_new

-- the posts at a port are the maps and the reports counted meanwhile, and a number of others
pub record PostsAt (port others : ℕ) (seat_old seat_new : SeatState) (old new : PortCounts) : Type 0 where
  pub posts : ℕ
  pub raised : RaisedAt port posts seat_old seat_new
  pub are : posts + old.maps + old.reports ≡ new.maps + new.reports + others

-- all counts 0
abbrev pub no_counts : PortCounts
no_counts = record { maps = 0; reports = 0; garbled = 0; unowned = 0; refused = 0 }

-- the desk made no map, for this reason: `NoSuchPort` exactly if it has no such port
pub record MakesNoMap (port ports : ℕ) (fault : StepFault) : Type 0 where
  pub refused : TellsRefusal MakeMap fault
  pub no_such : IsNoSuchPort {T = Unit {0}} (Err fault) ↔ ports ≤ port

-- turns that ended for this reason: whole turns if they are over or the desk, with this number of ports, made no map;
-- otherwise one was cut short after them, also if a report was refused since memory was
abbrev pub EndsAs : ℕ → ℕ → StopReason → PortCounts → PortCounts → SeatState → SeatState → Option (List ℕ) → Option (List ℕ) → Option (List ℕ) → Option (List ℕ) → Type 0
EndsAs port ports Finished old new seat_old seat_new held_old held_new left_old left_new =
    Turned port old new seat_old seat_new held_old held_new left_old left_new
EndsAs port ports (Refused fault) old new seat_old seat_new held_old held_new left_old left_new =
    (MakesNoMap port ports fault × Turned port old new seat_old seat_new held_old held_new left_old left_new)
    ⊎ Stopped port (Refused fault) old new seat_old seat_new held_old held_new left_old left_new
EndsAs port ports why old new seat_old seat_new held_old held_new left_old left_new =
    Stopped port why old new seat_old seat_new held_old held_new left_old left_new

-- after its turns a worker that gave up its link posted the failure of its port for that cause, and the seat was given
-- the receipt, or that was refused; any other worker posted nothing
abbrev pub PostsEnd : ℕ → StopReason → SeatState → SeatState → Type 0
PostsEnd port (Gave cause) old new = KeepsPost port (Fail cause) old new ⊎ (new ≡ old)
PostsEnd port _ old new = new ≡ old

-- the maximum number of posts besides the counted ones: one, for the failure of the port, if the link was given up
abbrev pub most_others : StopReason → ℕ
most_others (Gave cause) = 1
most_others _ = 0
