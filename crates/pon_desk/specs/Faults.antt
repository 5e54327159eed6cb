-- The faults of a desk.
use Rattle.std.specs.Prelude.{ℕ, ◌≡◌, ◌<◌, ◌≤◌, ◌^◌, ◌⊎◌, List, length, sum_by, Result, Ok, Err}
use Rattle.pon_units.specs.declared.limits.TheConstants.{MAX_PORTS}
use Rattle.pon_admit.specs.declared.event.Event.{Event}
use Rattle.pon_history.specs.Chapters.{Chapter}
use Rattle.pon_plant.specs.declared.fault.StepFault.{StepFault}
use Rattle.pon_plant.specs.declared.fault.StepFault.TheVariants.{NoSuchPort, Refused}
use Rattle.pon_plant.specs.Plants.{IsPlantSize}
use Rattle.pon_desk.specs.Counts.{DeskSize, SeatState, AreSums, IsUneven, taken_of}
use Rattle.pon_desk.specs.Posts.{IsSomeRefusal, IsSomeTurnRefusal}
use Rattle.pon_desk.specs.declared.fault.CloseFault.{CloseFault}
use Rattle.pon_desk.specs.declared.fault.CloseFault.TheVariants.{Missing, Uneven}
use Rattle.pon_desk.specs.declared.fault.DeskFault.{DeskFault}
use Rattle.pon_desk.specs.declared.fault.DeskFault.TheVariants.{Ports, Entries, Memory}

-- a seat is missing: the desk and the seats are returned
pub record IsMissing (size : DeskSize) (seats : List SeatState) (desk : DeskSize) (back : List SeatState) : Type 0 where
  pub fewer : length seats < size.seats
  pub same_desk : desk ≡ size
  pub same_seats : back ≡ seats

-- all seats are given, and some port differs from the sum of their counts at it
pub record IsNotEven (size : DeskSize) (seats : List SeatState) (ports : List Chapter) (counts : List ℕ) : Type 0 where
  pub all_seats : length seats ≡ size.seats
  pub all_ports : length ports ≡ size.ports
  pub sums : AreSums counts size.ports seats
  pub uneven : IsUneven ports counts

-- the fault if a desk of this size is not closed with these seats
abbrev pub TellsClosing : {L M : Type 0} → DeskSize → List SeatState → CloseFault L M → Type 0
TellsClosing size seats (Missing desk back) = IsMissing size seats desk back.items
TellsClosing size seats (Uneven ports counts) = IsNotEven size seats ports.items counts.items

abbrev pub IsNoSuchPort : {T : Type 0} → Result T StepFault → Type 0
IsNoSuchPort (Ok t) = ⊥
IsNoSuchPort (Err NoSuchPort) = Unit {0}
IsNoSuchPort (Err (Refused refusal)) = ⊥

-- the fault if an event is not posted; when there is no such port is stated elsewhere
abbrev pub TellsRefusal : Event → StepFault → Type 0
TellsRefusal event NoSuchPort = Unit {0}
TellsRefusal event (Refused told) = IsSomeRefusal event told

-- the fault if a port is not turned; when there is no such port is stated elsewhere
abbrev pub TellsTurn : StepFault → Type 0
TellsTurn NoSuchPort = Unit {0}
TellsTurn (Refused told) = IsSomeTurnRefusal told

-- why the entries of ports are not counted at a desk
abbrev pub TellsCounting : List Chapter → DeskFault → Type 0
TellsCounting ports Ports = ⊥
TellsCounting ports Entries = 2 ^ 64 ≤ sum_by taken_of ports
TellsCounting ports Memory = Unit {0}

-- why no desk has these ports, which may have taken entries before
abbrev pub TellsResuming : List Chapter → DeskFault → Type 0
TellsResuming ports Ports = (length ports ≡ 0) ⊎ (MAX_PORTS < length ports)
TellsResuming ports Entries = IsPlantSize (length ports) × (2 ^ 64 ≤ sum_by taken_of ports)
TellsResuming ports Memory = IsPlantSize (length ports)
