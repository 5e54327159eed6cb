-- The readings of lines that are read in parts.
use Rattle.std.specs.Prelude.{◌≡◌, ℕ, true, false, IfSome, List, Option, Err}
use Rattle.pon_admit.specs.declared.event.Event.{Event}
use Rattle.pon_admit.specs.declared.event.Event.TheVariants.{Admit, Change, Fail, MakeMap, Remove, Report, Restore}
use Rattle.pon_text.specs.Lines.{words_of}
use Rattle.pon_line.specs.Commands.{is_miscounted, occupancy_fields}
use Rattle.pon_line.specs.Reading.{Asked, request_of}
use Rattle.pon_line.specs.declared.occupancies.NoOccupancies.{NoOccupancies}
use Rattle.pon_line.specs.declared.occupancies.TheConstants.{OCCUPANCY}
use Rattle.pon_line.specs.declared.reading.Front.{Front}
use Rattle.pon_line.specs.declared.reading.FrameCommand.{FrameCommand}
use Rattle.pon_line.specs.declared.reading.Reading.{Reading}
use Rattle.pon_line.specs.declared.reading.Reading.TheVariants.{Nothing, Refused, Asks}

-- why the occupancies of a report are refused: their number, or else the first word that writes none
abbrev pub FailsBy : List (List ℕ) → NoOccupancies → Type 0
FailsBy ws NoOccupancies.Count = is_miscounted ws ≡ true
FailsBy ws (NoOccupancies.Word refusal) = (is_miscounted ws ≡ false) × (occupancy_fields OCCUPANCY ws ≡ Err refusal)

-- the reading of a line of this front
abbrev pub goes_on : Front → Reading
goes_on Front.Nothing = Nothing
goes_on (Front.Refused refusal) = Refused refusal
goes_on (Front.Names port rest) = request_of port (words_of rest.now)

-- the reading of a line that each frame brings, with the occupancies of its report
abbrev pub asks_in : FrameCommand → List (Option ℕ) → Reading
asks_in (FrameCommand.Map port) ns = Asks port MakeMap
asks_in (FrameCommand.Report port frame onu) ns = Asks port (Report frame onu ns)

-- neither a request for a map nor a report
abbrev pub IsOtherEvent : Event → Type 0
IsOtherEvent (Admit r) = Unit {0}
IsOtherEvent (Change alloc d) = Unit {0}
IsOtherEvent (Remove alloc) = Unit {0}
IsOtherEvent (Report frame onu ns) = ⊥
IsOtherEvent MakeMap = ⊥
IsOtherEvent (Fail cause) = Unit {0}
IsOtherEvent Restore = Unit {0}

-- the reading of a line that is none of those that each frame brings
abbrev pub IsOtherReading : Reading → Type 0
IsOtherReading r = Asked (λ port event. IfSome event IsOtherEvent) r
