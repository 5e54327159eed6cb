-- The lines at the end of a run: what each port did.
use Rattle.std.specs.Prelude.{ℕ, suc, ◌≡◌, List, [], ◌∷◌, ◌++◌, codes, decimal, Option, Result, Ok, Err}
use Rattle.pon_history.specs.Chapters.{Chapter}
use Rattle.pon_desk.specs.Counts.{taken_of}
use Rattle.pon_worker.specs.declared.counts.WorkerEnd.{WorkerEnd}
use Rattle.pon_device.specs.Streams.{TellsLine}
use Rattle.pon_device.specs.declared.fault.DeviceFault.{DeviceFault}
use Rattle.pon_device.specs.declared.fault.DeviceFault.TheVariants.{Read, Write, Memory}
use Rattle.pon_run.specs.declared.end.PortEnd.{PortEnd}

-- what a port and its worker did, before dropped chapters are counted
abbrev pub end_of : Chapter → WorkerEnd → PortEnd
end_of kept worker = record { counts = worker.counts; entries = taken_of kept; dropped = 0 }

-- what each port did, from the chapters that the ports keep and the ends of their workers, in order
abbrev pub ends_of : List Chapter → List WorkerEnd → List PortEnd
ends_of [] workers = []
ends_of (k ∷ ks) [] = []
ends_of (k ∷ ks) (w ∷ ws) = end_of k w ∷ ends_of ks ws

-- an end without its dropped chapters
abbrev pub without_dropped : PortEnd → PortEnd
without_dropped end = record { counts = end.counts; entries = end.entries; dropped = 0 }

-- the ends with these numbers of dropped chapters, in order; an end without a number is unchanged
abbrev pub with_dropped : List PortEnd → List ℕ → List PortEnd
with_dropped [] counts = []
with_dropped (e ∷ es) [] = e ∷ with_dropped es []
with_dropped (e ∷ es) (n ∷ ns) = (record { counts = e.counts; entries = e.entries; dropped = n }) ∷ with_dropped es ns

-- port P maps M entries E reports R dropped D, and a line feed
abbrev pub line_of : ℕ → PortEnd → List ℕ
line_of port end =
    codes "port " ++ (decimal port ++ (codes " maps " ++ (decimal end.counts.maps
    ++ (codes " entries " ++ (decimal end.entries ++ (codes " reports " ++ (decimal end.counts.reports
    ++ (codes " dropped " ++ (decimal end.dropped ++ 10 ∷ [])))))))))

-- a line for each port, numbered from this number on
abbrev pub lines_from : ℕ → List PortEnd → List ℕ
lines_from port [] = []
lines_from port (end ∷ ends) = line_of port end ++ lines_from (suc port) ends

-- the lines of all ports were written, or a prefix of them, or none if memory was refused
abbrev pub TellsEnds : List PortEnd → Option (List ℕ) → Option (List ℕ) → Result (Unit {0}) DeviceFault → Type 0
TellsEnds ends old new (Err Memory) = new ≡ old
TellsEnds ends old new (Err Read) = TellsLine (lines_from 0 ends) old new (Err Read)
TellsEnds ends old new (Err Write) = TellsLine (lines_from 0 ends) old new (Err Write)
TellsEnds ends old new (Ok done) = TellsLine (lines_from 0 ends) old new (Ok done)
