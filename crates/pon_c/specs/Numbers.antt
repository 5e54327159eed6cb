-- The numbers that C gets for refusals.
use Rattle.std.specs.Prelude.{ℕ}
use Rattle.pon_descr.specs.declared.refusal.Refusal.{Refusal}
use Rattle.pon_descr.specs.declared.refusal.Refusal.TheVariants.{NoSuchAlloc, AllocTaken, AllocRange, OnuRange, RateRange, MaxBelowGuaranteed, NeedsGuarantee, NoSurplusRoom, TooManyAllocs, TooManyOnus, SeriesFull, Capacity, StaleFrame, NotPolled, ReportCount, AlreadyReported, PortDown, PortUp, FrameLimit, ChapterFull, OutOfMemory}

abbrev pub number_of : Refusal → ℕ
number_of NoSuchAlloc = 1
number_of AllocTaken = 2
number_of AllocRange = 3
number_of OnuRange = 4
number_of RateRange = 5
number_of MaxBelowGuaranteed = 6
number_of NeedsGuarantee = 7
number_of NoSurplusRoom = 8
number_of TooManyAllocs = 9
number_of TooManyOnus = 10
number_of SeriesFull = 11
number_of Capacity = 12
number_of StaleFrame = 13
number_of NotPolled = 14
number_of ReportCount = 15
number_of AlreadyReported = 16
number_of (PortDown cause) = 17
number_of PortUp = 18
number_of FrameLimit = 19
number_of ChapterFull = 20
number_of OutOfMemory = 21
