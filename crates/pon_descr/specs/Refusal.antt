-- The text of a refusal: its number, its name, and a cause.
use Rattle.std.specs.Prelude.{ℕ, List, ◌++◌, codes, decimal}
use Rattle.pon_descr.specs.declared.refusal.Refusal.{Refusal}
use Rattle.pon_descr.specs.declared.refusal.Refusal.TheVariants.{NoSuchAlloc, AllocTaken, AllocRange, OnuRange, RateRange, MaxBelowGuaranteed, NeedsGuarantee, NoSurplusRoom, TooManyAllocs, TooManyOnus, SeriesFull, Capacity, StaleFrame, NotPolled, ReportCount, AlreadyReported, PortDown, PortUp, FrameLimit, ChapterFull, OutOfMemory}

abbrev pub refusal_text : Refusal → List ℕ
refusal_text NoSuchAlloc = codes "E01 NoSuchAlloc"
refusal_text AllocTaken = codes "E02 AllocTaken"
refusal_text AllocRange = codes "E03 AllocRange"
refusal_text OnuRange = codes "E04 OnuRange"
refusal_text RateRange = codes "E05 RateRange"
refusal_text MaxBelowGuaranteed = codes "E06 MaxBelowGuaranteed"
refusal_text NeedsGuarantee = codes "E07 NeedsGuarantee"
refusal_text NoSurplusRoom = codes "E08 NoSurplusRoom"
refusal_text TooManyAllocs = codes "E09 TooManyAllocs"
refusal_text TooManyOnus = codes "E10 TooManyOnus"
refusal_text SeriesFull = codes "E11 SeriesFull"
refusal_text Capacity = codes "E12 Capacity"
refusal_text StaleFrame = codes "E13 StaleFrame"
refusal_text NotPolled = codes "E14 NotPolled"
refusal_text ReportCount = codes "E15 ReportCount"
refusal_text AlreadyReported = codes "E16 AlreadyReported"
refusal_text (PortDown cause) = codes "E17 PortDown " ++ decimal cause
refusal_text PortUp = codes "E18 PortUp"
refusal_text FrameLimit = codes "E19 FrameLimit"
refusal_text ChapterFull = codes "E20 ChapterFull"
refusal_text OutOfMemory = codes "E21 OutOfMemory"
