-- The result of a function that reads.
use Rattle.std.specs.Prelude.{◌≡◌, Option, Some, None, Result, Ok, Err}
use Rattle.pon_record.specs.declared.fault.Malformed.{Malformed}
use Rattle.pon_record.specs.declared.fault.Stop.{Stop}
use Rattle.pon_record.specs.declared.fault.Stop.TheVariants as stop

-- the value that is read, seen by `view`; an error exactly when there is none
abbrev pub Reads : {X Y : Type 0} → (X → Y) → Result X Malformed → Option Y → Type 0
Reads view (Ok x) read = read ≡ Some (view x)
Reads view (Err e) read = read ≡ None

-- the error if there is no value, or if memory was refused
abbrev pub StopsAt : {Y : Type 0} → Stop → Option Y → Type 0
StopsAt stop.Malformed read = read ≡ None
StopsAt stop.Memory read = Unit {0}

-- as `Reads`, unless memory was refused
abbrev pub ReadsValue : {X Y : Type 0} → (X → Y) → Result X Stop → Option Y → Type 0
ReadsValue view (Ok x) read = read ≡ Some (view x)
ReadsValue view (Err e) read = StopsAt e read
