-- The failures of the reader and the writer of a view.
use Rattle.std.specs.Prelude.{◌≡◌, ℕ, Result, Ok, Err}
use Rattle.pon_device.specs.Streams.{FailedOnce}
use Rattle.pon_device.specs.declared.fault.DeviceFault.{DeviceFault}
use Rattle.pon_device.specs.declared.fault.DeviceFault.TheVariants.{Read, Write, Memory}

-- `Write` exactly when a write failed, and nothing is read
abbrev pub OnlyWrites : {T : Type 0} → ℕ → ℕ → Result T DeviceFault → Type 0
OnlyWrites old new (Err Write) = FailedOnce old new
OnlyWrites old new (Err Read) = ⊥
OnlyWrites old new (Err Memory) = new ≡ old
OnlyWrites old new (Ok shown) = new ≡ old

-- `Read` exactly when a read failed
abbrev pub CountsReads : {T : Type 0} → ℕ → ℕ → Result T DeviceFault → Type 0
CountsReads old new (Err Read) = FailedOnce old new
CountsReads old new (Err Write) = new ≡ old
CountsReads old new (Err Memory) = new ≡ old
CountsReads old new (Ok shown) = new ≡ old
