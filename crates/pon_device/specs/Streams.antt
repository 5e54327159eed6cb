-- The effect of reading and writing a text on a device, by the result.
use Rattle.std.specs.Prelude.{◌≡◌, ℕ, ◌+◌, ◌-◌, ◌%◌, ◌^◌, ◌⊎◌, List, [], ◌∷◌, ◌++◌, Option, Some, None, Result, Ok, Err}
use Rattle.pon_device.specs.Device.{Appends, Consumes, Keeps, IsAtEnd}
use Rattle.pon_device.specs.declared.fault.DeviceFault.{DeviceFault}
use Rattle.pon_device.specs.declared.fault.DeviceFault.TheVariants.{Read, Write, Memory}

-- a prefix of a text, possibly empty or the whole text
abbrev pub IsBeginning : List ℕ → List ℕ → Type 0
IsBeginning part text = (rest : List ℕ) × (part ++ rest ≡ text)

-- the next byte, or the end
abbrev pub GivesByte : {E : Type 0} → Option (List ℕ) → Option (List ℕ) → Result (Option ℕ) E → Type 0
GivesByte old new (Ok None) = Consumes old new [] × IsAtEnd new
GivesByte old new (Ok (Some b)) = Consumes old new (b ∷ [])
GivesByte old new (Err e) = Keeps old new

-- the text was written, or a prefix of it if the writer failed
abbrev pub TellsLine : List ℕ → Option (List ℕ) → Option (List ℕ) → Result (Unit {0}) DeviceFault → Type 0
TellsLine line old new (Ok done) = Appends old new line
TellsLine line old new (Err Write) = (sent : List ℕ) × Appends old new sent × IsBeginning sent line
TellsLine line old new (Err Read) = ⊥
TellsLine line old new (Err Memory) = ⊥

-- the device failed once in this call
abbrev pub FailedOnce : ℕ → ℕ → Type 0
FailedOnce old new = new ≡ (old + 1) % 2 ^ 64

-- `Read` only if a read failed, or 2 ^ 64 - 1 reads were made
abbrev pub TellsRead : {T : Type 0} → ℕ → ℕ → ℕ → ℕ → Result T DeviceFault → Type 0
TellsRead calls_old calls_new failures_old failures_new (Err Read) =
    FailedOnce failures_old failures_new ⊎ ((failures_new ≡ failures_old) × (calls_new ≡ (calls_old + (2 ^ 64 - 1)) % 2 ^ 64))
TellsRead calls_old calls_new failures_old failures_new (Ok end) = failures_new ≡ failures_old
TellsRead calls_old calls_new failures_old failures_new (Err Write) = failures_new ≡ failures_old
TellsRead calls_old calls_new failures_old failures_new (Err Memory) = failures_new ≡ failures_old

-- `Write` exactly when a write failed
abbrev pub TellsWrite : {T : Type 0} → ℕ → ℕ → Result T DeviceFault → Type 0
TellsWrite old new (Err Write) = FailedOnce old new
TellsWrite old new (Err Read) = new ≡ old
TellsWrite old new (Err Memory) = new ≡ old
TellsWrite old new (Ok end) = new ≡ old
