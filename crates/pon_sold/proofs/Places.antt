-- The watches of Alloc-IDs, at their numbers.
use Rattle.std.proofs.Common.{◌≡◌, ℕ, zero, suc, List, drop, refl}
use Rattle.std.specs.Prelude.{nat_lt, if◌then◌else◌, replicate}
use Rattle.pon_bwmap.specs.Alloc.{Alloc}
use Rattle.pon_admit.specs.declared.row.Row.{Row}
use Rattle.pon_why.specs.declared.rates.RowRates.{RowRates}
use Rattle.pon_sold.specs.Watches.{after_rows, nothing, watch_in}
use Rattle.pon_sold.specs.declared.watch.Watch.{Watch}

-- nothing is known at any place
pub all_nothing : (n i : ℕ) → watch_in (replicate n nothing) i ≡ nothing
all_nothing zero i = refl
all_nothing (suc n) zero = refl
all_nothing (suc n) (suc i) = all_nothing n i

-- the places before an index have their new watches, the others the old ones
abbrev pub AreSet : (ℕ → Watch) → (ℕ → Watch) → List Watch → ℕ → Type 0
AreSet new old ws k = (i : ℕ) → watch_in ws i ≡ (if nat_lt i k then new i else old i)

-- the rows from an index on
abbrev pub after_from : ℕ → ℕ → List Row → List RowRates → List Alloc → Watch → Watch
after_from i k rows xs more w = after_rows i (drop k rows) (drop k xs) (drop k more) w
