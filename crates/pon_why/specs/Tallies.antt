-- What the tallies of maps hold for an Alloc-ID.
use Rattle.std.specs.Prelude.{ℕ}
use Rattle.pon_why.specs.Sums.{sums_in}
use Rattle.pon_why.specs.declared.alloc_tallies.AllocTallies.{AllocTallies}
use Rattle.pon_why.specs.declared.sums.Sums.{Sums}

abbrev pub sums_at : AllocTallies → ℕ → Sums
sums_at t i = sums_in i t.tallies.items
