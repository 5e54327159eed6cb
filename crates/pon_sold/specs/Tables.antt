-- What is known of each Alloc-ID in a table.
use Rattle.std.specs.Prelude.{ℕ}
use Rattle.pon_sold.specs.Watches.{watch_in}
use Rattle.pon_sold.specs.declared.watch.Watch.{Watch}
use Rattle.pon_sold.specs.declared.watches.Watches.{Watches}

-- of an Alloc-ID, at its number
abbrev pub watch_at : Watches → ℕ → Watch
watch_at ws i = watch_in ws.watches.items i
