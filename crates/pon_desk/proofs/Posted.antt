-- What a post adds to the counts.
use Rattle.std.proofs.Common.{◌≡◌, ◌+◌, ◌<◌, List, [], ◌∷◌, length, length-append, ap, arith, ℕ}
use Rattle.std.specs.Prelude.{slice_index, slice_set, sum}
use Rattle.std.proofs.lemmas.List.Sums.{sum_by-set}
use Rattle.pon_admit.specs.declared.event.Event.{Event}
use Rattle.pon_history.specs.Chapters.{Chapter}
use Rattle.pon_desk.specs.Counts.{taken_of}
use Rattle.pon_desk.specs.Posts.{IsPosted}
use Rattle.pon_desk.specs.declared.receipt.Placed.{Placed}

-- the port took one more entry
pub posted_count : (old : Chapter) (event : Event) (placed : Placed) (new : Chapter) → IsPosted old event placed new → taken_of new ≡ taken_of old + 1
posted_count old event placed new p = omega (arith, ap taken_of p.takes.kept, length-append old.entries (record { event = event; reply = placed.entry.reply } ∷ []))

-- one more is counted at a port
pub counted_sum : (counts : List ℕ) (p : ℕ) → p < length counts → sum (slice_set counts p (slice_index counts p + 1)) ≡ sum counts + 1
counted_sum counts p below = omega (arith, sum_by-set (λ (n : ℕ). n) counts p (slice_index counts p + 1) 0 below)
