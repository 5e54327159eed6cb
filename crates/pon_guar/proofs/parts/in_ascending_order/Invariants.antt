use Rattle.std.proofs.Common.{◌≡◌, ◌≤◌, drop, length}
use Rattle.pon_guar.specs.Parts.{AreApart, book_from}
use Rattle.pon_guar.proofs.parts.in_ascending_order.Given as goal

-- the book has the accounts from the index on
abbrev pub invariant-loop-place : goal.invariant-loop-place
invariant-loop-place l = (l.place ≤ length l.accounts) × AreApart (drop l.place l.accounts) × (l.book.items ≡ book_from (drop l.place l.accounts))

abbrev pub decreases-loop-place : goal.decreases-loop-place
decreases-loop-place l = l.place
