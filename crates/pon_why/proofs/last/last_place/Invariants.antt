use Rattle.std.proofs.Common.{◌≡◌, ◌<◌, length, take}
use Rattle.std.specs.Prelude.{IfSome}
use Rattle.pon_why.specs.Lasts.{last_place}
use Rattle.pon_why.proofs.last.last_place.Given as goal

-- the last map of the entries so far
abbrev pub invariant-loop-index : goal.invariant-loop-index
invariant-loop-index l = (l.last ≡ last_place (take l.index l.entries)) × IfSome l.last (λ place. place < length l.entries)
