use Rattle.std.proofs.Common.{◌≡◌, take}
use Rattle.pon_c.specs.Arguments.{AreWords, occupancies_of}
use Rattle.pon_c.proofs.events.occupancies.Given as goal

abbrev pub invariant-loop-word : goal.invariant-loop-word
invariant-loop-word l = (l.occ ≡ occupancies_of (take l.word-index l.words)) × AreWords (take l.word-index l.words)
