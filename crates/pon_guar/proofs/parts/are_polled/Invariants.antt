use Rattle.std.proofs.Common.{take}
use Rattle.pon_guar.proofs.RestoredParts.{ArePolled}
use Rattle.pon_guar.proofs.parts.are_polled.Given as goal

-- the ONUs so far are polled
abbrev pub invariant-loop-onu : goal.invariant-loop-onu
invariant-loop-onu l = ArePolled l.grants (take l.onu-index l.onus)
