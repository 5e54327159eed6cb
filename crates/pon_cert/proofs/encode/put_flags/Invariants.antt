use Rattle.std.proofs.Common.{◌≡◌, ◌++◌, take}
use Rattle.std.specs.Prelude.{map}
use Rattle.pon_cert.specs.Spelling.{flag_byte}
use Rattle.pon_cert.proofs.encode.put_flags.Given as goal

abbrev pub invariant-loop-flag : goal.invariant-loop-flag
invariant-loop-flag l = l.bytes.items ≡ l.initial.bytes.items ++ map flag_byte (take l.flag-index l.flags)
