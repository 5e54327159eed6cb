use Rattle.std.proofs.Common.{◌≡◌, [], take}
use Rattle.std.specs.Prelude.{map, decimal, string_bytes}
use Rattle.std.specs.List.{join_with_byte}
use Rattle.pon_cert.specs.Spelling.{saturated_names}
use Rattle.pon_cert.proofs.print.set_text.Given as goal

-- the text so far is that of the names so far, and is empty only if there are none
abbrev pub invariant-loop-i : goal.invariant-loop-i
invariant-loop-i l = record {
  spelled : string_bytes l.text ≡ join_with_byte 44 (map decimal (saturated_names (take l.i l.names) (take l.i l.saturated)));
  none : string_bytes l.text ≡ [] → saturated_names (take l.i l.names) (take l.i l.saturated) ≡ [];
}
