use Rattle.std.proofs.Common.{◌≡◌, ◌*◌, drop, rules, refl}
use Rattle.std.specs.Int.{w64, from_be_bytes}
use Rattle.pon_bwmap.proofs.decode.read_structure.Goals as goal

pub returns-in-Err-clause-fault : goal.returns-in-Err-clause-fault
returns-in-Err-clause-fault c =
    let word : c.from_be_bytes.result ≡ from_be_bytes w64 (drop (8 * c.args.k) c.args.bytes.now) = search rules in
    (refl, λ m n r. c.in-Err.ensures.fault.0 refl m n (rw word r))
