use Rattle.std.proofs.Common.{◌<◌, All, arith}
use Rattle.std.proofs.lemmas.List.Elements.{All-from_get_or}
use Rattle.pon_bwmap.proofs.OneMap.{one_map, no_fault}
use Rattle.pon_record_tests.proofs.maps.written.read_whole.Goals as goal

pub returns-in-Ok-clause-ok : goal.returns-in-Ok-clause-ok
returns-in-Ok-clause-ok c rows corrected used r =
    let all : All (λ b. b < 256) c.args.bytes.now = All-from_get_or (λ b. b < 256) c.args.bytes.now 0 (λ i lt. omega (arith, c.type_inv.bytes i)) in
    (one_map c.args.bytes.now c.in-Ok.map rows _ corrected _ used all c.in-Ok.ensures.ok r).0

pub returns-in-Err-clause-err : goal.returns-in-Err-clause-err
returns-in-Err-clause-err c rows corrected used r =
    let all : All (λ b. b < 256) c.args.bytes.now = All-from_get_or (λ b. b < 256) c.args.bytes.now 0 (λ i lt. omega (arith, c.type_inv.bytes i)) in
    no_fault c.args.bytes.now rows corrected used c.in-Err.fault all r c.in-Err.ensures.fault
