use Rattle.std.proofs.Common.{◌≡◌, rules, arith, Ok, ap, refl}
use Rattle.std.specs.Int.{w32, from_be_bytes}
use Rattle.pon_xgtc.specs.Header.{ReadsHeader}
use Rattle.pon_xgtc.specs.declared.fault.HeadFault.TheVariants.{Hec}
use Rattle.pon_xgtc.proofs.HeaderReading.{written_opens, written_has_no_fault}
use Rattle.pon_xgtc.proofs.header.open_header.Goals as goal

pub returns-in-Ok-clause-written : goal.returns-in-Ok-clause-written
returns-in-Ok-clause-written c = λ m rest small is.
    let word : c.from_be_bytes.result ≡ from_be_bytes w32 c.args.bytes.now = search rules in
    let reads : ReadsHeader c.args.bytes.now c.in-Ok.opened.0 c.in-Ok.opened.1 = search rules in
    ap (λ o. Ok o) (written_opens c.args.bytes.now c.in-Ok.opened (omega (arith, word, c.from_be_bytes.type_inv)) reads m rest small is)

pub returns-in-Err-clause-fault : goal.returns-in-Err-clause-fault
returns-in-Err-clause-fault c =
    let word : c.from_be_bytes.result ≡ from_be_bytes w32 c.args.bytes.now = search rules in
    (c.in-Some.ensures.cases.enough, λ m k r. c.in-Err.ensures.fault.0 refl m k (rw word r))

pub returns-in-Err-clause-written : goal.returns-in-Err-clause-written
returns-in-Err-clause-written c = λ m rest small is.
    let word : c.from_be_bytes.result ≡ from_be_bytes w32 c.args.bytes.now = search rules in
    absurd (written_has_no_fault c.args.bytes.now Hec (c.in-Some.ensures.cases.enough, λ m k r. c.in-Err.ensures.fault.0 refl m k (rw word r)) m rest small is)
