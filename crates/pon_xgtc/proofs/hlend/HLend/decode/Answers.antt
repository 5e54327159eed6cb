use Rattle.std.proofs.Common.{Ok, arith}
use Rattle.pon_xgtc.specs.HLend.{hlend_payload}
use Rattle.pon_xgtc.proofs.HeaderReading.{map_head_opened}
use Rattle.pon_xgtc.proofs.hlend.HLend.decode.Goals as goal

pub returns-clause-written : goal.returns-clause-written
returns-clause-written c = λ h rest fits is.
    let written = c.open_header.ensures.written (hlend_payload h) rest (omega (arith, fits.n, fits.p)) is in
    let same = map_head_opened c.in_ok-payload.payload c.in_ok-payload.corrected h c.open_header.result fits c.in_ok-payload.was written in
    λ i. Ok (record { n = same.0 i; p = same.1 i }, same.2 i)
