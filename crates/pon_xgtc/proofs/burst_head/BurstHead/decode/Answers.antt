use Rattle.std.proofs.Common.{Ok, arith}
use Rattle.pon_xgtc.specs.BurstHead.{burst_head_payload}
use Rattle.pon_xgtc.proofs.HeaderReading.{burst_head_opened}
use Rattle.pon_xgtc.proofs.burst_head.BurstHead.decode.Goals as goal

pub returns-clause-written : goal.returns-clause-written
returns-clause-written c = λ h rest fits is.
    let written = c.open_header.ensures.written (burst_head_payload h) rest (omega (arith, fits.onu_raw, fits.ind)) is in
    let same = burst_head_opened c.in_ok-payload.payload c.in_ok-payload.corrected h c.open_header.result fits c.in_ok-payload.was written in
    λ i. Ok (record { onu_raw = same.0 i; ind = same.1 i }, same.2 i)
