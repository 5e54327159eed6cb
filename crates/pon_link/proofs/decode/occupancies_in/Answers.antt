use Rattle.std.proofs.Common.{◌≡◌, ◌+◌, ◌-◌, ◌*◌, arith, take, drop, subst, ℕ}
use Rattle.std.proofs.lemmas.Grind.{common_steps}
use Rattle.pon_link.specs.UpRecords.{ReadsReport}
use Rattle.pon_link.proofs.Reports.{reports_step}
use Rattle.pon_link.proofs.decode.occupancies_in.Goals as goal

pub loop-i-preserved : goal.loop-i-preserved
loop-i-preserved c =
    let four : (4 * c.loop-i.i + 4) - 4 * c.loop-i.i ≡ 4 = omega arith in
    let next : ReadsReport (take 4 (drop (4 * c.loop-i.i) c.args.bytes.now)) c.report_in.result
    = subst (λ (k : ℕ). ReadsReport (take k (drop (4 * c.loop-i.i) c.args.bytes.now)) c.report_in.result) four c.report_in.ensures in
    record {
      count = grind (arith, common_steps, c.push.ensures, c.loop-i.invariant.count);
      reports = rw c.push.ensures (reports_step c.args.bytes.now c.loop-i.occupancies c.report_in.result c.loop-i.i c.loop-i.invariant.reports next);
    }
