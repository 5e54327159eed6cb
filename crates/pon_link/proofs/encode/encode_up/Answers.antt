use Rattle.std.proofs.Common.{◌≡◌, ◌+◌, rules, arith, sym, ap, ◌∙◌, subst, Some, length, take, drop, ℕ, List, Option}
use Rattle.std.proofs.lemmas.List.{take-append-le, length-append}
use Rattle.std.proofs.Math.Seq.{take-length}
use Rattle.pon_link.specs.UpRecords.{ReadsReports}
use Rattle.pon_link.proofs.Written.{front, report_written, record_written}
use Rattle.pon_link.proofs.encode.encode_up.Goals as goal

pub loop-report-preserved : goal.loop-report-preserved
loop-report-preserved c =
    let inv = c.loop-report.invariant in
    let four : length c.encode.result ≡ 4 = ap (λ (t : List ℕ). length t) c.encode.ensures.spelled in
    let grown : length c.append.new.bytes.items ≡ length c.loop-report.bytes.items + length c.encode.result
    = ap (λ (t : List ℕ). length t) c.append.ensures ∙ length-append c.loop-report.bytes.items c.encode.result in
    record {
      size = omega (arith, inv.size, four, grown);
      front = ap (λ (t : List ℕ). take 14 t) c.append.ensures ∙ take-append-le 14 c.loop-report.bytes.items c.encode.result (omega (arith, inv.size)) ∙ inv.front;
      reports = report_written c.loop-report.bytes.items c.encode.result c.append.new.bytes.items c.as_slice-reports.result.now (Some c.in-Some-report.occupancy) c.loop-report.report-index (omega (arith, inv.size)) c.append.ensures c.loop-report-test.true (search rules) inv.reports c.encode.ensures;
    }

pub returns-clause-reads : goal.returns-clause-reads
returns-clause-reads c =
    let inv = c.loop-report.invariant in
    let last : length c.as_slice-reports.result.now ≡ c.loop-report.report-index = omega (arith, c.loop-report-test.false, c.loop-report.auto.report-index-end) in
    let occ = c.as_slice-reports.ensures.value in
    let count : length c.args.burst.now.occ ≡ c.loop-report.report-index = sym (ap (λ (t : List (Option ℕ)). length t) occ) ∙ last in
    let all : take c.loop-report.report-index c.as_slice-reports.result.now ≡ c.args.burst.now.occ
    = ap (λ (k : ℕ). take k c.as_slice-reports.result.now) (sym last) ∙ take-length c.as_slice-reports.result.now ∙ occ in
    record_written c.loop-report.bytes.items c.args.burst.now c.in-Some.head c.front-bytes.ensures.head c.front-bytes.ensures.frame c.in-Some.is (omega (arith, inv.size, count)) c.requires.some c.requires.limit (inv.front ∙ c.front-bytes.ensures.spelled ∙ ap (λ (k : ℕ). front c.args.burst.now.frame c.in-Some.head k) (ap (λ (t : List (Option ℕ)). length t) occ)) (subst (λ (t : List (Option ℕ)). ReadsReports (drop 14 c.loop-report.bytes.items) t) all inv.reports)
