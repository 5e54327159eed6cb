use Rattle.std.proofs.Common.{[], arith}
use Rattle.std.proofs.lemmas.List.Elements.{All-nil}
use Rattle.pon_worker.specs.Turns.{IsNotMemory}
use Rattle.pon_worker.proofs.Bursts.{counted_garbled}
use Rattle.pon_worker.proofs.Receipts.{keeps_none, takes_garbled}
use Rattle.pon_worker.proofs.Reported.{fits_one, reported, reported_maps, reported_posts}
use Rattle.pon_worker.proofs.reading.post_record.Goals as goal

pub returns-in_default-clause-counted : goal.returns-in_default-clause-counted
returns-in_default-clause-counted g c = record {
  reports = [];
  refusals = [];
  takes = takes_garbled c.args.served.now.port c.args.burst c.in_default.ensures;
  memory = All-nil IsNotMemory;
  counted = counted_garbled c.args.burst c.args.counts.now c.count_garbled.new.self c.in_default.ensures c.count_garbled.ensures c.prove_in_range.ensures.refused;
  kept = keeps_none c.args.seat.now.receipts;
}

pub count_report-requires : goal.count_report-requires
count_report-requires g c = fits_one c.args.served.now.port _ c.post_kept-posted.result c.args.seat.now c.post_kept-posted.new.seat c.args.counts.now c.requires.posts c.post_kept-posted.ensures.kept c.post_kept-posted.ensures.fits

pub returns-clause-counted : goal.returns-clause-counted
returns-clause-counted g c =
    let sender = c.in-Some.ensures in
    reported c.args.served.now.port c.args.burst c.in-Some.onu c.report_of.result c.post_kept-posted.result c.count_report.result c.args.counts.now c.count_report.new.self c.args.seat.now c.post_kept-posted.new.seat
    c.report_of.ensures sender.0 sender.1 c.post_kept-posted.ensures.kept (λ none. absurd (omega (arith, c.post_kept-posted.ensures.no_such.0 none, c.requires.port))) c.post_kept-posted.ensures.refused c.post_kept-posted.ensures.err c.count_report.ensures.counts c.count_report.ensures.memory c.prove_in_range.ensures.garbled c.prove_in_range.ensures.unowned c.prove_in_range.ensures.refused

pub returns-clause-maps : goal.returns-clause-maps
returns-clause-maps g c = reported_maps c.post_kept-posted.result c.args.counts.now c.count_report.new.self c.count_report.ensures.counts

pub returns-clause-posts : goal.returns-clause-posts
returns-clause-posts g c =
    reported_posts c.args.served.now.port c.report_of.result c.post_kept-posted.result c.args.counts.now c.count_report.new.self c.args.seat.now c.post_kept-posted.new.seat c.post_kept-posted.ensures.kept c.post_kept-posted.ensures.err c.count_report.ensures.counts
