use Rattle.std.proofs.Common.{◌≡◌, arith, drop, length, map, rules}
use Rattle.pon_lists.proofs.Parts.{written}
use Rattle.pon_guar.specs.ReportChecks.{with_report}
use Rattle.pon_guar.proofs.RunningSums.{summed_noted}
use Rattle.pon_guar.proofs.Windows.{one_reported}
use Rattle.pon_guar.proofs.window.Window.note_report.Goals as goal

pub invariant_of-self-2 : goal.invariant_of-self-2
invariant_of-self-2 c =
    let kept = c.self.inside.maps.items in
    let past = c.self.inside.past in
    let maps = drop past kept in
    let f = c.args.report.now.frame in
    let u = c.args.report.now.onu in
    let noted : drop past c.note_report.new.kept ≡ map (with_report f u) maps = search rules in
    let len : c.self.inside.maps.len ≡ length kept = search rules in
    let same : length c.note_report.new.kept ≡ length kept = search rules in
    rw (written kept c.note_report.new.kept c.self.inside.maps.len len same) (record {
      within = omega (arith, same, c.self.invariant.within);
      window = rw noted (one_reported maps c.self.invariant.window f u);
      summed = λ e. rw noted (summed_noted f u maps (drop past c.self.inside.sums.items) (c.self.invariant.summed (omega (arith, e, same))));
      without = λ other. c.self.invariant.without (λ e. other (omega (arith, e, same)));
    })
