use Rattle.std.proofs.Common.{◌∙◌, refl, rules, sym}
use Rattle.pon_guar.specs.Window.{frame_after}
use Rattle.pon_guar.proofs.Frames.{tells_count, tells_not_polled, tells_reported}
use Rattle.pon_guar.proofs.reports.accept_report.Goals as goal

pub returns-then-polled-eq0-clause-refused : goal.returns-then-polled-eq0-clause-refused
returns-then-polled-eq0-clause-refused c =
    sym (tells_not_polled (frame_after c.args.window.now) c.args.frame c.args.onu c.args.count c.args.window.now c.requires.frames c.in-Some.place (search rules)
    c.index-window-place.result c.index-window-place.is c.series-series.result.grants.now c.series-series.ensures.grants c.if-polled-eq0.true)

pub returns-then-count-polled-clause-refused : goal.returns-then-count-polled-clause-refused
returns-then-count-polled-clause-refused c =
    sym (tells_count (frame_after c.args.window.now) c.args.frame c.args.onu c.args.count c.args.window.now c.requires.frames c.in-Some.place (search rules)
    c.index-window-place.result c.index-window-place.is c.series-series.result.grants.now c.series-series.ensures.grants c.if-polled-eq0.false c.if-count-polled.true)

pub returns-then-has_reported-clause-refused : goal.returns-then-has_reported-clause-refused
returns-then-has_reported-clause-refused c =
    sym (tells_reported (frame_after c.args.window.now) c.args.frame c.args.onu c.args.count c.args.window.now c.requires.frames c.in-Some.place (search rules)
    c.index-window-place.result c.index-window-place.is c.series-series.result.grants.now c.series-series.ensures.grants c.if-polled-eq0.false c.if-count-polled.false
    _ (sym c.if-has_reported.true ∙ c.has_reported.ensures))

pub returns-clause-ok : goal.returns-clause-ok
returns-clause-ok c = record {
  frame = refl;
  onu = refl;
  passes = sym (tells_reported (frame_after c.args.window.now) c.args.frame c.args.onu c.args.count c.args.window.now c.requires.frames c.in-Some.place (search rules)
      c.index-window-place.result c.index-window-place.is c.series-series.result.grants.now c.series-series.ensures.grants c.if-polled-eq0.false c.if-count-polled.false
      _ (sym c.if-has_reported.false ∙ c.has_reported.ensures));
  there = search rules;
}
