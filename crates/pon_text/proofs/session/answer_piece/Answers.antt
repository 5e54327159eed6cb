use Rattle.std.proofs.Common.{rules, refl, ◌∙◌}
use Rattle.std.proofs.lemmas.Result.{err_from_is_err_and}
use Rattle.pon_text.proofs.Continuing.{reach_end, reach_line, reach_nothing, reach_refused, reach_sent, reach_unsent}
use Rattle.pon_text.proofs.Feeds.{cut_parts}
use Rattle.pon_text.proofs.session.answer_piece.Goals as goal

pub lines-init : goal.lines-init
lines-init g c = record {
  reached = reach_nothing g.A.Answers.gives c.args.state.now c.args.line.now.items c.args.piece.now c.args.replies.now.items (g.W.DevWrite.contents c.args.writer.now) c.requires.empty;
  path = g.met.A.Answers.is_path.here c.args.state.now;
  none_failed = refl;
}

pub end_line-requires : goal.end_line-requires
end_line-requires g c = record { no_feed = (cut_parts 10 c.lines.rest.now c.in-Some.part.now c.in-Some.after.now c.in-Some.ensures.parts).1 }

pub returns-in_err-end_line-clause-text : goal.returns-in_err-end_line-clause-text
returns-in_err-end_line-clause-text g c =
    let gave = err_from_is_err_and c.from_residual.result c.from_residual.ensures.1 in
    rw (gave.1, gave.2) (reach_refused c.lines.invariant.reached c.end_line.new.replies.items (search rules))

pub returns-in_err-send-clause-text : goal.returns-in_err-send-clause-text
returns-in_err-send-clause-text g c =
    let reached = reach_line c.lines.invariant.reached c.end_line.new.state c.end_line.new.line.items c.in-Some.part.now c.in-Some.after.now c.end_line.new.replies.items c.end_line.result (search rules) c.end_line.ensures.ok c.in-Some.ensures.parts in
    let gave = err_from_is_err_and c.from_residual-in_err-send.result c.from_residual-in_err-send.ensures.1 in
    rw (gave.1, gave.2) (reach_unsent reached c.end_line.new.state c.end_line.new.line.items c.send.new.replies.items (g.W.DevWrite.contents c.send.new.writer) _ c.in_err-send.ensures.text)

pub lines-preserved-in_ok-send : goal.lines-preserved-in_ok-send
lines-preserved-in_ok-send g c =
    let reached = reach_line c.lines.invariant.reached c.end_line.new.state c.end_line.new.line.items c.in-Some.part.now c.in-Some.after.now c.end_line.new.replies.items c.end_line.result (search rules) c.end_line.ensures.ok c.in-Some.ensures.parts in
    record {
      reached = reach_sent reached (g.W.DevWrite.contents c.send.new.writer) c.send.new.replies.items c.in_ok-send.ensures.text c.in_ok-send.ensures.empty;
      path = g.met.A.Answers.is_path.joined _ _ _ c.lines.invariant.path c.end_line.ensures.path;
      none_failed = c.in_ok-send.ensures.failures ∙ c.lines.invariant.none_failed;
    }

pub lines-preserved : goal.lines-preserved
lines-preserved g c = record {
  reached = reach_line c.lines.invariant.reached c.end_line.new.state c.end_line.new.line.items c.in-Some.part.now c.in-Some.after.now c.end_line.new.replies.items c.end_line.result (search rules) c.end_line.ensures.ok c.in-Some.ensures.parts;
  path = g.met.A.Answers.is_path.joined _ _ _ c.lines.invariant.path c.end_line.ensures.path;
  none_failed = c.lines.invariant.none_failed;
}

pub returns-clause-text : goal.returns-clause-text
returns-clause-text g c = reach_end c.lines.invariant.reached c.keep_part.new.line.items (search rules) c.in_ok-keep_part.ensures

pub returns-in_err-keep_part-clause-text : goal.returns-in_err-keep_part-clause-text
returns-in_err-keep_part-clause-text g c =
    let gave = err_from_is_err_and c.from_residual-in_err-keep_part.result c.from_residual-in_err-keep_part.ensures.1 in
    rw (gave.1, gave.2) (reach_refused c.lines.invariant.reached c.lines.replies.items refl)
