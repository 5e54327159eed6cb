use Rattle.std.proofs.Common.{◌∙◌, arith}
use Rattle.pon_link.proofs.Turns.{is_cut, answered_more, begun_more}
use Rattle.pon_link.proofs.Writable.{writable}
use Rattle.pon_link.proofs.writing.write_answers.Goals as goal

pub write_answer-requires : goal.write_answer-requires
write_answer-requires g c =
    let cut = is_cut c.loop-rest.rest.now c.split_at.result.0.now c.split_at.result.1.now c.series_len.result c.split_at.ensures.front c.split_at.ensures.back c.series_len.ensures.series c.series_len.ensures.later in
    writable c.args.frame c.split_at.result.0.now c.loop-rest.units c.answer_series-answer.new.units c.answer_series-answer.result cut.one.some (omega (arith, c.split_at.ensures.front_len, c.series_len.ensures.limit)) c.answer_series-answer.ensures

pub loop-rest-preserved : goal.loop-rest-preserved
loop-rest-preserved g c =
    let far = c.loop-rest.invariant in
    let cut = is_cut c.loop-rest.rest.now c.split_at.result.0.now c.split_at.result.1.now c.series_len.result c.split_at.ensures.front c.split_at.ensures.back c.series_len.ensures.series c.series_len.ensures.later in record {
      keeps = cut.keeps;
      answered = answered_more c.args.frame c.args.rows.now c.loop-rest.rest.now c.split_at.result.0.now c.split_at.result.1.now c.args.units.now c.loop-rest.units c.answer_series-answer.new.units (g.W.DevWrite.contents c.args.writer.now) (g.W.DevWrite.contents c.loop-rest.writer) (g.W.DevWrite.contents c.write_answer.new.writer) c.answer_series-answer.result far.answered cut c.answer_series-answer.ensures c.in-Ok.ensures.ok;
      failures = c.in-Ok.ensures.failures ∙ far.failures;
    }

pub returns-in-Err-clause-err : goal.returns-in-Err-clause-err
returns-in-Err-clause-err g c =
    let far = c.loop-rest.invariant in
    let cut = is_cut c.loop-rest.rest.now c.split_at.result.0.now c.split_at.result.1.now c.series_len.result c.split_at.ensures.front c.split_at.ensures.back c.series_len.ensures.series c.series_len.ensures.later in
    begun_more c.args.frame c.args.rows.now c.loop-rest.rest.now c.split_at.result.0.now c.split_at.result.1.now c.args.units.now c.loop-rest.units c.answer_series-answer.new.units (g.W.DevWrite.contents c.args.writer.now) (g.W.DevWrite.contents c.loop-rest.writer) (g.W.DevWrite.contents c.write_answer.new.writer) c.answer_series-answer.result far.answered cut c.answer_series-answer.ensures c.in-Err.ensures.err
