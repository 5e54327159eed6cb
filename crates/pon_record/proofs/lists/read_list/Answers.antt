use Rattle.pon_record.specs.Format.{read_times}
use Rattle.pon_record.proofs.Loop.{goes_on, stops}
use Rattle.pon_record.proofs.lists.read_list.Goals as goal

pub returns-in_err-value : goal.returns-in_err-value
returns-in_err-value g c = stops (g.T.Recorded.form c.args.layout) c.loop.values.items c.args.count c.loop.counter c.loop.cursor (read_times (g.T.Recorded.form c.args.layout) c.args.count c.args.cursor.now) _ c.from_residual.result c.in_err-value.field-0.0 c.loop-test.true c.in_err-value.ensures c.loop.invariant c.from_residual.ensures.1

pub loop-preserved : goal.loop-preserved
loop-preserved g c = rw c.in_ok-push.ensures.items (goes_on (g.T.Recorded.form c.args.layout) c.loop.values.items c.args.count c.loop.counter c.loop.cursor c.in_ok-value.value c.read.new.cursor (read_times (g.T.Recorded.form c.args.layout) c.args.count c.args.cursor.now) c.loop-test.true c.in_ok-value.ensures c.loop.invariant)
