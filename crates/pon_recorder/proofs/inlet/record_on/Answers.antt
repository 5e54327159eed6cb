use Rattle.std.proofs.Common.{inl, refl, rules}
use Rattle.pon_recorder.proofs.GoingOn.{takes_on_none}
use Rattle.pon_recorder.proofs.inlet.record_on.Goals as goal

pub returns-clause-taken : goal.returns-clause-taken
returns-clause-taken g c = record {
  mid = c.try_again.new.self;
  goes = c.try_again.ensures.next;
  takes = c.record_any.ensures.taken;
  counts = c.record_any.ensures.maps;
}

pub returns-then-is_none-clause-taken : goal.returns-then-is_none-clause-taken
returns-then-is_none-clause-taken g c =
    takes_on_none g.W.DevWrite.contents c.args.recorder.now c.args.dropped.now c.args.port c.args.chapter.now (search rules)
