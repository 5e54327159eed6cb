use Rattle.pon_recorder.specs.Whole.{all_kept}
use Rattle.pon_recorder.proofs.Whole.{ends_sound, ends_written}
use Rattle.pon_recorder.proofs.recorder.Recorder.end_with.Goals as goal

pub returns-clause-sound : goal.returns-clause-sound
returns-clause-sound g c =
    ends_sound c.args.self c.append_kept.new.recorder (g.W.DevWrite.contents c.args.self.file.device) (g.W.DevWrite.contents c.append_kept.new.recorder.file.device) (all_kept c.args.ports.items) c.append_kept.ensures c.end.result.result c.end.ensures.sound

pub returns-clause-written : goal.returns-clause-written
returns-clause-written g c =
    ends_written c.args.self c.append_kept.new.recorder (g.W.DevWrite.contents c.args.self.file.device) (g.W.DevWrite.contents c.append_kept.new.recorder.file.device) (all_kept c.args.ports.items) c.append_kept.ensures (g.W.DevWrite.contents c.end.result.device) c.end.result.result c.end.ensures.sound c.end.ensures.written
