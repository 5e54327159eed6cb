use Rattle.pon_c.proofs.Recorded.{alone}
use Rattle.pon_c.proofs.turning.recorded.Goals as goal

pub returns-in-Ok : goal.returns-in-Ok
returns-in-Ok c = alone c.new-device.result.taken c.in_ok-file.file.device.taken c.append.new.self.device.taken c.in_ok-file.file.left c.append.new.self.left _ c.new-device.ensures.taken c.in_ok-file.ensures.recorded (c.in-Ok.ensures.taken tt) c.in-Ok.ensures.ok
