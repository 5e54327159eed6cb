use Rattle.pon_c.specs.Answers.{IsWritten}
use Rattle.pon_c.proofs.LastMade.{made, some_last}
use Rattle.pon_c.proofs.maps.make_map.Goals as goal

pub put_map-requires-clause-some : goal.put_map-requires-clause-some
put_map-requires-clause-some c = some_last c.args.port.now c.keep.new.self c.in-Ok.ensures.ok

pub returns-in-Ok-clause-ok : goal.returns-in-Ok-clause-ok
returns-in-Ok-clause-ok c = λ _. made (λ m. IsWritten m c.put_map.new.map.frame c.put_map.new.map.size c.args.room.now c.put_map.new.room) c.args.port.now c.keep.new.self c.in-Ok.ensures.ok c.in-Ok.ensures.runs c.put_map.ensures
