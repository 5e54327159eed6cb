use Rattle.pon_c.specs.Grants.{IsListed}
use Rattle.pon_c.proofs.LastMade.{made, some_last}
use Rattle.pon_c.proofs.grants.make_grants.Goals as goal

pub put_grants-requires-clause-some : goal.put_grants-requires-clause-some
put_grants-requires-clause-some c = some_last c.args.port.now c.keep.new.self c.in-Ok.ensures.ok

pub returns-in-Ok-clause-ok : goal.returns-in-Ok-clause-ok
returns-in-Ok-clause-ok c = λ _. made (λ m. IsListed m c.put_grants.new.info c.args.grants.now c.put_grants.new.grants) c.args.port.now c.keep.new.self c.in-Ok.ensures.ok c.in-Ok.ensures.runs c.put_grants.ensures
