use Rattle.pon_joined.proofs.Steps.{front_byte}
use Rattle.pon_joined.proofs.joined.refuse.Goals as goal

pub returns-clause-byte : goal.returns-clause-byte
returns-clause-byte c = front_byte c.args.buf.now 0 c.requires.some
