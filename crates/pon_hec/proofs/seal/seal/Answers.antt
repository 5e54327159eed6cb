use Rattle.std.proofs.Common.{◌∙◌}
use Rattle.pon_hec.proofs.Sealing.{seal_is}
use Rattle.pon_hec.proofs.seal.seal.Goals as goal

pub returns : goal.returns
returns c = seal_is c.args.payload c.from.result c.from-2.result c.requires.payload (c.from.ensures ∙ c.check_bits.ensures) c.from-2.ensures
