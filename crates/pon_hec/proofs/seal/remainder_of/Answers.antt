use Rattle.pon_hec.proofs.ByteTable.{table_entry}
use Rattle.pon_hec.proofs.seal.remainder_of.Goals as goal

pub returns : goal.returns
returns c = table_entry c.args.place c.args.byte c.from.result c.requires c.ranges.byte.fits c.from.ensures
