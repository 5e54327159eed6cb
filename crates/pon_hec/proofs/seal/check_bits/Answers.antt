use Rattle.std.proofs.lemmas.Nat.{and_mask}
use Rattle.pon_hec.proofs.ByteTable.{leaves_none, leaves_next, leaves_all}
use Rattle.pon_hec.proofs.seal.check_bits.Goals as goal

pub loop-place-init : goal.loop-place-init
loop-place-init c = leaves_none c.args.payload c.args.bytes

pub loop-place-preserved : goal.loop-place-preserved
loop-place-preserved c = leaves_next c.args.payload c.args.bytes c.loop-place.place c.loop-place.rest _ _ c.loop-place-test.true c.requires.most c.loop-place.invariant (and_mask _ 8) c.remainder_of-rest.ensures

pub returns : goal.returns
returns c = leaves_all c.args.payload c.args.bytes c.loop-place.place c.loop-place.rest c.requires.payload c.requires.bytes c.loop-place-test.false c.loop-place.invariant
