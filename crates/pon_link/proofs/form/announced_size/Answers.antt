use Rattle.pon_link.proofs.Sizes.{down_told}
use Rattle.pon_link.proofs.form.announced_size.Goals as goal

pub returns-in-Down : goal.returns-in-Down
returns-in-Down c = down_told c.args.direction c.args.bytes.now c.down_size.result c.in-Down.is c.down_size.ensures
