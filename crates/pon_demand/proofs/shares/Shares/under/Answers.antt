use Rattle.std.proofs.Common.{refl}
use Rattle.pon_demand.proofs.RowShares.{all_left}
use Rattle.pon_demand.proofs.shares.Shares.under.Goals as goal

pub returns : goal.returns
returns c = λ s k certified. all_left s c.args.cert.now _ k certified refl refl c.as_slice.ensures c.as_slice-2.ensures
