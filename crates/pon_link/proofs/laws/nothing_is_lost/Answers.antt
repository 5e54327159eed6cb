use Rattle.pon_link.specs.UpRecords.{IsRecord}
use Rattle.pon_link.specs.DownRecords.{IsDownRecord}
use Rattle.pon_link.specs.declared.direction.Direction.TheVariants.{Up, Down}
use Rattle.pon_link.proofs.RunLaws.{nothing_is_lost}
use Rattle.pon_link.proofs.laws.nothing_is_lost.Goals as goal

pub returns : goal.returns
returns c = record { up = nothing_is_lost IsRecord Up; down = nothing_is_lost IsDownRecord Down }
