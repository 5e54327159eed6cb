use Rattle.pon_link.specs.UpRecords.{IsRecord}
use Rattle.pon_link.specs.DownRecords.{IsDownRecord}
use Rattle.pon_link.specs.declared.direction.Direction.TheVariants.{Up, Down}
use Rattle.pon_link.proofs.RunLaws.{up_told, down_told, one_reading}
use Rattle.pon_link.proofs.laws.one_reading.Goals as goal

pub returns : goal.returns
returns c = record { up = one_reading IsRecord Up up_told; down = one_reading IsDownRecord Down down_told }
