use Rattle.pon_link.specs.UpRecords.{IsRecord}
use Rattle.pon_link.specs.DownRecords.{IsDownRecord}
use Rattle.pon_link.specs.declared.direction.Direction.TheVariants.{Up, Down}
use Rattle.pon_link.proofs.RunLaws.{up_told, down_told, no_record_is_refused}
use Rattle.pon_link.proofs.laws.no_record_is_refused.Goals as goal

pub returns : goal.returns
returns c = record { up = no_record_is_refused IsRecord Up up_told; down = no_record_is_refused IsDownRecord Down down_told }
