use Rattle.pon_link.specs.UpRecords.{IsRecord}
use Rattle.pon_link.specs.DownRecords.{IsDownRecord}
use Rattle.pon_link.specs.declared.direction.Direction.TheVariants.{Up, Down}
use Rattle.pon_link.proofs.RunLaws.{up_told, down_told, whatever_the_pieces}
use Rattle.pon_link.proofs.laws.whatever_the_pieces.Goals as goal

pub returns : goal.returns
returns c = record { up = whatever_the_pieces IsRecord Up up_told; down = whatever_the_pieces IsDownRecord Down down_told }
