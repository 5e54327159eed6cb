use Rattle.pon_record.proofs.OneBody.{one_chapter}
use Rattle.pon_record.proofs.laws.bodies_have_one_chapter.Goals as goal

pub returns : goal.returns
returns c = one_chapter
