use Rattle.pon_link.proofs.Splits.{map_keeps}
use Rattle.pon_link.proofs.writing.answer_map.Goals as goal

pub write_answers-requires : goal.write_answers-requires
write_answers-requires g c = map_keeps c.rows.result.now c.rows.ensures.map
