use Rattle.pon_record.proofs.ChapterReading.{begins_with}
use Rattle.pon_record.proofs.chapters.read_chapter.Goals as goal

pub returns : goal.returns
returns c = begins_with c.args.version c.args.bytes.now c.in_ok-body.body.now c.args.at c.in_ok-chapter.chapter c.in_ok-body.ensures c.in_ok-chapter.ensures.body c.in_ok-chapter.ensures.at
