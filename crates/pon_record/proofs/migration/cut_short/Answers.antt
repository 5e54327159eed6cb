use Rattle.pon_record.proofs.MovedChapters.{cut_after, magic_before_cut, memory_before_cut}
use Rattle.pon_record.proofs.migration.cut_short.Goals as goal

pub read_chapters-requires-clause-magic : goal.read_chapters-requires-clause-magic
read_chapters-requires-clause-magic c = magic_before_cut c.args.bytes.now c.args.at c.requires.0 c.requires.1

pub returns-in-Ok : goal.returns-in-Ok
returns-in-Ok c = cut_after c.args.bytes.now c.args.at c.requires.0 c.requires.1 c.in-Ok.whole c.in-Ok.ensures.ok

pub returns-in-Err : goal.returns-in-Err
returns-in-Err c = memory_before_cut c.args.bytes.now c.args.at c.requires.0 c.requires.1 c.in-Err.fault c.in-Err.ensures.fault
