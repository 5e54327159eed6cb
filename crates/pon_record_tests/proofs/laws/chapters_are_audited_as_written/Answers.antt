use Rattle.pon_record_tests.proofs.SameChapters.{same_chapter}
use Rattle.pon_record_tests.proofs.laws.chapters_are_audited_as_written.Goals as goal

pub returns : goal.returns
returns c = same_chapter
