use Rattle.pon_record.specs.declared.limits.TheConstants.{CHAPTER_TAG}
use Rattle.pon_record.proofs.ExactChapters.{exact_chapter}
use Rattle.pon_record.proofs.laws.chapters_are_read_as_written.Goals as goal

pub returns-clause-again : goal.returns-clause-again
returns-clause-again c v b rest fits = (exact_chapter v).again (CHAPTER_TAG, b) rest fits

pub returns-clause-takes : goal.returns-clause-takes
returns-clause-takes c v bytes b rest are e = (exact_chapter v).takes bytes (CHAPTER_TAG, b) rest are e
