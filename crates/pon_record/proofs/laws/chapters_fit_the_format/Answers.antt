use Rattle.pon_record.proofs.FitChapters.{chapter_fits}
use Rattle.pon_record.proofs.laws.chapters_fit_the_format.Goals as goal

pub returns : goal.returns
returns c = chapter_fits
