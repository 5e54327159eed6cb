use Rattle.pon_history.proofs.LawfulChapters.{lawful_before, present_lawful}
use Rattle.pon_history.proofs.laws.lawful_chapters_hold_admitted_sets.Goals as goal

pub returns : goal.returns
returns c = record { before = λ c l k. (lawful_before c l k).admitted; present = λ c l. (present_lawful c l).admitted }
