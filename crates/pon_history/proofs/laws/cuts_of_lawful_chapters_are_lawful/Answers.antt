use Rattle.pon_history.proofs.LawfulChapters.{front_lawful, rest_lawful, same_end}
use Rattle.pon_history.proofs.laws.cuts_of_lawful_chapters_are_lawful.Goals as goal

pub returns : goal.returns
returns c = record { front = front_lawful; rest = rest_lawful; same_end = same_end }
