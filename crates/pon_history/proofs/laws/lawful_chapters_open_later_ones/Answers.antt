use Rattle.pon_history.proofs.LawfulChapters.{opens_at_present, opens_before}
use Rattle.pon_history.proofs.laws.lawful_chapters_open_later_ones.Goals as goal

pub returns : goal.returns
returns c = record { before = opens_before; present = opens_at_present }
