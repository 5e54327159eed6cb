use Rattle.pon_laws.proofs.RunWords.{exact_words}
use Rattle.pon_laws.proofs.runs.sold_rates_alone_are_granted_exactly.Goals as goal

pub returns : goal.returns
returns c = exact_words
