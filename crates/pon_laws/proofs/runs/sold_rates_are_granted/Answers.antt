use Rattle.pon_laws.proofs.RunWords.{fixed_words, sold_words}
use Rattle.pon_laws.proofs.runs.sold_rates_are_granted.Goals as goal

pub returns : goal.returns
returns c = record { sold = sold_words; fixed = fixed_words }
