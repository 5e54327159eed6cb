use Rattle.pon_history.proofs.WordRuns.{whole_kbits, whole_words}
use Rattle.pon_history.proofs.laws.words_are_one_whole_part.Goals as goal

pub returns : goal.returns
returns c = record { kbits = whole_kbits; words = whole_words }
