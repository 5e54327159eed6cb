use Rattle.pon_history.proofs.Legality.{legal_none, legal_one_less, legal_one_more}
use Rattle.pon_history.proofs.laws.legality_goes_entry_by_entry.Goals as goal

pub returns : goal.returns
returns c = record { none = legal_none; one_more = legal_one_more; one_less = legal_one_less }
