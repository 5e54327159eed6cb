use Rattle.pon_laws.proofs.MapWords.{granted_or_served}
use Rattle.pon_laws.proofs.shares.a_map_grants_all_its_words.Goals as goal

pub returns : goal.returns
returns c = granted_or_served
