use Rattle.pon_laws.proofs.ExactRates.{exact_above, exact_below, exact_is_fraction}
use Rattle.pon_laws.proofs.runs.fractions_lose_less_than_a_kbit_a_map.Goals as goal

pub returns : goal.returns
returns c = record { fraction = exact_is_fraction; below = exact_below; above = exact_above }
