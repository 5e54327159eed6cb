use Rattle.pon_sold.proofs.Parts.{joined_over}
use Rattle.pon_sold.proofs.laws.chapters_are_summed_up_in_any_parts.Goals as goal

pub returns : goal.returns
returns c = λ first last chapter i n w small. joined_over w small first last chapter i n
