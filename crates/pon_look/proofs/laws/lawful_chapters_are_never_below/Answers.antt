use Rattle.pon_look.proofs.Owed.{lawful_below}
use Rattle.pon_look.proofs.laws.lawful_chapters_are_never_below.Goals as goal

pub returns : goal.returns
returns c = λ range chapter l i n. lawful_below range i chapter l n
