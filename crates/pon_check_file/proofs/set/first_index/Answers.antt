use Rattle.pon_text.proofs.Cutting.{parts_some, parts_none}
use Rattle.pon_check_file.proofs.set.first_index.Goals as goal

pub returns-in-Some : goal.returns-in-Some
returns-in-Some c = parts_some 44 c.args.text.now c.in-Some.index.now c.in-Some.others.now c.in-Some.ensures.parts

pub returns-in-None : goal.returns-in-None
returns-in-None c = parts_none 44 c.args.text.now c.in-None.ensures.parts
