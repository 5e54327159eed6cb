use Rattle.pon_plant.proofs.OneHistory.{same_answers, same_chapter}
use Rattle.pon_plant.proofs.laws.ports_depend_on_their_own_steps_alone.Goals as goal

pub returns-clause-answers : goal.returns-clause-answers
returns-clause-answers c = λ p c ss ss2 rs rs2 old new old2 new2 lawful same ran ran2. same_answers p c old old2 new new2 ss ss2 rs rs2 lawful same ran ran2

pub returns-clause-chapter : goal.returns-clause-chapter
returns-clause-chapter c = λ p c ss ss2 rs rs2 old new old2 new2 lawful same ran ran2. same_chapter p c old old2 new new2 ss ss2 rs rs2 lawful same ran ran2
