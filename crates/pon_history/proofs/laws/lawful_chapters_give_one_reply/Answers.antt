use Rattle.pon_history.proofs.OneReply.{one_taken, taken_lawful}
use Rattle.pon_history.proofs.laws.lawful_chapters_give_one_reply.Goals as goal

pub returns : goal.returns
returns c = record { one = λ c d e l v a b p q. one_taken c d e v a b l p q; lawful = λ c d l v a p. taken_lawful c d v a l p }
