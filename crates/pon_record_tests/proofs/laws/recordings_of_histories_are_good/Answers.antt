use Rattle.pon_record_tests.proofs.GoodHistories.{are_good, good_alone, sent_is_good}
use Rattle.pon_record_tests.proofs.laws.recordings_of_histories_are_good.Goals as goal

pub returns-clause-good : goal.returns-clause-good
returns-clause-good c = are_good

pub returns-clause-only : goal.returns-clause-only
returns-clause-only c = good_alone

pub returns-clause-written : goal.returns-clause-written
returns-clause-written c = sent_is_good
