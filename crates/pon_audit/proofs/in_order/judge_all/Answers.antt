use Rattle.std.proofs.Common.{◌≡◌, ◌++◌, ◌∷◌, [], rules}
use Rattle.pon_audit.proofs.OneByOne.{one_more}
use Rattle.pon_audit.proofs.in_order.judge_all.Goals as goal

pub loop-chapter-preserved : goal.loop-chapter-preserved
loop-chapter-preserved c =
    let answers = c.loop-chapter.answers.items in
    let judged = c.in_ok-judge.field-0 in
    let pushed : c.push.new.self.items ≡ answers ++ judged ∷ [] = search rules in
    rw pushed (one_more c.args.chapters.now answers c.loop-chapter.chapter-index c.chapter-item.result judged c.loop-chapter-test.true c.chapter-item.is c.loop-chapter.invariant c.in_ok-judge.ensures)
