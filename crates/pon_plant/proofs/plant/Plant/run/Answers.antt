use Rattle.std.proofs.Common.{rules}
use Rattle.pon_plant.proofs.Stepping.{run_more}
use Rattle.pon_plant.proofs.plant.Plant.run.Goals as goal

pub loop-step-preserved : goal.loop-step-preserved
loop-step-preserved c = record {
  ran = rw c.push_reserved.ensures.items (
      run_more c.args.self.now c.loop-step.self c.step-answer.new.self c.args.steps.now c.loop-step.answers.items c.loop-step.step-index c.step-item.result c.copy.result c.step-answer.result
      c.loop-step.invariant.ran (search rules) c.step-item.is c.copy.ensures c.step-answer.ensures.answer c.step-answer.ensures.plant
      );
  lawful = c.step-answer.ensures.lawful;
  answered = search rules;
  room = search rules;
}
