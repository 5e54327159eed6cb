use Rattle.std.proofs.Common.{◌≡◌, ◌≤◌, length, take, vec_len, vec_capacity}
use Rattle.pon_plant.specs.Plants.{IsPlant}
use Rattle.pon_plant.specs.Runs.{Ran}
use Rattle.pon_plant.proofs.plant.Plant.run.Given as goal

-- the steps so far have run, and there is room for all answers
abbrev pub invariant-loop-step : goal.invariant-loop-step
invariant-loop-step l = record {
  ran : Ran l.initial.self (take l.step-index l.steps) l.answers.items l.self;
  lawful : IsPlant l.self;
  answered : vec_len l.answers ≡ l.step-index;
  room : length l.steps ≤ vec_capacity l.answers;
}
