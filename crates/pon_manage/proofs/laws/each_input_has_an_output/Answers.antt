use Rattle.pon_manage.proofs.EachOutput.{each_output, begun_output}
use Rattle.pon_manage.proofs.laws.each_input_has_an_output.Goals as goal

pub returns : goal.returns
returns c = record {
  output = λ ports input l. each_output ports input l;
  begun = λ ports input written l b. begun_output ports input written l b;
}
