use Rattle.std.proofs.Common.{ap}
use Rattle.pon_guar.specs.Rates.{cap, guaranteed}
use Rattle.pon_demand.specs.Sharing.{weight_in}
use Rattle.pon_laws.proofs.shares.own_rates_are_of_own_reports.Goals as goal

pub returns : goal.returns
returns c = record {
  guaranteed = λ s t r e. ap (guaranteed r.descriptor) e;
  item = λ s t r e. (λ i. record { weight = weight_in r.descriptor.class r.descriptor; cap = cap r.descriptor (e i) });
}
