use Rattle.pon_demand.proofs.ClassItems.{certified_under}
use Rattle.pon_state.specs.State.{input_of}
use Rattle.pon_port.proofs.next_map.next_map.Goals as goal

pub map_cert-requires-clause-non_assured : goal.map_cert-requires-clause-non_assured
map_cert-requires-clause-non_assured c = rw c.as_slice-na.ensures.value c.in_ok-problems.ensures.na_problem

pub map_cert-requires-clause-best_effort : goal.map_cert-requires-clause-best_effort
map_cert-requires-clause-best_effort c = rw c.as_slice-be.ensures.value c.in_ok-problems.ensures.be_problem

pub map_under-requires-clause-certified : goal.map_under-requires-clause-certified
map_under-requires-clause-certified c =
    certified_under (input_of c.args.state.now) c.in_ok-problems.problems c.in_ok-cert.cert c.in_ok-problems.ensures
    (rw (← c.as_slice-na.ensures.value, ← c.as_slice-be.ensures.value) c.in_ok-cert.ensures)
