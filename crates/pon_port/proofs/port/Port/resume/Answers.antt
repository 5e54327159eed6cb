use Rattle.std.proofs.Common.{refl, rules}
use Rattle.pon_state.specs.Ranges.{IsStateInRange}
use Rattle.pon_port.proofs.Turning.{resumed_port}
use Rattle.pon_port.proofs.port.Port.resume.Goals as goal

pub invariant_of-result : goal.invariant_of-result
invariant_of-result c =
    let range : IsStateInRange c.args.opening = search (rules, c.is_in_range.ensures) in
    resumed_port c.args.number c.args.opening c.args.opening c.in_ok-state.state c.new.result.items c.new-2.result.items c.new-3.result.items c.requires range refl c.in_ok-state.ensures c.new.ensures.items
