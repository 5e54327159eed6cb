use Rattle.std.proofs.Common.{◌≡◌, ◌<◌, ◌++◌, ◌∷◌, [], length, map, rules, arith}
use Rattle.std.proofs.Math.Numerals.{add-one}
use Rattle.toml.specs.View.{view}
use Rattle.pon_settings.specs.Ports.{SpellsPort}
use Rattle.pon_settings.proofs.Admission.{view_at}
use Rattle.pon_settings.proofs.PortFaults.{at_port, one_more_port}
use Rattle.pon_settings.proofs.document.ports_of.Goals as goal

pub returns-in-Err-clause-fault : goal.returns-in-Err-clause-fault
returns-in-Err-clause-fault c =
    let vs = c.args.tables.now in
    let v = c.index-tables-i.result in
    let within : c.loop-i.i < length vs = omega arith in
    at_port (map view vs) c.loop-i.i (view v) c.loop-i.ports.items c.in-Err.fault (view_at vs c.loop-i.i v within c.index-tables-i.is) c.loop-i.invariant (rw c.at.ensures at c.in-Err.ensures.fault)

pub loop-i-preserved : goal.loop-i-preserved
loop-i-preserved c =
    let vs = c.args.tables.now in
    let v = c.index-tables-i.result in
    let within : c.loop-i.i < length vs = omega arith in
    let pushed : c.push.new.self.items ≡ c.loop-i.ports.items ++ c.in-Ok.port ∷ [] = search rules in
    rw (add-one, pushed) (one_more_port SpellsPort (map view vs) c.loop-i.ports.items c.loop-i.i (view v) c.in-Ok.port c.loop-i.invariant (view_at vs c.loop-i.i v within c.index-tables-i.is) c.in-Ok.ensures.ok)
