use Rattle.std.proofs.Common.{◌≡◌, map, rules}
use Rattle.std.specs.Prelude.{Some}
use Rattle.toml.specs.View.{view}
use Rattle.pon_settings.specs.Ports.{port_fields_at}
use Rattle.pon_settings.proofs.PortFaults.{in_rows}
use Rattle.pon_settings.proofs.port.port_of.Goals as goal

pub returns-in-Err-rows_of-clause-fault : goal.returns-in-Err-rows_of-clause-fault
returns-in-Err-rows_of-clause-fault c =
    let d = view c.args.value.now in
    let tables = map view c.in-Some-optional_tables.tables.now in
    let own : port_fields_at d ≡ Some (record { opening = c.in-Ok.opening; tables = tables }) = search rules in
    in_rows c.args.port d (record { opening = c.in-Ok.opening; tables = tables }) c.in-Err-rows_of.fault own c.in-Err-rows_of.ensures.fault
