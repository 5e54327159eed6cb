use Rattle.std.proofs.Common.{◌≡◌, length, map, ◌∙◌, rules}
use Rattle.std.proofs.lemmas.List.{length-map}
use Rattle.toml.specs.View.{view}
use Rattle.pon_settings.specs.Ports.{SpellsPort}
use Rattle.pon_settings.proofs.PortFaults.{same_length}
use Rattle.pon_settings.proofs.document.Document.settings.Goals as goal

pub invariant_of-result : goal.invariant_of-result
invariant_of-result c =
    let vs = c.in-Ok-port_tables.tables.now in
    let same : length c.in-Ok-ports_of.ports.items ≡ length vs = same_length SpellsPort (map view vs) c.in-Ok-ports_of.ports.items c.in-Ok-ports_of.ensures.ok ∙ length-map vs view in
    rw same (search rules)
