use Rattle.std.proofs.Common.{◌∙◌, ap, sym}
use Rattle.pon_guar.specs.Window.{latest_grants}
use Rattle.pon_guar.proofs.Windows.{latest_of}
use Rattle.pon_guar.proofs.window.Window.latest_grants.Goals as goal

pub returns-in-Some : goal.returns-in-Some
returns-in-Some c = c.grants.ensures ∙ sym (latest_of c.in-Some.field-0-1.now c.in-Some.latest.now) ∙ ap latest_grants (sym c.in-Some.ensures.cases.0 ∙ c.maps.ensures.value)
