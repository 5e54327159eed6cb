use Rattle.std.proofs.Common.{◌≡◌, refl, ◌∙◌, ap, sym}
use Rattle.std.specs.Prelude.{Some, false, true}
use Rattle.pon_bwmap.specs.MapRules.{IsMap}
use Rattle.pon_record.proofs.MapRules.{fails, passes}
use Rattle.pon_record.proofs.made.checked_map.Goals as goal

pub returns-in-Ok : goal.returns-in-Ok
returns-in-Ok c =
    let map : IsMap c.args.rows.items = c.in-Ok.ensures.made.0 refl in
    let same : c.in-Ok.map ≡ c.args.rows.items = c.in-Ok.ensures.ok in
    passes c.args.rows.items map ∙ ap (λ rows. Some rows) (sym same)

pub returns : goal.returns
returns c = fails c.args.rows.items (λ map. let e : false ≡ true = c.in-Err.ensures.made.1 map in cc)
