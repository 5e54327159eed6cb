use Rattle.std.proofs.Common.{◌∙◌, ap, arith}
use Rattle.std.specs.Prelude.{Some}
use Rattle.std.specs.Option.{option_or}
use Rattle.std.proofs.lemmas.List.Elements.{All-pop}
use Rattle.pon_guar.specs.Sums.{sum_now}
use Rattle.pon_guar.specs.Window.{IsLawfulMap}
use Rattle.pon_guar.proofs.RunningSums.{now_last}
use Rattle.pon_guar.proofs.sums.last_of.Goals as goal

pub returns : goal.returns
returns c =
    let maps = c.in_ok-map.ensures.cases in
    let sums = c.in_ok-sums.ensures.cases in
    let map = c.in_ok-map.map.now in
    let earlier = c.in_ok-map.field-0-1.now in
    let others = c.in_ok-sums.field-0-1.now in record {
      in_map_order = (All-pop IsLawfulMap c.args.maps.now earlier (Some map) maps.0 c.requires.lawful).1.rising;
      now = λ u i n e.
          now_last u i c.args.maps.now earlier map c.args.sums.now others c.in_ok-sums.sums.now maps.0 sums.0 (omega (arith, maps.1, sums.1, c.requires.as_many))
          ∙ ap (λ r. option_or r (sum_now u i earlier others)) e;
    }
