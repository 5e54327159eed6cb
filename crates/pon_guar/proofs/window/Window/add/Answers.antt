use Rattle.std.proofs.Common.{◌≡◌, ◌∙◌, ◌+◌, ◌-◌, ◌++◌, ◌∷◌, [], ap, arith, drop, length, refl, rules, sym}
use Rattle.pon_guar.specs.Sums.{sums_beside}
use Rattle.pon_guar.specs.Window.{WindowMap, last_64, with_map}
use Rattle.std.proofs.lemmas.List.{length-drop}
use Rattle.pon_guar.proofs.RunningSums.{summed_mapped}
use Rattle.pon_guar.proofs.Windows.{latest_added, one_more, one_more_kept}
use Rattle.pon_guar.proofs.window.Window.add.Goals as goal

past_after : (c : goal.After-drop-left-inside) → c.past_after-past.result ≡ c.self.inside.past + (length (drop c.self.inside.past c.self.inside.maps.items) + 1 - 64)
past_after c = search rules

more : (c : goal.After-drop-left-inside) → drop c.drop_past-self-inside.result c.drop_past-self-inside.new.maps.items ≡ with_map c.args.frame c.args.grants.items (drop c.self.inside.past c.self.inside.maps.items)
more c =
    let latest : WindowMap = record { frame = c.args.frame; grants = c.args.grants.items; reported = [] } in
    let pushed : c.push_reserved.new.self.items ≡ c.self.inside.maps.items ++ latest ∷ [] = search rules in
    rw (c.drop_past-self-inside.ensures.maps, c.take_out-left.ensures.window, past_after c, pushed)
    (one_more_kept c.self.inside.past (length (drop c.self.inside.past c.self.inside.maps.items)) c.self.inside.maps.items latest c.self.invariant.within refl)

pub returns-clause-latest : goal.returns-clause-latest
returns-clause-latest c = rw (more c) (latest_added c.args.frame c.args.grants.items (drop c.self.inside.past c.self.inside.maps.items) c.self.invariant.window.few_maps)

pub invariant_of-self-2 : goal.invariant_of-self-2
invariant_of-self-2 c =
    let maps = drop c.self.inside.past c.self.inside.maps.items in
    let held = c.prepare_next.new.sums.items in
    let sums = drop c.self.inside.past held in
    let full : length held ≡ length c.self.inside.maps.items = c.in_ok-next.ensures.as_many in
    let as_many : length sums ≡ length maps = omega (arith, full, length-drop c.self.inside.past held, length-drop c.self.inside.past c.self.inside.maps.items) in
    let grants = c.args.grants.items in
    let kept = c.drop_past-self-inside in
    let pushed : c.push_reserved-2.new.self.items ≡ held ++ sums_beside maps sums grants ∷ [] = search rules in
    let beside : drop kept.result kept.new.sums.items ≡ last_64 (sums ++ sums_beside maps sums grants ∷ []) =
    rw (kept.ensures.sums, c.take_out.ensures.window, past_after c, pushed)
    (one_more_kept c.self.inside.past (length maps) held (sums_beside maps sums grants) (omega (arith, full, c.self.invariant.within)) (sym as_many)) in
    record {
      within = kept.ensures.within;
      window = rw (more c) (one_more maps c.self.invariant.window c.args.frame grants (search rules) c.requires.map_order);
      summed = λ e. rw (more c, beside) (summed_mapped c.args.frame grants maps sums (c.prepare_next.ensures.kept.summed full) as_many (search rules));
      without = λ other. absurd (other kept.ensures.as_many);
    }

pub invariant_of-self : goal.invariant_of-self
invariant_of-self c = rw c.prepare_next.ensures.maps c.prepare_next.ensures.kept

pub returns-clause-ok : goal.returns-clause-ok
returns-clause-ok c = more c ∙ ap (with_map c.args.frame c.args.grants.items) c.self.view_is
