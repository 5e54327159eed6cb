use Rattle.std.proofs.Common.{◌≡◌, length, refl, rules, sym}
use Rattle.std.specs.Prelude.{Some, position}
use Rattle.std.proofs.lemmas.Option.{slice_get_read}
use Rattle.pon_guar.specs.Sums.{is_to}
use Rattle.pon_guar.proofs.RunningSums.{after_at, stands_at}
use Rattle.pon_guar.proofs.sums.sum_at.Goals as goal

pub returns-then-is_to : goal.returns-then-is_to
returns-then-is_to c =
    let grants = c.args.map.now.grants in
    let granted = c.index.result.now in
    let there : Some c.args.hint ≡ position (is_to c.args.onu c.args.alloc_id) grants
    = stands_at c.args.onu c.args.alloc_id grants c.requires c.args.hint granted (search rules) (search rules) in
    sym (after_at c.args.onu c.args.alloc_id c.args.map.now c.args.sums.now (Some c.args.hint) c.args.hint c.index-then-is_to.result.now c.from.result granted there refl (search rules)
    (slice_get_read c.args.sums.now (length c.args.sums.now) c.args.hint c.index-then-is_to.result.now refl (search rules) (search rules)) (search rules))
