use Rattle.std.proofs.Common.{◌∙◌, length, refl, rules, sym}
use Rattle.std.proofs.lemmas.Option.{slice_get_past, slice_get_read}
use Rattle.pon_guar.proofs.RunningSums.{before_at, before_none, after_at, after_none}
use Rattle.pon_guar.proofs.sums.sum_after.Goals as goal

pub returns-in-None : goal.returns-in-None
returns-in-None c =
    sym (after_none c.args.onu c.args.alloc_id c.args.map.now c.args.sums.now
    (before_none c.args.onu c.args.alloc_id c.args.map.now.grants c.args.sums.now c.place_of_grant.result (search rules) c.in-None.is))

pub returns-then-place-len : goal.returns-then-place-len
returns-then-place-len c =
    after_at c.args.onu c.args.alloc_id c.args.map.now c.args.sums.now c.place_of_grant.result c.in-Some.place c.index-then-place-len.result.now c.from-words.result c.index.result.now
    (search rules) c.in-Some.is (search rules)
    (slice_get_read c.args.sums.now (length c.args.sums.now) c.in-Some.place c.index-then-place-len.result.now refl (search rules) (search rules)) (search rules)

pub returns-else-place-len : goal.returns-else-place-len
returns-else-place-len c =
    sym (after_none c.args.onu c.args.alloc_id c.args.map.now c.args.sums.now
    (before_at c.args.onu c.args.alloc_id c.args.map.now.grants c.args.sums.now c.place_of_grant.result c.in-Some.place (search rules) c.in-Some.is (search rules)
    ∙ slice_get_past c.args.sums.now c.in-Some.place (search rules)))
