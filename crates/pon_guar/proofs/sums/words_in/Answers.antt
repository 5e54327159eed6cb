use Rattle.std.proofs.Common.{◌≡◌, ◌∙◌, get_or, map, rules, sym}
use Rattle.std.proofs.lemmas.List.{length-map}
use Rattle.pon_guar.proofs.RunningSums.{before_none, no_grant, words_there}
use Rattle.pon_guar.proofs.sums.words_in.Goals as goal

pub returns-in-None-clause-value : goal.returns-in-None-clause-value
returns-in-None-clause-value c =
    let m = c.args.map.now in
    let zeros = map (λ g. 0) m.grants in
    sym (no_grant c.args.onu c.args.alloc_id m zeros (length-map m.grants (λ g. 0))
    (before_none c.args.onu c.args.alloc_id m.grants zeros c.place_of_grant.result (search rules) c.in-None.is))

pub returns-in-Some-clause-value : goal.returns-in-Some-clause-value
returns-in-Some-clause-value c =
    let m = c.args.map.now in
    let words : c.from.result ≡ (get_or m.grants c.in-Some.place c.index.result.now).words = search rules in
    words ∙ words_there c.args.onu c.args.alloc_id m c.place_of_grant.result c.in-Some.place c.index.result.now (search rules) c.in-Some.is (search rules)
