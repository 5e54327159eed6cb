use Rattle.std.proofs.Common.{◌≡◌, ◌∙◌, sym, true, false, rules}
use Rattle.pon_audit.specs.Faults.{GrantsWords}
use Rattle.pon_audit.proofs.Maps.{grants_words, lists_allocs, other_than}
use Rattle.pon_audit.proofs.entries.has_wrong_words.Goals as goal

pub returns-then-same_ids : goal.returns-then-same_ids
returns-then-same_ids c =
    let s = c.args.state.now in
    let m = c.args.made.now in
    let ids = lists_allocs s m c.rows-rows.result.now c.rows-others.result.now (search rules) (search rules) in
    let grants = grants_words s m c.rows-rows.result.now c.rows-others.result.now (search rules) (search rules) in
    let other = other_than c.same_grants.result (GrantsWords s m) (λ t. grants.0 (c.same_grants.ensures.0 t), λ g. c.same_grants.ensures.1 (grants.1 g)) in
    (λ t. (ids.0 (c.same_ids.ensures.0 c.if-same_ids.true), other.0 t), λ w. other.1 w.1)

pub returns-else-same_ids : goal.returns-else-same_ids
returns-else-same_ids c =
    let ids = lists_allocs c.args.state.now c.args.made.now c.rows-rows.result.now c.rows-others.result.now (search rules) (search rules) in
    (λ t. absurd (let w : true ≡ false = sym t ∙ c.if-same_ids.false in cc), λ w. c.same_ids.ensures.1 (ids.1 w.0))
