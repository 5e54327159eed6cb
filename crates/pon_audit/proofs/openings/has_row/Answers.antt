use Rattle.std.proofs.Common.{◌≡◌, ◌∙◌, ◌&&◌, ap, false, rules, sym, tests, true}
use Rattle.std.specs.Prelude.{◌==◌}
use Rattle.std.proofs.lemmas.Fn.{always_returns_same}
use Rattle.pon_lists.proofs.Parts.{parts_at}
use Rattle.pon_audit.proofs.RowSearch.{first_of_others, is_earlier, no_others, rows_parted}
use Rattle.pon_audit.proofs.openings.has_row.Goals as goal

pub returns-then-eq : goal.returns-then-eq
returns-then-eq c =
    let rows = c.args.rows.now in
    let p = is_earlier c.args.onu c.args.alloc_id in
    let facts = c.partition_point-earlier.ensures in
    let parted = facts.partitioned p (always_returns_same _ _ _ (λ a r f k. search (rules, tests))) (rows_parted c.args.onu c.args.alloc_id rows c.requires) in
    let others = c.split_at.ensures.back ∙ (parts_at p rows c.partition_point-earlier.result facts.bound parted).1 in
    let here : (c.in-Some.row.now.onu == c.args.onu) ≡ true = search rules in
    c.eq-then-eq.ensures ∙ ap (λ b. b && c.in-Some.row.now.alloc_id == c.args.alloc_id) (sym here)
    ∙ first_of_others c.args.onu c.args.alloc_id rows c.in-Some.field-0-1.now c.in-Some.row.now c.requires (sym c.in-Some.ensures.cases.0 ∙ others)

pub returns-else-eq : goal.returns-else-eq
returns-else-eq c =
    let rows = c.args.rows.now in
    let p = is_earlier c.args.onu c.args.alloc_id in
    let facts = c.partition_point-earlier.ensures in
    let parted = facts.partitioned p (always_returns_same _ _ _ (λ a r f k. search (rules, tests))) (rows_parted c.args.onu c.args.alloc_id rows c.requires) in
    let others = c.split_at.ensures.back ∙ (parts_at p rows c.partition_point-earlier.result facts.bound parted).1 in
    let none : c.eq.result ≡ false = search rules in
    let here : (c.in-Some.row.now.onu == c.args.onu) ≡ false = search rules in
    none ∙ ap (λ b. b && c.in-Some.row.now.alloc_id == c.args.alloc_id) (sym here)
    ∙ first_of_others c.args.onu c.args.alloc_id rows c.in-Some.field-0-1.now c.in-Some.row.now c.requires (sym c.in-Some.ensures.cases.0 ∙ others)

pub returns-in-None : goal.returns-in-None
returns-in-None c =
    let rows = c.args.rows.now in
    let p = is_earlier c.args.onu c.args.alloc_id in
    let facts = c.partition_point-earlier.ensures in
    let parted = facts.partitioned p (always_returns_same _ _ _ (λ a r f k. search (rules, tests))) (rows_parted c.args.onu c.args.alloc_id rows c.requires) in
    let others = c.split_at.ensures.back ∙ (parts_at p rows c.partition_point-earlier.result facts.bound parted).1 in
    no_others c.args.onu c.args.alloc_id rows _ others c.in-None.ensures.cases
