use Rattle.std.proofs.Common.{rules, ◌≡◌, ◌∙◌, ◌+◌, [], ap, sym, length, Err}
use Rattle.pon_check_file.specs.Stages.{filed, goes_on}
use Rattle.pon_check_file.proofs.StageLines.{ends_at_first, ends_at_items, ends_at_level, ends_whole}
use Rattle.pon_check_file.proofs.stage.Stage.end.Goals as goal

pub returns-in-First : goal.returns-in-First
returns-in-First c = ap (λ s. goes_on s []) c.in-First.is ∙ ends_at_first

pub returns-in-Items : goal.returns-in-Items
returns-in-Items c =
    let count : c.len.result ≡ length c.in-Items.shared.items.items = search rules in
    ap (λ s. goes_on s []) c.in-Items.is ∙ ends_at_items c.in-Items.shared.surplus c.in-Items.shared.items.items ∙ ap (λ n. Err (n + 2)) (sym count)

pub returns-in-Level : goal.returns-in-Level
returns-in-Level c =
    let count : c.len-in-Level.result ≡ length c.in-Level.levelled.shared.items.items = search rules in
    ap (λ s. goes_on s []) c.in-Level.is ∙ ends_at_level c.in-Level.levelled.shared.surplus c.in-Level.levelled.shared.items.items c.in-Level.levelled.level ∙ ap (λ n. Err (n + 3)) (sym count)

pub returns-in-Whole : goal.returns-in-Whole
returns-in-Whole c = ap (λ s. goes_on s []) c.in-Whole.is ∙ ends_whole (filed c.in-Whole.filled.file) c.in-Whole.filled.lines
