use Rattle.std.proofs.Common.{◌≡◌, ◌==◌, ◌&&◌, Bool, true, false, ℕ, ap, sym, ◌∙◌}
use Rattle.std.specs.List.{list_any}
use Rattle.pon_link.specs.Units.{asks}
use Rattle.pon_link.proofs.unit.answer_one.Goals as goal

pub returns-in-Some-clause-others : goal.returns-in-Some-clause-others
returns-in-Some-clause-others c not =
    let queues = c.args.queues.now in
    let own : list_any (λ q. q.0 == c.args.row.now.id) queues ≡ true = ap (λ (id : ℕ). list_any (λ q. q.0 == id) queues) (sym c.id.ensures.value) ∙ c.in-Some.ensures.0 in
    let asked : asks queues c.args.row.now ≡ true = ap (λ (b : Bool). b && list_any (λ q. q.0 == c.args.row.now.id) queues) (sym c.if-not-dbru.ensures) ∙ own in
    let both : true ≡ false = sym asked ∙ not in
    cc

pub returns-in_default-clause-asks : goal.returns-in_default-clause-asks
returns-in_default-clause-asks c asked =
    let queues = c.args.queues.now in
    let foreign : list_any (λ q. q.0 == c.args.row.now.id) queues ≡ false = ap (λ (id : ℕ). list_any (λ q. q.0 == id) queues) (sym c.id.ensures.value) ∙ c.in_default.ensures in
    let not : asks queues c.args.row.now ≡ false = ap (λ (b : Bool). b && list_any (λ q. q.0 == c.args.row.now.id) queues) (sym c.if-not-dbru.ensures) ∙ foreign in
    let both : true ≡ false = sym asked ∙ not in
    cc
