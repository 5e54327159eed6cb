use Rattle.std.proofs.Common.{◌≡◌, None, rules, subst, sym}
use Rattle.pon_descr.specs.Checks.{IsTold}
use Rattle.pon_admit.specs.Roster.{refuses_admit}
use Rattle.pon_admit.proofs.Refusals.{told}
use Rattle.pon_admit.proofs.roster.Roster.admit.Goals as goal

pub returns-in-Some-clause-refused : goal.returns-in-Some-clause-refused
returns-in-Some-clause-refused c =
    subst (λ r. IsTold (refuses_admit c.args.self.now.rule c.args.self.now.gap c.args.self.now.rows r) c.in-Some.refusal) c.new-row.ensures.row
    (told (refuses_admit c.args.self.now.rule c.args.self.now.gap c.args.self.now.rows c.new-row.result) c.in-Some.refusal (sym c.in-Some.ensures))

pub returns-in_err-take_row-clause-refused : goal.returns-in_err-take_row-clause-refused
returns-in_err-take_row-clause-refused c =
    let none : refuses_admit c.args.self.now.rule c.args.self.now.gap c.args.self.now.rows (record { onu = c.args.onu; alloc_id = c.args.alloc_id; descriptor = c.args.descriptor }) ≡ None
    = subst (λ r. refuses_admit c.args.self.now.rule c.args.self.now.gap c.args.self.now.rows r ≡ None) c.new-row.ensures.row (sym c.in_default.ensures) in
    rw none (search rules)

pub returns-clause-accepted : goal.returns-clause-accepted
returns-clause-accepted c = subst (λ r. refuses_admit c.args.self.now.rule c.args.self.now.gap c.args.self.now.rows r ≡ None) c.new-row.ensures.row (sym c.in_default.ensures)
