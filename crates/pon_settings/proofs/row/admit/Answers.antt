use Rattle.std.proofs.Common.{◌≡◌, ◌∙◌, ap, refl, subst, sym}
use Rattle.std.specs.Prelude.{Some, None}
use Rattle.std.specs.Option.{option_and_then}
use Rattle.toml.specs.View.{table_view, view}
use Rattle.pon_descr.specs.Checks.{or_else}
use Rattle.pon_admit.specs.Roster.{refuses_admit}
use Rattle.pon_settings.specs.declared.row.RowFault.TheVariants.{Form}
use Rattle.pon_settings.specs.Rows.{IsAdmissionFault, number_refusal, row_at, row_of}
use Rattle.pon_settings.proofs.RowFaults.{faulty_numbers, refused_row}
use Rattle.pon_settings.proofs.row.admit.Goals as goal

pub returns-in-Err-admit-clause-fault : goal.returns-in-Err-admit-clause-fault
returns-in-Err-admit-clause-fault c =
    let spelled : row_at (view c.args.value.now) ≡ Some c.in-Ok.row = ap (option_and_then row_of) (sym c.in-Some.ensures) ∙ c.in-Ok.ensures.ok.0 in
    let numbers : number_refusal c.in-Ok.row.row ≡ None = c.in-Ok.ensures.ok.1 in
    rw (c.new-in-Err-admit.ensures, c.admission_fault-fault.ensures) (refused_row c.args.roster.now (view c.args.value.now) c.in-Ok.row c.in-Err-admit.refusal spelled numbers c.in-Err-admit.ensures.refused)

pub returns-in_default-clause-fault : goal.returns-in_default-clause-fault
returns-in_default-clause-fault c =
    rw c.new.ensures (subst (λ o. IsAdmissionFault c.args.roster.now (option_and_then row_of o) Form) c.in_default.ensures refl)

pub returns-in-Err-clause-fault : goal.returns-in-Err-clause-fault
returns-in-Err-clause-fault c =
    subst (λ o. IsAdmissionFault c.args.roster.now (option_and_then row_of o) c.in-Err.fault) c.in-Some.ensures
    (faulty_numbers c.args.roster.now (row_of (table_view c.in-Some.table.now)) c.in-Err.fault c.in-Err.ensures.fault)

pub returns-in-Ok-admit-clause-ok : goal.returns-in-Ok-admit-clause-ok
returns-in-Ok-admit-clause-ok c =
    let roster = c.args.roster.now in
    record {
      spelled = ap (option_and_then row_of) (sym c.in-Some.ensures) ∙ c.in-Ok.ensures.ok.0;
      accepted = ap (λ o. or_else o (refuses_admit roster.rule roster.gap roster.rows c.in-Ok.row.row)) c.in-Ok.ensures.ok.1 ∙ c.in-Ok-admit.ensures.accepted;
      after_it = c.in-Ok-admit.ensures.ok;
    }
